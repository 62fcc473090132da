-- What the sink of marks means: one byte for each item, in channel 0; the position is how many items it still expects. Assumes nothing.
use Rattle.std.specs.Prelude.{ℕ, ◌-◌, ◌%◌, cond, [], ◌∷◌, ◌==◌, nat_lt}
use Rattle.alphabet.specs.Items.{first_branch, second_branch, first_read, end_mark}
use Rattle.sink.specs.Meaning.{Meaning, Stocks, alone, one_channel}
use Rattle.sink.specs.Held.{held}
use Rattle.reading_trial.specs.declared.marks.Marks.{Marks}

-- the byte of an item: < and > for the branches, a full stop for the end mark, the low byte of a symbol's number for its read
abbrev pub mark_of : ℕ → ℕ
mark_of i =
    cond (i == first_branch) 60
    (cond (i == second_branch) 62
    (cond (i == end_mark) 46 ((i - first_read) % 256)))

abbrev pub marks_meaning : Meaning
marks_meaning = one_channel ℕ (λ n i. nat_lt 0 n) (λ n i. n - 1) (λ n i. mark_of i ∷ [])

abbrev pub marks_stock : Marks → Stocks
marks_stock s = alone (held s.stock) []
