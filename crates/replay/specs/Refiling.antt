-- Bits that are replayed into a fresh sink of bits are filed again as they were. Assumes nothing.
use Rattle.std.specs.Prelude.{◌≡◌, ℕ, ◌+◌, true, List, [], length, Ok, Result}
use Rattle.fault.specs.declared.refusal.Fault.{Fault}
use Rattle.alphabet.specs.Choices.{choices, packed}
use Rattle.alphabet.specs.Meaning.{Meaning as Letters}
use Rattle.pattern.specs.declared.pattern.Pattern.{Pattern}
use Rattle.pattern.specs.Expressions.{Expr}
use Rattle.pattern.specs.Patterns.{entry_of, Is}
use Rattle.walk.specs.Codes.{Code}
use Rattle.walk.specs.Theorems.{GreedyIn, WithinClasses}
use Rattle.sink.specs.Meaning.{Meaning, Stocks, nothing, alone}
use Rattle.sink.specs.PairMeaning.{pair_meaning, pair_stocks}
use Rattle.sink.specs.BitsMeaning.{BitsPosition, bits_meaning, unfilled, ended}
use Rattle.sink.specs.Handing.{moved_by, grown_by, all_taken}
use Rattle.text.specs.declared.manner.Manner.{Manner}
use Rattle.text.specs.TextMeaning as text
use Rattle.text.specs.TextMeaning.{TextPosition, text_meaning, text_of_items}
use Rattle.text.specs.TextState.{start_of}
use Rattle.walk.specs.Graphs.{graph_of}
use Rattle.replay.specs.Bits.{Bytes}
use Rattle.replay.specs.Outcome.{Replays}
use Rattle.replay.specs.Theorems.{Filed, marked}

module _ {Symbol : Type 0} (L : Letters Symbol) (P : Pattern) where
  -- an accepted replay of bytes into a fresh sink of bits leaves it ended, with these bytes as its stock
  abbrev pub Refiles : Type 0
  Refiles = (e : Expr) → Is P e → (bytes : List ℕ) → Bytes bytes → (w : List Symbol) (r : Result ℕ Fault) (p : BitsPosition) (s : Stocks) →
      Replays L (graph_of P) (entry_of P) bytes w bits_meaning (unfilled []) nothing r p s → (n : ℕ) → r ≡ Ok n →
      (p ≡ ended) × (s ≡ alone bytes [])

  -- an accepted replay into a pair of a fresh sink of bits and any other sink, at q with the stocks t, leaves these bytes and what the other makes of the walk's code and the end mark
  pub record LeftBeside (e : Expr) (bytes : List ℕ) (w : List Symbol) (m : Meaning) (q : m.Position) (t : Stocks) (n : ℕ) (p : BitsPosition × m.Position) (s : Stocks) : Type 0 where
    pub code : Code
    pub filed : Filed L e bytes w code
    pub count : n ≡ length code + 1
    pub moved : p ≡ (ended, moved_by m q (marked code))
    pub stocked : s ≡ pair_stocks (alone bytes []) (grown_by m q t (marked code))

  abbrev pub RefilesBeside : (m : Meaning) → Type 0
  RefilesBeside m = (e : Expr) → Is P e → (bytes : List ℕ) → Bytes bytes → (w : List Symbol) (q : m.Position) (t : Stocks) (r : Result ℕ Fault) (p : BitsPosition × m.Position) (s : Stocks) →
      Replays L (graph_of P) (entry_of P) bytes w (pair_meaning bits_meaning m) (unfilled [], q) (pair_stocks nothing t) r p s → (n : ℕ) → r ≡ Ok n →
      LeftBeside e bytes w m q t n p s

  -- The bits of a greedy code replayed so, where the pair takes the greedy code: it is handed over whole, and leaves the same bits and what the other sink makes of it.
  pub record LeftGreedy (m : Meaning) (q : m.Position) (t : Stocks) (g : Code) (r : Result ℕ Fault) (p : BitsPosition × m.Position) (s : Stocks) : Type 0 where
    pub answers : r ≡ Ok (length g)
    pub moved : p ≡ (ended, moved_by m q g)
    pub stocked : s ≡ pair_stocks (alone (packed (choices g)) []) (grown_by m q t g)

  abbrev pub RefilesGreedy : (m : Meaning) → Type 0
  RefilesGreedy m = (e : Expr) → Is P e → WithinClasses L e → (w : List Symbol) (g : Code) → GreedyIn L e w g → (q : m.Position) (t : Stocks) →
      all_taken (pair_meaning bits_meaning m) (unfilled [], q) (pair_stocks nothing t) g ≡ true → (r : Result ℕ Fault) (p : BitsPosition × m.Position) (s : Stocks) →
      Replays L (graph_of P) (entry_of P) (packed (choices g)) w (pair_meaning bits_meaning m) (unfilled [], q) (pair_stocks nothing t) r p s → LeftGreedy m q t g r p s

  -- with a fresh sink of text over the same pattern as the other: the same bits, and the text of the greedy walk
  pub record LeftText (manner : Manner) (g : Code) (r : Result ℕ Fault) (p : BitsPosition × TextPosition) (s : Stocks) : Type 0 where
    pub answers : r ≡ Ok (length g)
    pub moved : p ≡ (ended, text.ended)
    pub stocked : s ≡ pair_stocks (alone (packed (choices g)) []) (alone (text_of_items (start_of P manner) g) [])

  abbrev pub RefilesText : Type 0
  RefilesText = (e : Expr) → Is P e → WithinClasses L e → (w : List Symbol) (g : Code) → GreedyIn L e w g → (manner : Manner) →
      all_taken (pair_meaning bits_meaning text_meaning) (unfilled [], start_of P manner) (pair_stocks nothing nothing) g ≡ true → (r : Result ℕ Fault) (p : BitsPosition × TextPosition) (s : Stocks) →
      Replays L (graph_of P) (entry_of P) (packed (choices g)) w (pair_meaning bits_meaning text_meaning) (unfilled [], start_of P manner) (pair_stocks nothing nothing) r p s → LeftText manner g r p s
