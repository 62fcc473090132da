-- What the sink of text is about to do on an item, as the code holds it. Assumes nothing.
use Rattle.std.specs.Prelude.{◌≡◌, ℕ, ◌+◌, ◌≤◌, ◌++◌, length, Ok, Err, Result}
use Rattle.fault.specs.declared.refusal.Fault.{Fault}
use Rattle.sink.specs.Held.{held}
use Rattle.sink.specs.Limits.{stock_bytes}
use Rattle.sink.specs.Meaning.{take_answer}
use Rattle.text.specs.declared.text.Text.{Text}
use Rattle.text.specs.declared.text.Plan.{Plan}
use Rattle.text.specs.Texts.{bytes_left}
use Rattle.text.specs.TextMeaning.{text_meaning, text_next, text_added}
use Rattle.text.specs.TextState.{place_in, text_position, text_stock}

-- the item is taken: the point after it, and what it adds, which is the texts that are passed and the move's tail
pub record Plans (s : Text) (i : ℕ) (v : Plan) : Type 0 where
  pub taken : take_answer text_meaning (text_position s) (text_stock s) i ≡ Ok tt
  pub goes : place_in s.pattern.now s.manner v.then.next ≡ text_next (text_position s) i
  pub adds : bytes_left v.texts ++ v.then.tail.items ≡ text_added (text_position s) i
  pub fits : length (held s.stock) + length (text_added (text_position s) i) ≤ stock_bytes

abbrev pub Planned : Text → ℕ → Result Plan Fault → Type 0
Planned s i (Ok v) = Plans s i v
Planned s i (Err f) = Err f ≡ take_answer text_meaning (text_position s) (text_stock s) i
