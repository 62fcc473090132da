-- Items handed to a sink, and one of its channels poured then. Assumes nothing.
use Rattle.std.specs.Prelude.{ℕ, List, take, Ok, Err, Result}
use Rattle.fault.specs.declared.refusal.Fault.{Fault}
use Rattle.sink.specs.Meaning.{Meaning, Stocks, pour_answer}
use Rattle.sink.specs.Handing.{moved_by, grown_by, taken_count, hand_answer}

-- the second answer, unless the first is a refusal
abbrev pub if_taken : Result (Unit {0}) Fault → Result ℕ Fault → Result ℕ Fault
if_taken (Ok x) r = r
if_taken (Err f) r = Err f

module _ (m : Meaning) where
  -- the items that are taken, up to the first that is refused
  abbrev pub taken_items : m.Position → Stocks → List ℕ → List ℕ
  taken_items p s xs = take (taken_count m p s xs) xs

  -- where those lead to, and what each channel holds then
  abbrev pub position_then : m.Position → Stocks → List ℕ → m.Position
  position_then p s xs = moved_by m p (taken_items p s xs)

  abbrev pub stocks_then : m.Position → Stocks → List ℕ → Stocks
  stocks_then p s xs = grown_by m p s (taken_items p s xs)

  -- the answer of handing the items over and then pouring channel c into a buffer of n bytes; the first refusal ends it
  abbrev pub write_answer : m.Position → Stocks → List ℕ → ℕ → ℕ → Result ℕ Fault
  write_answer p s xs c n = if_taken (hand_answer m p s xs) (pour_answer m (stocks_then p s xs) c n)
