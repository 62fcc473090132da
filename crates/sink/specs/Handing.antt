-- A list of items handed to a sink, one after another. Assumes nothing.
use Rattle.std.specs.Prelude.{ℕ, suc, Bool, cond, List, [], ◌∷◌, is_ok, Ok, Result}
use Rattle.fault.specs.declared.refusal.Fault.{Fault}
use Rattle.sink.specs.Meaning.{Meaning, Stocks, take_answer, grown}

module _ (m : Meaning) where
  -- the position after the items
  abbrev pub moved_by : m.Position → List ℕ → m.Position
  moved_by p [] = p
  moved_by p (x ∷ xs) = moved_by (m.next p x) xs

  -- the stocks after the items
  abbrev pub grown_by : m.Position → Stocks → List ℕ → Stocks
  grown_by p s [] = s
  grown_by p s (x ∷ xs) = grown_by (m.next p x) (grown m p s x) xs

  -- how many of the items are taken, up to the first that is refused
  abbrev pub taken_count : m.Position → Stocks → List ℕ → ℕ
  taken_count p s [] = 0
  taken_count p s (x ∷ xs) = cond (is_ok (take_answer m p s x)) (suc (taken_count (m.next p x) (grown m p s x) xs)) 0

  -- the answer to the first item that is refused, or that all are taken
  abbrev pub hand_answer : m.Position → Stocks → List ℕ → Result (Unit {0}) Fault
  hand_answer p s [] = Ok tt
  hand_answer p s (x ∷ xs) = cond (is_ok (take_answer m p s x)) (hand_answer (m.next p x) (grown m p s x) xs) (take_answer m p s x)

  -- each of the items is taken in turn
  abbrev pub all_taken : m.Position → Stocks → List ℕ → Bool
  all_taken p s xs = is_ok (hand_answer p s xs)
