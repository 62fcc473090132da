-- What bits trace, as a function that computes. Assumes nothing.
use Rattle.std.specs.Prelude.{ℕ, zero, suc, Bool, true, false, List, [], ◌∷◌}
use Rattle.alphabet.specs.Items.{first_branch, second_branch, read_item, end_mark}
use Rattle.alphabet.specs.Meaning.{Meaning}
use Rattle.pattern.specs.declared.step.Step.{Step}
use Rattle.pattern.specs.declared.step.Step.TheVariants.{Read, Pass, Fork, End}
use Rattle.walk.specs.Graphs.{Points, none, add}
use Rattle.walk.specs.Codes.{Code}
use Rattle.replay.specs.Bits.{most_filling}
use Rattle.replay.specs.Tracing.{Verdict, complete, broken}

-- the items and the verdict, or that the fuel has run out
pub data Told : Type 0 where
  told : Code → Verdict → Told
  untold : Told

-- with one item before
abbrev pub more : ℕ → Told → Told
more i (told c v) = told (i ∷ c) v
more i untold = untold

-- at most n bits, each of them 0
abbrev pub few : ℕ → List Bool → Bool
few n [] = true
few zero (b ∷ bs) = false
few (suc n) (true ∷ bs) = false
few (suc n) (false ∷ bs) = few n bs

-- it goes on if the test holds, and breaks off otherwise
abbrev pub if_so : Bool → Told → Told
if_so true t = t
if_so false t = told [] broken

module _ {Symbol : Type 0} (L : Meaning Symbol) (at : ℕ → Step) where
  -- one point, which is met already or not; `met` has it now, and `go` goes on from the next
  abbrev pub visit : Bool → Step → List Bool → List Symbol → Points → (List Bool → List Symbol → Points → ℕ → Told) → Told
  visit true x bs w met go = told [] broken
  visit false (Pass k) bs w met go = go bs w met k
  visit false (Fork a b) [] w met go = told [] broken
  visit false (Fork a b) (false ∷ bs) w met go = more first_branch (go bs w met a)
  visit false (Fork a b) (true ∷ bs) w met go = more second_branch (go bs w met b)
  visit false (Read class k) bs [] met go = told [] broken
  visit false (Read class k) bs (s ∷ w) met go = if_so (L.belongs class s) (more (read_item (L.number s)) (go bs w none k))
  visit false End bs (s ∷ w) met go = told [] broken
  visit false End bs [] met go = if_so (few most_filling bs) (told (end_mark ∷ []) complete)

  -- from a point on; `fuel` is more than the number of points that are come to
  unfoldable pub trace : ℕ → List Bool → List Symbol → Points → ℕ → Told
  trace zero bs w met p = untold
  trace (suc fuel) bs w met p = visit (met p) (at p) bs w (add p met) (trace fuel)
