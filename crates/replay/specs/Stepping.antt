-- One point of a replay. Assumes nothing.
use Rattle.std.specs.Prelude.{◌≡◌, ℕ, false, cond, List, [], ◌∷◌, Ok, Err, Result, slice_index_or}
use Rattle.fault.specs.declared.refusal.Fault.{Fault}
use Rattle.fault.specs.declared.cause.Cause.TheVariants.{NotAWalk}
use Rattle.alphabet.specs.Items.{read_item}
use Rattle.alphabet.specs.Meaning.{Meaning as Letters}
use Rattle.point_set.specs.Members.{members}
use Rattle.point_set.specs.declared.set.PointSet.{PointSet}
use Rattle.walk.specs.Graphs.{Points}
use Rattle.sink.specs.Meaning.{Meaning, Stocks, take_answer, grown}
use Rattle.replay.specs.Outcome.{placed}

-- a set of points as the theory of walks has it
abbrev pub met_of : PointSet → Points
met_of s k = slice_index_or (members s) k false

-- the item of reading the next symbol of these, after n: 11 if there is none or it lies outside the class
abbrev pub next_item : {Symbol : Type 0} → Letters Symbol → ℕ → List Symbol → ℕ → Result ℕ Fault
next_item L class [] n = Err (placed NotAWalk n)
next_item L class (x ∷ w) n = cond (L.belongs class x) (Ok (read_item (L.number x))) (Err (placed NotAWalk n))

-- an item handed to a sink after n symbols: a refusal passes with its cause
abbrev pub Hands : (m : Meaning) → m.Position → Stocks → ℕ → ℕ → Result (Unit {0}) Fault → m.Position → Stocks → Type 0
Hands m p s i n (Ok x) p' s' = (Ok x ≡ take_answer m p s i) × (p' ≡ m.next p i) × (s' ≡ grown m p s i)
Hands m p s i n (Err f) p' s' = (g : Fault) × (Err g ≡ take_answer m p s i) × (f ≡ placed g.cause n) × (p' ≡ p) × (s' ≡ s)
