-- What a replay comes to: the items that the bits trace, handed to a sink one after another. Assumes nothing.
use Rattle.std.specs.Prelude.{◌≡◌, ℕ, ◌+◌, cond, ◌&&◌, ◌⊎◌, List, [], ◌∷◌, length, Ok, Err, Result, nat_le}
use Rattle.fault.specs.declared.refusal.Fault.{Fault}
use Rattle.fault.specs.declared.cause.Cause.{Cause}
use Rattle.fault.specs.declared.cause.Cause.TheVariants.{NotAWalk, UnknownClass}
use Rattle.alphabet.specs.Items.{first_read, last_read}
use Rattle.alphabet.specs.Meaning.{Meaning as Letters}
use Rattle.pattern.specs.declared.step.Step.{Step}
use Rattle.walk.specs.Graphs.{none, ClassesBelow, LacksClass}
use Rattle.walk.specs.Codes.{Code}
use Rattle.sink.specs.Meaning.{Meaning, Stocks}
use Rattle.sink.specs.Handing.{hand_answer}
use Rattle.sink.specs.Writing.{taken_items, position_then, stocks_then}
use Rattle.replay.specs.Bits.{bits_of}
use Rattle.replay.specs.Tracing.{Verdict, complete, broken, Traces}

-- how many read items a list of items has
abbrev pub reads_in : Code → ℕ
reads_in [] = 0
reads_in (i ∷ c) = cond (nat_le first_read i && nat_le i last_read) 1 0 + reads_in c

-- a cause at a place
abbrev pub placed : Cause → ℕ → Fault
placed k n = record { cause = k; place = n }

-- the answer where the sink took all items that were traced: their number, or 11
abbrev pub full_answer : Code → Verdict → Result ℕ Fault
full_answer c complete = Ok (length c)
full_answer c broken = Err (placed NotAWalk (reads_in c))

-- the answer, from that of the sink to the items: its refusal passes with its cause, and the place is the count of read items taken
abbrev pub answer : Result (Unit {0}) Fault → Code → Code → Verdict → Result ℕ Fault
answer (Ok x) taken c v = full_answer c v
answer (Err f) taken c v = Err (placed f.cause (reads_in taken))

-- The items c with the verdict v handed to a sink at p with the stocks s: the answer r, and where and with which stocks it leaves the sink.
-- The items are taken in turn, up to the first that the sink refuses.
pub record Outcome (m : Meaning) (p : m.Position) (s : Stocks) (c : Code) (v : Verdict) (r : Result ℕ Fault) (p' : m.Position) (s' : Stocks) : Type 0 where
  pub answers : r ≡ answer (hand_answer m p s c) (taken_items m p s c) c v
  pub moved : p' ≡ position_then m p s c
  pub stocked : s' ≡ stocks_then m p s c

-- a class of the pattern is unknown to the alphabet: 4, and nothing is handed over
pub record Barred (at : ℕ → Step) (count : ℕ) (m : Meaning) (p : m.Position) (s : Stocks) (r : Result ℕ Fault) (p' : m.Position) (s' : Stocks) : Type 0 where
  pub unknown : LacksClass count at
  pub answers : r ≡ Err (placed UnknownClass 0)
  pub stays : p' ≡ p
  pub keeps : s' ≡ s

module _ {Symbol : Type 0} (L : Letters Symbol) (at : ℕ → Step) (from : ℕ) where
  -- all classes are known: what the bits trace is handed to the sink
  pub record Led (bytes : List ℕ) (w : List Symbol) (m : Meaning) (p : m.Position) (s : Stocks) (r : Result ℕ Fault) (p' : m.Position) (s' : Stocks) : Type 0 where
    pub known : ClassesBelow L.classes at
    pub code : Code
    pub verdict : Verdict
    pub traces : Traces L at (bits_of bytes) w none from code verdict
    pub outcome : Outcome m p s code verdict r p' s'

  -- a replay of these bytes over the symbols w into a sink at p with the stocks s answers r, and leaves the sink at p' with the stocks s'
  abbrev pub Replays : List ℕ → List Symbol → (m : Meaning) → m.Position → Stocks → Result ℕ Fault → m.Position → Stocks → Type 0
  Replays bytes w m p s r p' s' = Barred at L.classes m p s r p' s' ⊎ Led bytes w m p s r p' s'
