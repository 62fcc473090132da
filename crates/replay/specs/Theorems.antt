-- What is proved of a replay, in the words of walks. L is what an alphabet means, e the expression of the pattern. Assumes nothing.
use Rattle.std.specs.Prelude.{◌≡◌, ℕ, ◌+◌, ◌≤◌, Bool, true, ◌↔◌, List, [], ◌∷◌, ◌++◌, length, Ok, Err, Result}
use Rattle.fault.specs.declared.refusal.Fault.{Fault}
use Rattle.fault.specs.declared.cause.Cause.TheVariants.{NotAWalk, UnknownClass}
use Rattle.alphabet.specs.Items.{end_mark}
use Rattle.alphabet.specs.Choices.{choices, packed}
use Rattle.alphabet.specs.Meaning.{Meaning as Letters}
use Rattle.pattern.specs.declared.step.Step.{Step}
use Rattle.pattern.specs.declared.pattern.Pattern.{Pattern}
use Rattle.pattern.specs.Expressions.{Expr, size}
use Rattle.pattern.specs.Points.{start}
use Rattle.pattern.specs.Patterns.{entry_of, Is}
use Rattle.walk.specs.Graphs.{Points, steps, none, graph_of, LacksClass}
use Rattle.walk.specs.Codes.{Code, Begins}
use Rattle.walk.specs.Theorems.{AllowedIn, GreedyIn, WithinClasses}
use Rattle.sink.specs.Meaning.{Meaning, Stocks}
use Rattle.sink.specs.Handing.{moved_by, grown_by, all_taken}
use Rattle.replay.specs.Bits.{bits_of}
use Rattle.replay.specs.Tracing.{Verdict, complete, Traces}
use Rattle.replay.specs.Computed.{told, trace}
use Rattle.replay.specs.Outcome.{placed, Outcome, Replays}

-- a code with the end mark
abbrev pub marked : Code → Code
marked c = c ++ (end_mark ∷ [])

module _ {Symbol : Type 0} (L : Letters Symbol) (e : Expr) where
  -- an allowed walk over the symbols to the end point has the code c
  abbrev pub Completes : List Symbol → Code → Type 0
  Completes w c = AllowedIn L e w (size e) c

  -- the bytes are the bits, filled with zeros, of an allowed walk over the symbols to the end point, with this code
  pub record Filed (bytes : List ℕ) (w : List Symbol) (c : Code) : Type 0 where
    pub walk : Completes w c
    pub packs : bytes ≡ packed (choices c)

  module _ (bytes : List ℕ) (w : List Symbol) (m : Meaning) (p : m.Position) (s : Stocks) (r : Result ℕ Fault) (p' : m.Position) (s' : Stocks) where
    -- the items d were taken in turn, and no others
    pub record Took (d : Code) : Type 0 where
      pub taken : all_taken m p s d ≡ true
      pub moved : p' ≡ moved_by m p d
      pub stocked : s' ≡ grown_by m p s d

    -- what is known of a replay into any sink
    pub record Follows : Type 0 where
      -- what is accepted is such bytes, and the sink took all of the walk's code and the end mark
      pub accepted : (n : ℕ) → r ≡ Ok n → (c : Code) × Filed bytes w c × (n ≡ length c + 1) × Took (marked c)
      -- such bytes hand over the walk's code and the end mark, up to the first item that the sink refuses
      pub hands : (c : Code) → Filed bytes w c → Outcome m p s (marked c) complete r p' s'
      -- so what was handed over is a beginning of these, and all of them if it is accepted
      pub begins : (c : Code) → Filed bytes w c → (d : Code) × Begins (marked c) d × Took d × ((n : ℕ) → r ≡ Ok n → d ≡ marked c)
      -- bits of no allowed walk are never accepted
      pub otherwise : ((c : Code) → Filed bytes w c → ⊥) → (f : Fault) × (r ≡ Err f)
      -- no two walks over the symbols have the same bytes
      pub one : (c d : Code) → Filed bytes w c → Filed bytes w d → c ≡ d

    -- the same into a sink that takes all that it is handed
    pub record FollowsAll : Type 0 where
      -- accepted exactly when the bytes are those of such a walk
      pub exactly : ((n : ℕ) × (r ≡ Ok n)) ↔ ((c : Code) × Filed bytes w c)
      -- and then exactly that walk's code and the end mark are handed over
      pub hands : (c : Code) → Filed bytes w c → (r ≡ Ok (length c + 1)) × Took (marked c)
      -- any other bytes are refused with 11
      pub otherwise : ((c : Code) → Filed bytes w c → ⊥) → (n : ℕ) × (r ≡ Err (placed NotAWalk n))
      -- the bits of the greedy walk of an accepted input hand over its greedy code
      pub greedy : (g : Code) → GreedyIn L e w g → bytes ≡ packed (choices g) → (r ≡ Ok (length g)) × Took g

  -- the sink takes all that a replay of the bytes hands it
  abbrev pub TakesAll : List ℕ → List Symbol → (m : Meaning) → m.Position → Stocks → Type 0
  TakesAll bytes w m p s = (c : Code) (v : Verdict) → Traces L (steps e) (bits_of bytes) w none (start e) c v → all_taken m p s c ≡ true

-- What is known of a replay, for the expression e of the pattern.
pub record WalksIn {Symbol : Type 0} (L : Letters Symbol) (e : Expr) (bytes : List ℕ) (w : List Symbol) (m : Meaning) (p : m.Position) (s : Stocks) (r : Result ℕ Fault) (p' : m.Position) (s' : Stocks) : Type 0 where
  -- where the alphabet lacks a class of it: 4, and nothing is handed over
  pub unknown : LacksClass L.classes (steps e) → (r ≡ Err (placed UnknownClass 0)) × (p' ≡ p) × (s' ≡ s)
  -- where it has them all: into any sink, and into one that takes all that it is handed
  pub any : WithinClasses L e → Follows L e bytes w m p s r p' s'
  pub all : WithinClasses L e → TakesAll L e bytes w m p s → FollowsAll L e bytes w m p s r p' s'

abbrev pub Walks : {Symbol : Type 0} → Letters Symbol → Pattern → List ℕ → List Symbol → (m : Meaning) → m.Position → Stocks → Result ℕ Fault → m.Position → Stocks → Type 0
Walks L P bytes w m p s r p' s' = (e : Expr) → Is P e → WalksIn L e bytes w m p s r p' s'

-- an input has one outcome
abbrev pub ReplayOne : {Symbol : Type 0} → Letters Symbol → Pattern → (m : Meaning) → Type 0
ReplayOne {Symbol} L P m = (bytes : List ℕ) (w : List Symbol) (p : m.Position) (s : Stocks) (r t : Result ℕ Fault) (p' p'' : m.Position) (s' s'' : Stocks) →
    Replays L (graph_of P) (entry_of P) bytes w m p s r p' s' → Replays L (graph_of P) (entry_of P) bytes w m p s t p'' s'' → (r ≡ t) × (p' ≡ p'') × (s' ≡ s'')

-- what bits trace is what the function computes, given fuel enough
abbrev pub TraceComputed : {Symbol : Type 0} → Letters Symbol → Type 0
TraceComputed {Symbol} L = (at : ℕ → Step) (bs : List Bool) (w : List Symbol) (met : Points) (p : ℕ) (c : Code) (v : Verdict) →
    Traces L at bs w met p c v ↔ ((f : ℕ) × ((g : ℕ) → f ≤ g → trace L at g bs w met p ≡ told c v))

-- in a pattern any bits trace something over any symbols
abbrev pub TracesSome : {Symbol : Type 0} → Letters Symbol → Pattern → Type 0
TracesSome {Symbol} L P = (bs : List Bool) (w : List Symbol) → (c : Code) × (v : Verdict) × Traces L (graph_of P) bs w none (entry_of P) c v
