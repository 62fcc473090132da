-- The bits of a byte that is not full yet, as the code holds them: a number and how many bits it has. Assumes nothing.
use Rattle.std.specs.Prelude.{◌≡◌, ℕ, zero, suc, ◌/◌, ◌%◌, Bool, true, false, List, [], ◌∷◌, ◌++◌, Some, None, Ok, Err, Option, Result, ◌==◌}
use Rattle.std.specs.Option.{option_to_list}
use Rattle.fault.specs.declared.refusal.Fault.{Fault}
use Rattle.fault.specs.declared.cause.Cause.TheVariants.{NotExpected}
use Rattle.sink.specs.declared.unfilled.Unfilled.{Unfilled}
use Rattle.sink.specs.declared.unfilled.Step.{Step}
use Rattle.sink.specs.Meaning.{sink_fault}
use Rattle.sink.specs.BitsMeaning.{BitsPosition, unfilled, ended, bits_expected, bits_next, bits_added}

-- the n lowest bits of a number, highest first
abbrev pub bits_of : ℕ → ℕ → List Bool
bits_of v zero = []
bits_of v (suc n) = bits_of (v / 2) n ++ (v % 2 == 1) ∷ []

abbrev pub bits_in : Unfilled → List Bool
bits_in u = bits_of u.value u.count

-- nothing unfilled is kept after the end mark
abbrev pub position_of : Option Unfilled → BitsPosition
position_of (Some u) = unfilled (bits_in u)
position_of None = ended

-- the step is what the item does at the position
pub record Steps (p : BitsPosition) (i : ℕ) (s : Step) : Type 0 where
  pub moved : position_of s.after ≡ bits_next p i
  pub added : option_to_list s.byte ≡ bits_added p i

-- the step of an item that is expected, and a refusal of any other
abbrev pub StepFor : BitsPosition → ℕ → Result Step Fault → Type 0
StepFor p i (Ok s) = (bits_expected p i ≡ true) × Steps p i s
StepFor p i (Err f) = (bits_expected p i ≡ false) × (f ≡ sink_fault NotExpected)
