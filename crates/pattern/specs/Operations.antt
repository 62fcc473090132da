-- The operations of a pattern file and their numbers. Assumes nothing.
use Rattle.std.specs.Prelude.{◌≡◌, ℕ, zero, suc, Some, None, Option, Result, MatchResult}
use Rattle.pattern.specs.declared.operation.Operation.{Operation}
use Rattle.pattern.specs.declared.operation.Operation.TheVariants.{Empty, Drops, Keeps, Text, Sequence, Choice, Star}
use Rattle.pattern.specs.declared.operation.UnknownOperation.{UnknownOperation}

abbrev pub number_of : Operation → ℕ
number_of Empty = 0
number_of Drops = 1
number_of Keeps = 2
number_of Text = 3
number_of Sequence = 4
number_of Choice = 5
number_of Star = 6

-- from 7 on there is none
abbrev pub operation_of : ℕ → Option Operation
operation_of zero = Some Empty
operation_of (suc zero) = Some Drops
operation_of (suc (suc zero)) = Some Keeps
operation_of (suc (suc (suc zero))) = Some Text
operation_of (suc (suc (suc (suc zero)))) = Some Sequence
operation_of (suc (suc (suc (suc (suc zero))))) = Some Choice
operation_of (suc (suc (suc (suc (suc (suc zero)))))) = Some Star
operation_of (suc (suc (suc (suc (suc (suc (suc n))))))) = None

-- the answer is the operation of this number, or an error that names a number that none has
abbrev pub Decodes : ℕ → Result Operation UnknownOperation → Type 0
Decodes n r = MatchResult r (λ o. operation_of n ≡ Some o) (λ e. (operation_of n ≡ None) × (e.0 ≡ n))
