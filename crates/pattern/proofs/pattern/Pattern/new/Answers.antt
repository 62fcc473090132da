use Rattle.std.proofs.Common.{refl, arith, lit≤}
use Rattle.pattern.specs.Expressions.{empty}
use Rattle.pattern.proofs.pattern.Pattern.new.Goals as goal

pub invariant_of-result : goal.invariant_of-result
invariant_of-result c =
    record { inside = omega arith; little = omega arith; made = ∣ (empty, record { points = refl; text = refl; entry = refl; few = lit≤ tt; little = lit≤ tt; low = lit≤ tt }) ∣₁ }
