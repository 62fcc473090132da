use Rattle.std.proofs.Common.{◌≡◌, ℕ, ◌+◌, ◌^◌, ◌<◌, ◌++◌, length}
use Rattle.pattern.specs.Numbers.{grouped, shortest}
use Rattle.text.proofs.tail.groups.Given as goal

-- k more groups may come before the last
abbrev pub invariant-loop-rest : goal.invariant-loop-rest
invariant-loop-rest l =
    (k : ℕ) × (length l.tail.items + k ≡ 2) × (l.rest < 128 ^ (k + 1)) × (l.tail.items ++ grouped k l.rest ≡ shortest l.number)

abbrev pub decreases-loop-rest : goal.decreases-loop-rest
decreases-loop-rest l = l.rest
