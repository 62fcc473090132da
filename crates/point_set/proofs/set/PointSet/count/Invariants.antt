use Rattle.std.proofs.Common.{◌≡◌, ◌*◌, ◌≤◌, take}
use Rattle.point_set.specs.Flags.{flags, tally}
use Rattle.point_set.proofs.set.PointSet.count.Given as goal

abbrev pub invariant-loop-word : goal.invariant-loop-word
invariant-loop-word l = (l.n ≤ 64 * l.word-index) × (l.n ≡ tally (flags (take l.word-index l.self.words)))
