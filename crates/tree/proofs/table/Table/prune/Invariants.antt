use Rattle.tree.specs.Limits.{slot_count}
use Rattle.std.proofs.Common.{◌-◌}
use Rattle.tree.specs.Sound.{left}
use Rattle.tree.proofs.Moves.{Pruning}
use Rattle.tree.proofs.table.Table.prune.Given as goal

abbrev pub invariant-loop-self : goal.invariant-loop-self
invariant-loop-self l = Pruning l.initial.self l.j l.self

abbrev pub decreases-loop-self : goal.decreases-loop-self
decreases-loop-self l = slot_count - left l.self
