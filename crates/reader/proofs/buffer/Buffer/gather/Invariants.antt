use Rattle.std.proofs.Common.{◌≡◌, ◌+◌, ◌-◌, length}
use Rattle.tree.specs.Limits.{capacity}
use Rattle.tree.specs.Held.{room}
use Rattle.reader.specs.Calls.{held_in}
use Rattle.reader.specs.Gather.{Gathered}
use Rattle.reader.proofs.buffer.Buffer.gather.Given as goal

abbrev pub invariant-loop-item : goal.invariant-loop-item
invariant-loop-item l = record { all : Gathered l.initial.tree (held_in l.self) l.tree; came : length (held_in l.self) + room l.initial.tree ≡ room l.tree }

abbrev pub decreases-loop-item : goal.decreases-loop-item
decreases-loop-item l = capacity + 1 - room l.tree
