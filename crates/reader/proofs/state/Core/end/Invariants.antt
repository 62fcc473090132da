use Rattle.std.proofs.Common.{◌≤◌, List, drop}
use Rattle.walk.specs.Search.{Reached}
use Rattle.tree.specs.Held.{room}
use Rattle.reader.specs.State.{Standing, step_space}
use Rattle.reader.proofs.Ending.{Picking}
use Rattle.reader.proofs.state.Core.end.Given as goal

abbrev pub invariant-loop-walk : goal.invariant-loop-walk
invariant-loop-walk g l = record {
  picks : (ls : List Reached) → Standing l.fn.self.traversal.tree l.fn.self.live.items ls → Picking l.end l.tree (drop l.walk-index l.walk-items) ls;
  space : step_space ≤ room l.tree;
}
