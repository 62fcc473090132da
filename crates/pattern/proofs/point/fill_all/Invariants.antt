use Rattle.std.proofs.Common.{◌≡◌, ◌++◌, map, take, drop}
use Rattle.pattern.specs.Points.{fill}
use Rattle.pattern.proofs.point.fill_all.Given as goal

abbrev pub invariant-loop-p : goal.invariant-loop-p
invariant-loop-p l = l.points ≡ map (fill l.next) (take l.p-index l.initial.points) ++ drop l.p-index l.initial.points
