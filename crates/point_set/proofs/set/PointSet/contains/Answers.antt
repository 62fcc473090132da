use Rattle.std.proofs.Common.{arith}
use Rattle.point_set.proofs.Digits.{contains_is}
use Rattle.point_set.proofs.set.PointSet.contains.Goals as goal

pub returns : goal.returns
returns c = contains_is c.args.self.now.words c.args.point (omega arith)
