use Rattle.std.proofs.Common.{arith}
use Rattle.point_set.proofs.Digits.{insert_is}
use Rattle.point_set.proofs.set.PointSet.insert.Goals as goal

pub returns : goal.returns
returns c = insert_is c.args.self.now.words c.args.point (omega arith)
