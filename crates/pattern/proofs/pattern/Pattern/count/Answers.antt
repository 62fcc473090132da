use Rattle.std.proofs.Common.{arith}
use Rattle.pattern.proofs.Links.{count_points}
use Rattle.pattern.proofs.pattern.Pattern.count.Goals as goal

pub returns : goal.returns
returns c = omega (arith, count_points c.args.self.now)
