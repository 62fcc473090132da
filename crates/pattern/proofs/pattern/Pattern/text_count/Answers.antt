use Rattle.std.proofs.Common.{arith}
use Rattle.pattern.proofs.Links.{count_text}
use Rattle.pattern.proofs.pattern.Pattern.text_count.Goals as goal

pub returns : goal.returns
returns c = omega (arith, count_text c.args.self.now)
