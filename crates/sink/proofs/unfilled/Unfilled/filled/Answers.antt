use Rattle.std.proofs.Common.{arith}
use Rattle.sink.proofs.BitLists.{last_byte_shifted}
use Rattle.sink.proofs.unfilled.Unfilled.filled.Goals as goal

pub returns-else-self-eq0 : goal.returns-else-self-eq0
returns-else-self-eq0 c = last_byte_shifted c.args.self.value c.args.self.count (omega arith) (omega arith) c.args.self.below
