use Rattle.std.proofs.Common.{arith}
use Rattle.sink.proofs.BitLists.{more_next, more_added}
use Rattle.sink.proofs.unfilled.Unfilled.with_bit.Goals as goal

pub returns-else-self-eq7 : goal.returns-else-self-eq7
returns-else-self-eq7 c =
    let u = c.args.self in
    record {
      moved = more_next u.value c.args.bit u.count (omega arith) c.requires;
      added = more_added u.value c.args.bit u.count (omega arith) c.requires;
    }
