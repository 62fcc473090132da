use Rattle.std.proofs.Common.{arith}
use Rattle.tree.proofs.Holding.{room_bound}
use Rattle.reader.proofs.Gathering.{gathered_more, parted_same}
use Rattle.reader.proofs.buffer.Buffer.gather.Goals as goal

pub push-requires : goal.push-requires
push-requires c =
    let b = room_bound c.take_first.new.self in
    omega (arith, b, c.in-Some.ensures.left, c.loop-item.invariant.came)

pub loop-item-preserved : goal.loop-item-preserved
loop-item-preserved c = record {
  all = gathered_more _ _ _ _ _ _ c.loop-item.invariant.all c.in-Some.ensures c.push.ensures.items;
  came = omega (arith, c.in-Some.ensures.left, c.push.ensures.len, c.loop-item.invariant.came);
}

pub loop-item-smaller : goal.loop-item-smaller
loop-item-smaller c =
    let b = room_bound c.take_first.new.self in
    omega (arith, b, c.in-Some.ensures.left)

pub returns-clause-parted : goal.returns-clause-parted
returns-clause-parted c = let E = c.in_default.ensures in parted_same _ _ E.0 E.1
