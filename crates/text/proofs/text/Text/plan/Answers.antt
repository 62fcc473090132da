use Rattle.std.proofs.Common.{◌+◌, ◌<◌, length, Err, ap, ◌∙◌, arith, rules, length-take}
use Rattle.sink.specs.Limits.{stock_bytes}
use Rattle.sink.specs.Held.{held}
use Rattle.text.specs.Texts.{bytes_left}
use Rattle.text.proofs.Taking.{plans_here, full_here, unexpected_here}
use Rattle.text.proofs.text.Text.plan.Goals as goal
use Rattle.text.proofs.text.Text.plan.Goals.{then-long-room-via-then-long-room, then-long-room-via-else-long-room+then-more-room}

pub returns-in_err-then : goal.returns-in_err-then
returns-in_err-then c =
    let s = c.args.self.now in
    let unexpected = unexpected_here s c.in_ok-from.from c.args.item c.in_ok-from.ensures.ok_part c.pass-passage.result.kind c.pass-passage.ensures.kind
    c.move_at.result c.move_at.ensures c.in_err-then.ensures.ok_part in
    search rules

pub returns-then-long-room : goal.returns-then-long-room
returns-then-long-room c =
    let s = c.args.self.now in
    let from = c.in_ok-from.from in
    let v = c.in_ok-then.then in
    let l : stock_bytes < length (held s.stock) + (length (bytes_left record { pattern = s.pattern; at = from }) + length v.tail.items) =
    elim c.then-long-room.branch [
      | then-long-room-via-then-long-room w ↦ omega (arith, w.if-long-room.true, c.pass-passage.ensures.long, c.len-room.ensures)
      | then-long-room-via-else-long-room+then-more-room w ↦ omega (arith, w.if-more-room.true, c.pass-passage.ensures.long, c.len-room.ensures)
    ] in
    ap Err c.refused-then-long-room.ensures
    ∙ full_here s from c.args.item c.in_ok-from.ensures.ok_part c.pass-passage.result.kind c.pass-passage.ensures.kind
    c.move_at.result c.move_at.ensures v c.in_ok-then.ensures.ok_part l

pub returns : goal.returns
returns c =
    let s = c.args.self.now in
    plans_here s c.in_ok-from.from c.args.item c.in_ok-from.ensures.ok_part c.pass-passage.result.kind c.pass-passage.ensures.kind
    c.move_at.result c.move_at.ensures c.in_ok-then.then c.in_ok-then.ensures.ok_part
    (omega (
      arith,
      c.if-more-room.false,
      c.if-long-room.false,
      c.pass-passage.ensures.long,
      c.len-room.ensures,
      length-take s.stock.len s.stock.bytes,
      s.stock.within,
    ))
