use Rattle.std.proofs.Common.{length, ap, arith, length-append}
use Rattle.sink.specs.Held.{held}
use Rattle.text.proofs.Taking.{taken_in}
use Rattle.text.proofs.passing.Texts.append_to.Goals as goal

pub unwrap-requires : goal.unwrap-requires
unwrap-requires c =
    let left = simp length-append at (ap length c.loop-text.invariant.2) in
    let text = simp length-append at (ap length c.in-Some.ensures.steps.bytes) in
    taken_in (held c.loop-text.stock) c.in-Some.text.now c.append.result (omega arith) c.append.ensures.answer
