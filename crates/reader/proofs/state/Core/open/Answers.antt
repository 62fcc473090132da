use Rattle.std.proofs.Common.{ap, arith}
use Rattle.arrayvec.specs.ArrayVec.{ArrayVec}
use Rattle.reader.specs.declared.state.Walk.{Walk}
use Rattle.reader.proofs.Starting.{ready_first, opened}
use Rattle.reader.proofs.state.Core.open.Goals as goal

pub spread-requires : goal.spread-requires
spread-requires c = ready_first c.new-traversal.ensures (omega arith)

pub returns : goal.returns
returns c = opened c.new-traversal.ensures c.spread.ensures c.entry.ensures.value (ap (λ (l : ArrayVec Walk). l.items) c.take-live.ensures.value) c.gather.ensures.all c.gather.ensures.parted
