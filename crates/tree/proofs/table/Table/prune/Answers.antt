use Rattle.std.proofs.Common.{refl}
use Rattle.tree.specs.Sound.{Idle}
use Rattle.tree.proofs.Loose.{pruned}
use Rattle.tree.proofs.Shedding.{pruning_as}
use Rattle.tree.proofs.table.Table.prune.Goals as goal

pub loop-self-preserved : goal.loop-self-preserved
loop-self-preserved c =
    let R = c.loop-self.invariant in
    let z = c.loop-self-test.ensures.yes refl in
    let I : Idle c.loop-self.self c.loop-self.j = record { sound = R.sound; used = R.used; childless = z.0; loose = z.1 } in
    pruning_as I c.args.self.now R _ _ c.shed-j.ensures.value c.shed-j.ensures.after

pub returns : goal.returns
returns c = pruned c.args.self.now c.loop-self.j c.loop-self.self c.loop-self.invariant (c.loop-self-test.ensures.no refl)
