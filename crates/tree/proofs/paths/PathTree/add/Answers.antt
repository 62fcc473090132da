use Rattle.std.proofs.Common.{refl, arith}
use Rattle.std.proofs.lemmas.Result.{err_from_is_err_and}
use Rattle.tree.proofs.Grown.{s_slot, p_uses, p_below, up_kept, added_as}
use Rattle.tree.proofs.Holding.{ready, added, says, barred}
use Rattle.tree.proofs.paths.PathTree.add.Goals as goal

pub returns-in_err-vet-clause-adds : goal.returns-in_err-vet-clause-adds
returns-in_err-vet-clause-adds c =
    let p = err_from_is_err_and c.from_residual.result c.from_residual.ensures.1 in
    rw (p.1, p.2) (says c.args.self.now c.args.under c.args.item _ c.in_err-vet.ensures, refl)

pub returns-in_err-vet-clause-granted : goal.returns-in_err-vet-clause-granted
returns-in_err-vet-clause-granted c = λ A.
    let t = c.args.self.now in
    absurd (barred t c.args.under c.args.item _ (says t c.args.under c.args.item _ c.in_err-vet.ensures) A)

pub bounds-self-slot : goal.bounds-self-slot
bounds-self-slot c = s_slot (ready c.args.self.now c.pop.ensures.items c.unwrap-slot.ensures c.in_ok-vet.ensures)

pub with_child-requires-clause-uses : goal.with_child-requires-clause-uses
with_child-requires-clause-uses c =
    let R = ready c.args.self.now c.pop.ensures.items c.unwrap-slot.ensures c.in_ok-vet.ensures in
    rw (up_kept R) (omega (arith, p_uses R))

pub with_child-requires-clause-below : goal.with_child-requires-clause-below
with_child-requires-clause-below c =
    let R = ready c.args.self.now c.pop.ensures.items c.unwrap-slot.ensures c.in_ok-vet.ensures in
    rw (up_kept R) (omega (arith, p_below R, s_slot R))

pub invariant_of-self : goal.invariant_of-self
invariant_of-self c =
    let R = ready c.args.self.now c.pop.ensures.items c.unwrap-slot.ensures c.in_ok-vet.ensures in
    record { sound = ∣ (added_as R c.default.result c.with_child.result c.default.ensures c.with_child.ensures).sound ∣₁ }

pub returns-clause-adds : goal.returns-clause-adds
returns-clause-adds c =
    let R = ready c.args.self.now c.pop.ensures.items c.unwrap-slot.ensures c.in_ok-vet.ensures in
    added c.args.self.now c.args.under c.args.item c.unwrap-slot.result _ c.in_ok-vet.ensures
    (added_as R c.default.result c.with_child.result c.default.ensures c.with_child.ensures)
