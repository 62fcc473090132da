use Rattle.std.proofs.Common.{sym, refl, inl, inr, arith}
use Rattle.tree.proofs.Loose.{root_used}
use Rattle.tree.proofs.Raising.{c_slot, c_uses, c_below, raise_room, shifted_as}
use Rattle.tree.proofs.Sharing.{unshared, not_two}
use Rattle.tree.proofs.Holding.{sound_of, sole, taken, none_shared}
use Rattle.tree.proofs.paths.PathTree.take_first.Goals as goal

pub returns-then-held : goal.returns-then-held
returns-then-held c = let t = c.args.self.now in (none_shared t (unshared t.table (sound_of t) (inr (sym c.if-held.ensures))), refl)

pub next-requires : goal.next-requires
next-requires c = let t = c.args.self.now in root_used 0 t.table (sound_of t)

pub returns-in_default : goal.returns-in_default
returns-in_default c =
    let t = c.args.self.now in
    (none_shared t (unshared t.table (sound_of t) (inl (not_two _ _ c.next.result (c.next.ensures.root refl) c.in_default.not-Only))), refl)

pub bounds-self-child : goal.bounds-self-child
bounds-self-child c = c_slot (sole c.args.self.now c.in-Only.ensures.leads (c.in-Only.ensures.root refl) c.if-held.ensures)

pub vacate-requires-clause-room : goal.vacate-requires-clause-room
vacate-requires-clause-room c = raise_room (sole c.args.self.now c.in-Only.ensures.leads (c.in-Only.ensures.root refl) c.if-held.ensures)

pub with_child-requires-clause-uses : goal.with_child-requires-clause-uses
with_child-requires-clause-uses c =
    let A = sole c.args.self.now c.in-Only.ensures.leads (c.in-Only.ensures.root refl) c.if-held.ensures in
    omega (arith, c_uses A)

pub with_child-requires-clause-below : goal.with_child-requires-clause-below
with_child-requires-clause-below c =
    let A = sole c.args.self.now c.in-Only.ensures.leads (c.in-Only.ensures.root refl) c.if-held.ensures in
    omega (arith, c_below A, c_slot A)

pub invariant_of-self : goal.invariant_of-self
invariant_of-self c =
    let A = sole c.args.self.now c.in-Only.ensures.leads (c.in-Only.ensures.root refl) c.if-held.ensures in
    record { sound = ∣ (shifted_as A c.with_child.result c.vacate.new.self c.with_child.ensures c.vacate.ensures.after).sound ∣₁ }

pub returns : goal.returns
returns c =
    let A = sole c.args.self.now c.in-Only.ensures.leads (c.in-Only.ensures.root refl) c.if-held.ensures in
    taken c.args.self.now _ _ (shifted_as A c.with_child.result c.vacate.new.self c.with_child.ensures c.vacate.ensures.after)
