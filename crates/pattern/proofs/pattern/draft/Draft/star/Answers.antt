use Rattle.std.proofs.Common.{◌≤◌, List, ◌∷◌, length, Ok, Err, ap, arith}
use Rattle.pattern.specs.Expressions.{Expr, star}
use Rattle.pattern.specs.Held.{Hold}
use Rattle.pattern.specs.Files.{on_one}
use Rattle.pattern.specs.Drafts.{Holds, Done}
use Rattle.pattern.proofs.Drafting.{done_in, done_out, points_out, newest, one_stands, one_held, newest_within, looped, is_full, has_room, length_laid}
use Rattle.pattern.proofs.pattern.draft.Draft.star.Goals as goal
use Rattle.pattern.proofs.pattern.draft.Draft.star.Goals.{After-push-2}

pub returns-then-is_full : goal.returns-then-is_full
returns-then-is_full c n =
    one_stands _ _ _ _ c.as_slice.ensures.value (λ es. Done (on_one star n es) c.args.place (Err c.new-then-is_full.result) _) c.in-len1-up.len_at_least
    (λ e es h.
    let full = is_full (length c.args.self.now.points.items) 255 _ c.is_full.ensures.value c.if-is_full.true in
    done_out (Unit {0}) n c.args.place (star e ∷ es) _ _ c.new-then-is_full.ensures
    (points_out (star e ∷ es) (omega (arith, full, ap length h.points, length_laid (e ∷ es)))))

pub offset_bounds-deref_mut-last : goal.offset_bounds-deref_mut-last
offset_bounds-deref_mut-last c =
    let d = c.args.self.now in
    omega (arith, newest_within d.points.items _ _ _ c.as_slice.ensures.value d.held c.in-len1-up.len_at_least, ap length c.deref_mut.ensures.value, c.deref_mut.ensures.fits)

pub slice_bounds-fill_all-count : goal.slice_bounds-fill_all-count
slice_bounds-fill_all-count c =
    let d = c.args.self.now in
    omega (arith, newest_within d.points.items _ _ _ c.as_slice.ensures.value d.held c.in-len1-up.len_at_least, ap length c.deref_mut.ensures.value)

pub slice_bounds-fill_all-start : goal.slice_bounds-fill_all-start
slice_bounds-fill_all-start c =
    let d = c.args.self.now in
    let fits : (newest c.as_slice.result.now).start ≤ length c.deref_mut.result.now =
    omega (arith, newest_within d.points.items _ _ _ c.as_slice.ensures.value d.held c.in-len1-up.len_at_least, ap length c.deref_mut.ensures.value) in
    fits

next : (c : After-push-2) (e : Expr) (es : List Expr) → Holds c.args.self.now (e ∷ es)
    → Hold c.push.new.self.items c.args.self.now.text.items c.push-2.new.self.items (star e ∷ es)
next c e es h =
    let d = c.args.self.now in
    let few = has_room (length d.points.items) 255 _ c.is_full.ensures.value c.is_full.ensures.fits c.if-is_full.false in
    looped d.points.items c.push.new.self.items c.deref_mut.result.now c.fill_all.new.points d.text.items d.parts.items c.as_slice.result.now
    c.pop.new.self.items c.push-2.new.self.items c.len-star.result c.known.result c.len-star.ensures.value c.as_slice.ensures.value
    c.pop.ensures.rest c.deref_mut.ensures.value c.fill_all.ensures c.push.ensures.items c.known.ensures (omega arith) c.push-2.ensures.items e es h

pub invariant_of-self : goal.invariant_of-self
invariant_of-self c =
    record { held = one_held _ _ _ _ c.as_slice.ensures.value _ _ _ star c.args.self.now.held c.in-len1-up.len_at_least (next c) }

pub returns : goal.returns
returns c n =
    one_stands _ _ _ _ c.as_slice.ensures.value (λ es. Done (on_one star n es) c.args.place (Ok tt) _) c.in-len1-up.len_at_least
    (λ e es h. done_in n c.args.place (star e ∷ es) _ tt (next c.before e es h))
