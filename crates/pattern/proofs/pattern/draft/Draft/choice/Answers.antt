use Rattle.std.proofs.Common.{List, ◌∷◌, length, Ok, Err, ap, arith}
use Rattle.pattern.specs.Expressions.{Expr, alt}
use Rattle.pattern.specs.Held.{Hold}
use Rattle.pattern.specs.Files.{on_two}
use Rattle.pattern.specs.Drafts.{Holds, Done}
use Rattle.pattern.proofs.Drafting.{done_in, done_out, points_out, two_stand, two_held, chosen, is_full, has_room, length_laid}
use Rattle.pattern.proofs.pattern.draft.Draft.choice.Goals as goal
use Rattle.pattern.proofs.pattern.draft.Draft.choice.Goals.{After-push-2}

next : (c : After-push-2) (e f : Expr) (es : List Expr) → Holds c.args.self.now (f ∷ e ∷ es)
    → Hold c.push.new.self.items c.args.self.now.text.items c.push-2.new.self.items (alt e f ∷ es)
next c e f es h =
    let d = c.args.self.now in
    let few = has_room (length d.points.items) 255 _ c.is_full.ensures.value c.is_full.ensures.fits c.if-is_full.false in
    chosen d.points.items d.text.items d.parts.items c.as_slice.result.now c.pop.new.self.items c.pop-2.new.self.items c.push-2.new.self.items
    c.len-entry.result c.as_slice.ensures.value c.pop.ensures.rest c.pop-2.ensures.rest c.push-2.ensures.items e f es h
    c.push.new.self.items c.push.ensures.items few (omega arith)

pub returns-then-is_full : goal.returns-then-is_full
returns-then-is_full c n =
    two_stand _ _ _ _ c.as_slice.ensures.value (λ es. Done (on_two alt n es) c.args.place (Err c.new-then-is_full.result) _) c.in-len2-up.len_at_least
    (λ e f es h.
    let full = is_full (length c.args.self.now.points.items) 255 _ c.is_full.ensures.value c.if-is_full.true in
    done_out (Unit {0}) n c.args.place (alt e f ∷ es) _ _ c.new-then-is_full.ensures
    (points_out (alt e f ∷ es) (omega (arith, full, ap length h.points, length_laid (f ∷ e ∷ es)))))

pub invariant_of-self : goal.invariant_of-self
invariant_of-self c =
    record { held = two_held _ _ _ _ c.as_slice.ensures.value _ _ _ alt c.args.self.now.held c.in-len2-up.len_at_least (next c) }

pub returns : goal.returns
returns c n =
    two_stand _ _ _ _ c.as_slice.ensures.value (λ es. Done (on_two alt n es) c.args.place (Ok tt) _) c.in-len2-up.len_at_least
    (λ e f es h. done_in n c.args.place (alt e f ∷ es) _ tt (next c.before e f es h))
