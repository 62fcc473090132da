use Rattle.std.proofs.Common.{List, ◌∷◌, length, sym, refl, ap, arith}
use Rattle.std.proofs.Math.Logic.{∥∥₁_map}
use Rattle.std.proofs.lemmas.List.{append-nil}
use Rattle.pattern.specs.Expressions.{Expr, empty}
use Rattle.pattern.specs.Held.{Hold}
use Rattle.pattern.specs.Drafts.{Holds}
use Rattle.pattern.proofs.Drafting.{done_in, done_out, count_out, pushed, is_full, has_room, length_parts}
use Rattle.pattern.proofs.pattern.draft.Draft.empty.Goals as goal

next : (c : goal.After-push) (es : List Expr) → Holds c.args.self.now es
    → Hold c.args.self.now.points.items c.args.self.now.text.items c.push.new.self.items (empty ∷ es)
next c es h =
    let d = c.args.self.now in
    let room = has_room (length d.parts.items) 64 _ c.is_full.ensures.value c.is_full.ensures.fits c.if-is_full.false in
    pushed empty es d.points.items d.points.items d.text.items d.text.items d.parts.items c.push.new.self.items c.len.result (length d.text.items) h
    (omega arith) refl (sym (append-nil d.points.items)) (sym (append-nil d.text.items)) c.push.ensures.items
    (omega arith) (omega (arith, ap length h.text, h.little)) room refl

pub returns-then-is_full : goal.returns-then-is_full
returns-then-is_full c n es h =
    let d = c.args.self.now in
    let full = is_full (length d.parts.items) 64 _ c.is_full.ensures.value c.if-is_full.true in
    done_out (Unit {0}) n c.args.place (empty ∷ es) _ c.new.result c.new.ensures
    (count_out (empty ∷ es) (omega (arith, full, ap length h.parts, length_parts es)))

pub invariant_of-self-2 : goal.invariant_of-self-2
invariant_of-self-2 c = record { held = ∥∥₁_map c.args.self.now.held (λ w. (empty ∷ w.0, next c w.0 w.1)) }

pub returns : goal.returns
returns c n es h = done_in n c.args.place (empty ∷ es) _ tt (next c.before es h)
