use Rattle.std.proofs.Common.{List, ◌∷◌, length, sym, refl, ap, arith, append-nil}
use Rattle.std.proofs.Math.Logic.{∥∥₁_map}
use Rattle.pattern.specs.Expressions.{Expr, read}
use Rattle.pattern.specs.Held.{Hold}
use Rattle.pattern.specs.Drafts.{Holds}
use Rattle.pattern.proofs.Drafting.{done_in, done_out, points_out, count_out, pushed, is_full, has_room, length_laid, length_parts}
use Rattle.pattern.proofs.pattern.draft.Draft.read.Goals as goal
use Rattle.pattern.proofs.pattern.draft.Draft.read.Goals.{After-push-2, then-is_full-via-then-is_full, then-is_full-via-else-is_full+then-is_full-2}

next : (c : After-push-2) (es : List Expr) → Holds c.args.self.now es
    → Hold c.push.new.self.items c.args.self.now.text.items c.push-2.new.self.items (read c.args.keep c.args.class ∷ es)
next c es h =
    let d = c.args.self.now in
    let more = has_room (length d.points.items) 255 _ c.is_full.ensures.value c.is_full.ensures.fits c.if-is_full.false in
    let room = has_room (length d.parts.items) 64 _ c.is_full-else-is_full.ensures.value c.is_full-else-is_full.ensures.fits c.if-is_full-2.false in
    pushed (read c.args.keep c.args.class) es d.points.items c.push.new.self.items d.text.items d.text.items d.parts.items c.push-2.new.self.items
    c.len-start.result (length d.text.items) h
    (omega arith) refl c.push.ensures.items (sym (append-nil d.text.items)) c.push-2.ensures.items
    (omega arith) (omega (arith, ap length h.text, h.little)) room refl

pub returns-then-is_full : goal.returns-then-is_full
returns-then-is_full c n es h =
    let d = c.args.self.now in
    let e = read c.args.keep c.args.class in
    done_out (Unit {0}) n c.args.place (e ∷ es) _ c.new.result c.new.ensures
    (elim c.then-is_full.branch [
      | then-is_full-via-then-is_full w ↦
          let full = is_full (length d.points.items) 255 _ w.if-is_full.ensures.value refl in
          points_out (e ∷ es) (omega (arith, full, ap length h.points, length_laid es))
      | then-is_full-via-else-is_full+then-is_full-2 w ↦
          let full = is_full (length d.parts.items) 64 _ w.if-is_full-2.ensures.value refl in
          count_out (e ∷ es) (omega (arith, full, ap length h.parts, length_parts es))
    ])

pub invariant_of-self : goal.invariant_of-self
invariant_of-self c = record { held = ∥∥₁_map c.args.self.now.held (λ w. (read c.args.keep c.args.class ∷ w.0, next c w.0 w.1)) }

pub returns : goal.returns
returns c n es h = done_in n c.args.place (read c.args.keep c.args.class ∷ es) _ tt (next c.before es h)
