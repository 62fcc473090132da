use Rattle.std.proofs.Common.{◌≡◌, ◌==◌, ℕ, Bool, false, List, [], ◌++◌, ◌∷◌, ◌+◌, ◌≤◌, length, sym, refl, ap, subst, arith, rules}
use Rattle.std.proofs.Math.Logic.{∥∥₁_map}
use Rattle.arrayvec.specs.ArrayVec.{ArrayVec}
use Rattle.pattern.specs.declared.point.Point.{Point}
use Rattle.pattern.specs.declared.point.Point.TheVariants.{Text}
use Rattle.pattern.specs.declared.pattern.draft.Part.{Part}
use Rattle.pattern.specs.declared.pattern.draft.Draft.{Draft}
use Rattle.pattern.specs.Points.{open_end}
use Rattle.pattern.specs.Expressions.{Expr, text}
use Rattle.pattern.specs.Held.{Hold}
use Rattle.pattern.specs.Drafts.{Holds}
use Rattle.pattern.proofs.Drafting.{done_in, done_out, points_out, count_out, pushed, is_full, has_room, length_laid, length_parts}
use Rattle.pattern.proofs.pattern.draft.Draft.text.Goals as goal
use Rattle.pattern.proofs.pattern.draft.Draft.text.Goals.{then-is_full-via-then-is_full, then-is_full-via-else-is_full+then-is_full-2}

-- one more text, from what the tests for room say
next : (d : Draft) (bs : List ℕ) (es : List Expr) (ns : List Point) (us : List ℕ) (rs : List Part) (b t : ℕ) (f g : Bool) → Holds d es
    → f ≡ (length d.points.items == 255) → length d.points.items ≤ 255 → f ≡ false
    → g ≡ (length d.parts.items == 64) → length d.parts.items ≤ 64 → g ≡ false
    → length d.text.items + length bs ≤ 1024 → b ≡ length d.points.items → t ≡ length d.text.items
    → ns ≡ d.points.items ++ Text t (length bs) open_end ∷ [] → us ≡ d.text.items ++ bs
    → rs ≡ d.parts.items ++ record { start = b; entry = b } ∷ [] → Hold ns us rs (text bs ∷ es)
next d bs es ns us rs b t f g h f_is f_fits f_no g_is g_fits g_no fits hb ht hn hu hr =
    let more = has_room (length d.points.items) 255 f f_is f_fits f_no in
    pushed (text bs) es d.points.items ns d.text.items us d.parts.items rs b t h hb ht hn hu hr
    (omega (arith, more)) fits (has_room (length d.parts.items) 64 g g_is g_fits g_no) refl

pub returns-then-is_full : goal.returns-then-is_full
returns-then-is_full c n es h =
    let d = c.args.self.now in
    let e = text c.args.bytes.now in
    done_out (Unit {0}) n c.args.place (e ∷ es) _ c.new.result c.new.ensures
    (elim c.then-is_full.branch [
      | then-is_full-via-then-is_full w ↦
          let full = is_full (length d.points.items) 255 _ w.if-is_full.ensures.value refl in
          points_out (e ∷ es) (omega (arith, full, ap length h.points, length_laid es))
      | then-is_full-via-else-is_full+then-is_full-2 w ↦
          let full = is_full (length d.parts.items) 64 _ w.if-is_full-2.ensures.value refl in
          count_out (e ∷ es) (omega (arith, full, ap length h.parts, length_parts es))
    ])

pub invariant_of-self : goal.invariant_of-self
invariant_of-self c =
    let d = c.args.self.now in
    let P : ArrayVec ℕ → Type 0 = λ t. ∥ ((es : List Expr) × Hold d.points.items t.items d.parts.items es) ∥₁ in
    record { held = subst P (sym c.in_default.ensures.err) d.held }

pub invariant_of-self-2 : goal.invariant_of-self-2
invariant_of-self-2 c =
    record {
      held = ∥∥₁_map c.args.self.now.held (λ w. (
        text c.args.bytes.now ∷ w.0,
        next c.args.self.now c.args.bytes.now w.0 _ _ _ _ _ _ _ w.1 c.is_full.ensures.value c.is_full.ensures.fits c.if-is_full.false
            c.is_full-else-is_full.ensures.value c.is_full-else-is_full.ensures.fits c.if-is_full-2.false (search rules) c.len-start.ensures.value
            c.len-begin.ensures.value c.push.ensures.items c.in-Ok.ensures.ok c.push-2.ensures.items,
      ));
    }

pub returns : goal.returns
returns c n es h =
    done_in n c.args.place (text c.args.bytes.now ∷ es) _ tt
    (next c.args.self.now c.args.bytes.now es _ _ _ _ _ _ _ h c.is_full.ensures.value c.is_full.ensures.fits c.if-is_full.false
    c.is_full-else-is_full.ensures.value c.is_full-else-is_full.ensures.fits c.if-is_full-2.false (search rules) c.len-start.ensures.value
    c.len-begin.ensures.value c.push.ensures.items c.in-Ok.ensures.ok c.push-2.ensures.items)
