use Rattle.std.proofs.Common.{◌≡◌, List, [], ◌∷◌, map, length, take, Ok, ap, sym, ◌∙◌, arith}
use mathlib.Core.Logic.{∥∥₁_map}
use Rattle.std.specs.List.{refill}
use Rattle.std.proofs.lemmas.List.{length-map}
use Rattle.arrayvec.proofs.ArrayVecLemmas.{items-with_items}
use Rattle.pattern.specs.Expressions.{Expr}
use Rattle.pattern.specs.Points.{fill, ComesFrom}
use Rattle.pattern.specs.Files.{final}
use Rattle.pattern.specs.Drafts.{Holds, Finished}
use Rattle.pattern.proofs.Drafting.{finished, length_parts}
use Rattle.pattern.proofs.pattern.draft.Draft.into_pattern.Goals as goal
use Rattle.pattern.proofs.pattern.draft.Draft.into_pattern.Goals.{After-known}

-- the points once the follower is put in
filled : (c : After-known) → refill (length c.args.self.points.items) c.args.self.points.items c.fill_all.new.points ≡ map (fill c.len-end.result) c.args.self.points.items
filled c =
    let ps = c.args.self.points.items in
    let e : c.fill_all.new.points ≡ map (fill c.len-end.result) ps = c.fill_all.ensures ∙ ap (map (fill c.len-end.result)) c.as_mut_slice.ensures.value in
    items-with_items c.args.self.points c.fill_all.new.points (ap length e ∙ length-map ps (fill c.len-end.result)) ∙ e

length_filled : (c : After-known) → length (refill (length c.args.self.points.items) c.args.self.points.items c.fill_all.new.points) ≡ c.len-end.result
length_filled c =
    ap length (filled c) ∙ length-map c.args.self.points.items (fill c.len-end.result) ∙ sym c.len-end.ensures.value

comes : (c : After-known) (e : Expr) → Holds c.args.self (e ∷ []) → ComesFrom (take c.len-end.result c.array_of.result) (take c.len.result c.array_of-2.result) c.known.result e
comes c e h =
    let d = c.args.self in
    finished d.points.items _ _ d.text.items _ d.parts.items c.as_slice.result.now c.len-end.result c.known.result e h
    c.as_slice.ensures.value c.len-end.ensures.value (filled c)
    (ap (λ n. take n c.array_of.result) (sym (length_filled c)) ∙ c.array_of.ensures.front)
    (ap (λ n. take n c.array_of-2.result) c.len.ensures.value ∙ c.array_of-2.ensures.front) c.known.ensures

-- exactly one stands
one : (c : After-known) (P : List Expr → Type 0) → ((e : Expr) → Holds c.args.self (e ∷ []) → P (e ∷ [])) → (es : List Expr) → Holds c.args.self es → P es
one c P f [] h = absurd (omega (arith, ap length c.as_slice.ensures.value, ap length h.parts))
one c P f (e ∷ []) h = f e h
one c P f (e ∷ g ∷ es) h = absurd (omega (arith, ap length c.as_slice.ensures.value, ap length h.parts, length_parts (e ∷ g ∷ es)))

pub invariant_of-result : goal.invariant_of-result
invariant_of-result c =
    record {
      inside = omega (arith, length_filled c, c.array_of.ensures.inside);
      little = omega (arith, c.array_of-2.ensures.inside, c.len.ensures.value);
      made = ∥∥₁_map c.args.self.held (λ w. one c (λ _. (e : Expr) × ComesFrom _ _ _ e) (λ e h. (e, comes c e h)) w.0 w.1);
    }

pub returns : goal.returns
returns c = one c.before (λ es. Finished (final c.args.place es) (Ok _)) (λ e h. comes c.before e h)
