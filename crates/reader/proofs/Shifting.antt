-- Laws of lists of walks whose codes begin with the same items.
use Rattle.std.proofs.Common.{◌≡◌, ℕ, ◌⊎◌, List, [], ◌∷◌, ◌++◌, sym, refl, ap, ◌∙◌, subst, inl, inr, append_assoc}
use mathlib.Core.List.{append_cancel_left}
use Rattle.alphabet.specs.Meaning.{Meaning}
use Rattle.alphabet.specs.Items.{read_item}
use Rattle.pattern.specs.declared.step.Step.{Step}
use Rattle.walk.specs.Graphs.{Points}
use Rattle.walk.specs.Codes.{Code, Begins}
use Rattle.walk.specs.Search.{Reached, after, Ordered, Sweep, done, taken, dropped}
use Rattle.walk.proofs.Order.{in_after, earlier_cancel}
use Rattle.walk.proofs.Sharing.{begins_nil, begins_cons, begins_tail, not_begins}

pub after_after : (x y : Code) (rs : List Reached) → after x (after y rs) ≡ after (x ++ y) rs
after_after x y [] = refl
after_after x y (r ∷ rs) =
    ap (λ (c : Code). record { point = r.point; code = c } ∷ after x (after y rs)) (sym (append_assoc x y r.code))
    ∙ ap (λ (z : List Reached). record { point = r.point; code = (x ++ y) ++ r.code } ∷ z) (after_after x y rs)

pub after_append : (x : Code) (rs ss : List Reached) → after x (rs ++ ss) ≡ after x rs ++ after x ss
after_append x [] ss = refl
after_append x (r ∷ rs) ss = ap (λ (z : List Reached). record { point = r.point; code = x ++ r.code } ∷ z) (after_append x rs ss)

pub after_nil : (rs : List Reached) → after [] rs ≡ rs
after_nil [] = refl
after_nil (r ∷ rs) = ap (λ (z : List Reached). r ∷ z) (after_nil rs)

pub ordered_before : (x : Code) (rs : List Reached) → Ordered (after x rs) → Ordered rs
ordered_before x [] o = tt
ordered_before x (r ∷ rs) o = (λ q c i. earlier_cancel x r.code c (o.0 q (x ++ c) (in_after q c x rs i)), ordered_before x rs o.1)

-- a sweep does not see what the codes begin with
pub sweep_after : {Symbol : Type 0} {L : Meaning Symbol} {at : ℕ → Step} {a : Symbol} (h : Code) {M : Points} {ls rs : List Reached} {N : Points} →
    Sweep L at a M ls rs N → Sweep L at a M (after h ls) (after h rs) N
sweep_after h done = done
sweep_after {L = L} {at = at} {a = a} h {M} {N = N} (taken {r = r} {ls = ls} {rs = rs} {ss = ss} e b s t) =
    let x : Code = r.code ++ (read_item (L.number a) ∷ []) in
    let q : after ((h ++ r.code) ++ (read_item (L.number a) ∷ [])) rs ++ after h ss ≡ after h (after x rs ++ ss) =
    ap (λ (y : Code). after y rs ++ after h ss) (append_assoc h r.code (read_item (L.number a) ∷ [])) ∙ ap (λ (z : List Reached). z ++ after h ss) (sym (after_after h x rs)) ∙ sym (after_append h (after x rs) ss) in
    subst (λ (z : List Reached). Sweep L at a M (after h (r ∷ ls)) z N) q (taken {r = record { point = r.point; code = h ++ r.code }} e b s (sweep_after h t))
sweep_after h (dropped {r = r} f t) = dropped {r = record { point = r.point; code = h ++ r.code }} f (sweep_after h t)

-- of two beginnings of one code, one begins the other
pub begins_compared : (c s t : Code) → Begins c s → Begins c t → Begins s t ⊎ ((x : ℕ) × ((u : Code) × (t ≡ s ++ (x ∷ u))))
begins_compared c s [] a b = inl (begins_nil s)
begins_compared c [] (y ∷ t) a b = inr (y, (t, refl))
begins_compared [] (x ∷ s) (y ∷ t) a b = absurd (not_begins x s a)
begins_compared (z ∷ c) (x ∷ s) (y ∷ t) a b =
    let p = begins_tail z x c s a in
    let q = begins_tail z y c t b in
    let e : x ≡ y = sym p.0 ∙ q.0 in
    elim (begins_compared c s t p.1 q.1) [
      | inl m ↦ inl (subst (λ (i : ℕ). Begins (x ∷ s) (i ∷ t)) e (begins_cons x s t m))
      | inr m ↦ inr (m.0, (m.1.0, ap (λ (i : ℕ). i ∷ t) (sym e) ∙ ap (λ (z : Code). x ∷ z) m.1.1))
    ]

pub rest_of : (g xs t u r : Code) (x : ℕ) → g ++ xs ≡ t ++ r → t ≡ g ++ (x ∷ u) → xs ≡ x ∷ (u ++ r)
rest_of g xs t u r x e f = append_cancel_left g xs (x ∷ (u ++ r)) (e ∙ ap (λ (z : Code). z ++ r) f ∙ append_assoc g (x ∷ u) r)
