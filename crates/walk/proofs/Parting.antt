-- Two walks over the same symbols from one point go in step until they take different branches.
use Rattle.std.proofs.Common.{◌≡◌, ℕ, ◌⊎◌, List, [], ◌∷◌, ◌++◌, refl, ap, subst, inl, inr, arith}
use Rattle.alphabet.specs.Meaning.{Meaning}
use Rattle.alphabet.specs.Items.{first_branch, second_branch, read_item}
use Rattle.pattern.specs.declared.step.Step.{Step}
use Rattle.walk.specs.Codes.{Code, Earlier}
use Rattle.walk.specs.Walks.{Walk, ends, passes, first, second, reads, Allowed}
use Rattle.walk.specs.Theorems.{SameWalk}
use Rattle.walk.proofs.Order.{earlier_after}

-- one of two walks is earlier, or they are the same
abbrev pub Parted : List ℕ → List ℕ → ℕ → ℕ → Code → Code → Type 0
Parted ps qs q r c d = Earlier c d ⊎ (Earlier d c ⊎ SameWalk ps qs q r c d)

parted_on : (p : ℕ) (x : Code) {ps qs : List ℕ} {q r : ℕ} {c d : Code} → Parted ps qs q r c d → Parted (p ∷ ps) (p ∷ qs) q r (x ++ c) (x ++ d)
parted_on p x {c = c} {d = d} (inl e) = inl (earlier_after x c d e)
parted_on p x {c = c} {d = d} (inr (inl e)) = inr (inl (earlier_after x d c e))
parted_on p x (inr (inr s)) =
    inr (inr (record { points = ap {B = List ℕ} (λ y. p ∷ y) s.points; ending = s.ending; code = ap {B = Code} (λ y. x ++ y) s.code }))

-- the same walk, where neither is earlier
pub same_if : {ps qs : List ℕ} {q r : ℕ} {c d : Code} → Parted ps qs q r c d → (Earlier c d → ⊥) → (Earlier d c → ⊥) → SameWalk ps qs q r c d
same_if (inl e) f g = absurd (f e)
same_if (inr (inl e)) f g = absurd (g e)
same_if (inr (inr s)) f g = s

module _ {Symbol : Type 0} (L : Meaning Symbol) (at : ℕ → Step) where
  pub in_step : {w : List Symbol} {p q r : ℕ} {ps qs : List ℕ} {c d : Code} → Walk L at w p q ps c → Walk L at w p r qs d → Parted ps qs q r c d
  in_step (ends f) (ends g) = inr (inr (record { points = refl; ending = refl; code = refl }))
  in_step {w} {p} {r = r} (passes {k = k} f s) (passes {k = l} {ps = qs} {c = d} g t) =
      let h : l ≡ k = cc in parted_on p [] (in_step s (subst (λ x. Walk L at w x r qs d) h t))
  in_step {w} {p} {r = r} (first {a = a} f s) (first {a = a'} {ps = qs} {c = d} g t) =
      let h : a' ≡ a = cc in parted_on p (first_branch ∷ []) (in_step s (subst (λ x. Walk L at w x r qs d) h t))
  in_step (first f s) (second g t) = inl (inl (refl, refl))
  in_step (second f s) (first g t) = inr (inl (inl (refl, refl)))
  in_step {w} {p} {r = r} (second {b = b} f s) (second {b = b'} {ps = qs} {c = d} g t) =
      let h : b' ≡ b = cc in parted_on p (second_branch ∷ []) (in_step s (subst (λ x. Walk L at w x r qs d) h t))
  in_step {p = p} {r = r} (reads {s = a} {w = w} {k = k} f b s) (reads {k = l} {ps = qs} {c = d} g b' t) =
      let h : l ≡ k = cc in parted_on p (read_item (L.number a) ∷ []) (in_step s (subst (λ x. Walk L at w x r qs d) h t))
  in_step (ends f) (passes g t) = let z : ◌≡◌ {A = ℕ} 0 1 = cc in absurd (omega arith)
  in_step (ends f) (first g t) = let z : ◌≡◌ {A = ℕ} 0 1 = cc in absurd (omega arith)
  in_step (ends f) (second g t) = let z : ◌≡◌ {A = ℕ} 0 1 = cc in absurd (omega arith)
  in_step (passes f s) (ends g) = let z : ◌≡◌ {A = ℕ} 0 1 = cc in absurd (omega arith)
  in_step (passes f s) (first g t) = let z : ◌≡◌ {A = ℕ} 0 1 = cc in absurd (omega arith)
  in_step (passes f s) (second g t) = let z : ◌≡◌ {A = ℕ} 0 1 = cc in absurd (omega arith)
  in_step (passes f s) (reads g b' t) = let z : ◌≡◌ {A = ℕ} 0 1 = cc in absurd (omega arith)
  in_step (first f s) (ends g) = let z : ◌≡◌ {A = ℕ} 0 1 = cc in absurd (omega arith)
  in_step (first f s) (passes g t) = let z : ◌≡◌ {A = ℕ} 0 1 = cc in absurd (omega arith)
  in_step (first f s) (reads g b' t) = let z : ◌≡◌ {A = ℕ} 0 1 = cc in absurd (omega arith)
  in_step (second f s) (ends g) = let z : ◌≡◌ {A = ℕ} 0 1 = cc in absurd (omega arith)
  in_step (second f s) (passes g t) = let z : ◌≡◌ {A = ℕ} 0 1 = cc in absurd (omega arith)
  in_step (second f s) (reads g b' t) = let z : ◌≡◌ {A = ℕ} 0 1 = cc in absurd (omega arith)
  in_step (reads f b s) (passes g t) = let z : ◌≡◌ {A = ℕ} 0 1 = cc in absurd (omega arith)
  in_step (reads f b s) (first g t) = let z : ◌≡◌ {A = ℕ} 0 1 = cc in absurd (omega arith)
  in_step (reads f b s) (second g t) = let z : ◌≡◌ {A = ℕ} 0 1 = cc in absurd (omega arith)

  -- two allowed walks: one is earlier, or they end on one point with one code
  pub compare : {w : List Symbol} {p q r : ℕ} {c d : Code} → Allowed L at p w q c → Allowed L at p w r d → Earlier c d ⊎ (Earlier d c ⊎ ((q ≡ r) × (c ≡ d)))
  compare x y = elim (in_step x.1 y.1) [ inl e ↦ inl e | inr (inl e) ↦ inr (inl e) | inr (inr s) ↦ inr (inr (s.ending, s.code)) ]
