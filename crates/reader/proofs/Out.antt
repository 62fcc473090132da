-- That a core is fit comes out of a truncation, as a reader's type has it.
use Rattle.std.proofs.Common.{◌≡◌, ℕ, true, ◌≢◌, ◌⊎◌, List, [], ◌∷◌, length, sym, refl, ap, ◌∙◌, subst, inl, inr, ⊎_elim, arith}
use native.Mathlib.Nat.{ℕ_set}
use mathlib.Core.Logic.{∥∥₁_elim, ∥∥₁_map}
use mathlib.Core.HLevel.{⊥_prop, Π_prop, ×_prop}
use Rattle.std.proofs.lemmas.Bool.{cases_eq}
use Rattle.alphabet.specs.Items.{first_branch, second_branch}
use Rattle.pattern.specs.declared.pattern.Pattern.{Pattern}
use Rattle.walk.specs.Codes.{Code, Earlier}
use Rattle.walk.specs.Search.{Reached, In, Ordered}
use Rattle.tree.specs.declared.paths.PathTree.{PathTree}
use Rattle.tree.specs.Sound.{held_of}
use Rattle.tree.specs.Held.{room}
use Rattle.tree.proofs.Holding.{held_same, held_path}
use Rattle.tree.proofs.Out.{bool_out, le_out}
use Rattle.reader.specs.declared.state.Walk.{Walk}
use Rattle.reader.specs.declared.state.Core.{Core}
use Rattle.reader.specs.Spread.{Under}
use Rattle.reader.specs.State.{step_space, Fit}
use Rattle.reader.specs.Seen.{every, SomeReading}
use Rattle.reader.proofs.Answering.{spacious}

-- the order is a fact
earlier_prop : (c d : Code) (x y : Earlier c d) → x ≡ y
earlier_prop [] d x y = absurd x
earlier_prop (i ∷ c) [] x y = absurd x
earlier_prop (i ∷ c) (j ∷ d) (inl x) (inl y) = ap inl (×_prop (ℕ_set i first_branch) (ℕ_set j second_branch) x y)
earlier_prop (i ∷ c) (j ∷ d) (inl x) (inr y) = absurd (omega (arith, x.0, x.1, y.0))
earlier_prop (i ∷ c) (j ∷ d) (inr x) (inl y) = absurd (omega (arith, x.0, y.0, y.1))
earlier_prop (i ∷ c) (j ∷ d) (inr x) (inr y) = ap inr (×_prop (ℕ_set i j) (earlier_prop c d) x y)

ordered_prop : (rs : List Reached) (x y : Ordered rs) → x ≡ y
ordered_prop [] x y = refl
ordered_prop (r ∷ rs) x y = ×_prop (Π_prop (λ q. Π_prop (λ c. Π_prop (λ i. earlier_prop r.code c)))) (ordered_prop rs) x y

code_cases : (c d : Code) → (c ≡ d) ⊎ (c ≢ d)
code_cases [] [] = inl refl
code_cases [] (y ∷ d) = inr (λ e. let z = ap length e in omega (arith, z))
code_cases (x ∷ c) [] = inr (λ e. let z = ap length e in omega (arith, z))
code_cases (x ∷ c) (y ∷ d) =
    ⊎_elim (λ (e : x ≡ y). ⊎_elim (λ (f : c ≡ d). inl (ap (λ (k : ℕ). k ∷ c) e ∙ ap (λ (z : Code). y ∷ z) f)) (λ (n : c ≢ d). inr (λ g. n (ap rest g))) (code_cases c d))
    (λ (n : x ≢ y). inr (λ g. n (ap head g))) (cases_eq x y)
  where
    head : Code → ℕ
    head [] = 0
    head (k ∷ z) = k

    rest : Code → Code
    rest [] = []
    rest (k ∷ z) = z

in_cases : (c : Code) (rs : List Reached) → ((q : ℕ) × In q c rs) ⊎ ((q : ℕ) → In q c rs → ⊥)
in_cases c [] = inr (λ q i. i)
in_cases c (r ∷ rs) =
    ⊎_elim (λ (e : c ≡ r.code). inl (r.point, inl (refl, e)))
    (λ (n : c ≢ r.code). ⊎_elim (λ (h : (q : ℕ) × In q c rs). inl (h.0, inr h.1)) (λ (h : (q : ℕ) → In q c rs → ⊥). inr (λ q i. elim i [ inl e ↦ n e.1 | inr j ↦ h q j ])) (in_cases c rs))
    (code_cases c r.code)

under_head : (t : PathTree) (w : Walk) (ws : List Walk) (rs : List Reached) → Under t [] (w ∷ ws) rs → held_of t.table w.slot ≡ true
under_head t w ws [] u = absurd u
under_head t w ws (r ∷ rs) u = u.1.0

under_tail : (t : PathTree) (w : Walk) (ws : List Walk) (rs : List Reached) → Under t [] (w ∷ ws) rs → (ss : List Reached) × Under t [] ws ss
under_tail t w ws [] u = absurd u
under_tail t w ws (r ∷ rs) u = (rs, u.2)

module _ (t : PathTree) where
  under_same : (ws : List Walk) (rs ss : List Reached) → Under t [] ws rs → Under t [] ws ss → rs ≡ ss
  under_same [] [] [] u v = refl
  under_same [] [] (s ∷ ss) u v = absurd v
  under_same [] (r ∷ rs) ss u v = absurd u
  under_same (w ∷ ws) [] ss u v = absurd u
  under_same (w ∷ ws) (r ∷ rs) [] u v = absurd v
  under_same (w ∷ ws) (r ∷ rs) (s ∷ ss) u v =
      let p : r.point ≡ s.point = sym u.0 ∙ v.0 in
      let q : r.code ≡ s.code = held_same t w.slot r.code s.code u.1 v.1 in
      let e = under_same ws rs ss u.2 v.2 in
      λ k. record { point = p k; code = q k } ∷ e k

  -- the theory's walks can be read off the slots
  rebuilt : (ws : List Walk) → ∥ ((rs : List Reached) × Under t [] ws rs) ∥₁ → (rs : List Reached) × Under t [] ws rs
  rebuilt [] z = ([], tt)
  rebuilt (w ∷ ws) z =
      let p = held_path t w.slot (bool_out (held_of t.table w.slot) true (∥∥₁_map z (λ x. under_head t w ws x.0 x.1))) in
      let r = rebuilt ws (∥∥₁_map z (λ x. under_tail t w ws x.0 x.1)) in
      (record { point = w.point; code = p.path } ∷ r.0, (refl, p.held, r.1))

pub fit_out : (t : PathTree) (live : List Walk) → ∥ Fit t live ∥₁ → Fit t live
fit_out t live z =
    let R = rebuilt t live (∥∥₁_map z (λ F. (F.walks, F.standing.to_go))) in
    let same : (F : Fit t live) → F.walks ≡ R.0 = λ F. under_same t live F.walks R.0 F.standing.to_go R.1 in
    record {
      walks = R.0;
      standing = record {
        made = tt;
        to_go = R.1;
        only = λ k ys h. ⊎_elim (λ (i : (q : ℕ) × In q ys R.0). i)
            (λ (n : (q : ℕ) → In q ys R.0 → ⊥). absurd (∥∥₁_elim z ⊥_prop (λ F. let o = F.standing.only k ys h in n o.0 (subst (In o.0 ys) (same F) o.1))))
            (in_cases ys R.0);
        ordered = ∥∥₁_elim z (ordered_prop R.0) (λ F. subst Ordered (same F) F.standing.ordered);
      };
      space = le_out step_space (room t) (∥∥₁_map z (λ F. F.space));
    }

-- the state of some reading is fit for one more symbol
pub fit_of : (pattern : Pattern) (s : Core) → ∥ SomeReading pattern s ∥₁ → Fit s.traversal.tree s.live.items
fit_of pattern s z = fit_out s.traversal.tree s.live.items (∥∥₁_map z (λ R. let S = R.1.1 in record { walks = S.walks; standing = S.standing; space = spacious every pattern s R.0 R.1.0 S }))
