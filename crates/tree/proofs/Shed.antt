-- What taking the entry j, which has no child and is not held, off its parent p leaves of each fact of `Sound`.
use Rattle.std.proofs.Common.{◌≡◌, ℕ, ◌+◌, ◌-◌, ◌<◌, ◌≤◌, Bool, true, false, ◌≢◌, ◌⊎◌, sym, ap, ◌∙◌, inl, inr, ⊎_elim, arith}
use Rattle.tree.specs.Limits.{ways}
use Rattle.tree.specs.Sound.{Shape}
use Rattle.std.proofs.lemmas.Bool.{cases_eq, both_ways}

module _ (root j p : ℕ) (P P' I I' U U' B B' K K' T T' : ℕ → ℕ) (H H' : ℕ → Bool)
    (z0 : P 0 ≡ 0) (pr : P root ≡ root) (jp : P j ≡ p) (p0 : 0 < p) (nr : j ≢ root) (uj : U j ≡ 0)
    (childless : (i : ℕ) → P i ≡ j → ⊥)
    (Pj : P' j ≡ 0) (Po : (i : ℕ) → i ≢ j → P' i ≡ P i)
    (Io : (i : ℕ) → i ≢ j → I' i ≡ I i)
    (Hj : H' j ≡ false) (Ho : (i : ℕ) → i ≢ j → H' i ≡ H i)
    (Uj : U' j ≡ 0) (Up : U' p ≡ U p - 1) (Uo : (i : ℕ) → i ≢ j → i ≢ p → U' i ≡ U i)
    (Bj : B' j ≡ 0) (bj : B j ≡ 0) (Bp : B' p ≡ B p - j) (Bo : (i : ℕ) → i ≢ j → i ≢ p → B' i ≡ B i)
    (Kp : K' p + 1 ≡ K p) (Ko : (i : ℕ) → 0 < i → i ≢ p → K' i ≡ K i)
    (Tp : T' p + j ≡ T p) (To : (i : ℕ) → 0 < i → i ≢ p → T' i ≡ T i)
    (par : (i : ℕ) → 0 < P i → 0 < P (P i)) where
  root_up : P' root ≡ root
  root_up = grind (arith, cases_eq, Po)

  none : P' 0 ≡ 0
  none = grind (arith, cases_eq, Po)

  parents : (i : ℕ) → 0 < P' i → 0 < P' (P' i)
  parents i h =
      ⊎_elim (λ (e : i ≡ j). absurd (grind arith)) (λ (o : i ≢ j). rw (Po i o) (rw (Po (P i) (childless i)) (par i (rw (Po i o) at h)))) (cases_eq i j)

  falls : (age : ℕ → ℕ) → ((i : ℕ) → 0 < P i → i ≢ root → age (P i) < age i) → (i : ℕ) → 0 < P' i → i ≢ root → age (P' i) < age i
  falls age f i h n = grind (arith, cases_eq, Po, f)

  uses : ((i : ℕ) → 0 < i → U i ≡ K i) → (i : ℕ) → 0 < i → U' i ≡ K' i
  uses u i h = grind (arith, cases_eq, Uo, u, Ko)

  below : ((i : ℕ) → 0 < i → B i ≡ T i) → (i : ℕ) → 0 < i → B' i ≡ T' i
  below u i h = grind (arith, cases_eq, Bo, u, To)

  kept : ((i : ℕ) → 0 < P i → i ≢ j → (0 < U i) ⊎ (H i ≡ true)) → (i : ℕ) → 0 < P' i → i ≢ p → (0 < U' i) ⊎ (H' i ≡ true)
  kept k i h np =
      ⊎_elim (λ (e : i ≡ j). absurd (grind arith))
      (λ (o : i ≢ j). ⊎_elim (λ u. inl (grind (arith, Uo))) (λ e. inr (Ho i o ∙ e)) (k i (grind (arith, Po)) o)) (cases_eq i j)

  apart : ((i l : ℕ) → 0 < P i → i ≢ root → l ≢ root → P i ≡ P l → I i ≡ I l → i ≡ l)
      → (i l : ℕ) → 0 < P' i → i ≢ root → l ≢ root → P' i ≡ P' l → I' i ≡ I' l → i ≡ l
  apart a i l h ni nl e f =
      let oi : i ≢ j = λ q. grind arith in
      let ol : l ≢ j = λ q. grind arith in
      a i l (rw (Po i oi) at h) ni nl (sym (Po i oi) ∙ e ∙ Po l ol) (sym (Io i oi) ∙ f ∙ Io l ol)

  holders : ((i : ℕ) → H i ≡ true → 0 < P i) → (i : ℕ) → H' i ≡ true → 0 < P' i
  holders k i h = ⊎_elim (λ (e : i ≡ j). absurd (both_ways (H' j) Hj (ap H' (sym e) ∙ h))) (λ o. rw (Po i o) (k i (sym (Ho i o) ∙ h))) (cases_eq i j)

  few : ((i : ℕ) → i ≢ root → U i ≤ ways) → (i : ℕ) → i ≢ root → U' i ≤ ways
  few f i n = grind (arith, cases_eq, Uo, f)

  few_root : U root ≤ ways + 1 → U' root ≤ ways + 1
  few_root f = grind (arith, cases_eq, Uo)

  pub shed_shape : Shape j root P I U B K T H → Shape p root P' I' U' B' K' T' H'
  shed_shape S = record {
    age = S.age;
    top = S.top;
    young = S.young;
    root_in = S.root_in;
    root_up = root_up;
    none = none;
    parents = parents;
    falls = falls S.age S.falls;
    uses = uses S.uses;
    below = below S.below;
    kept = kept S.kept;
    apart = apart S.apart;
    holders = holders S.holders;
    few = few S.few;
    few_root = few_root S.few_root;
  }
