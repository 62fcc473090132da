-- What making the only child c of the root r the root leaves of each fact of `Sound`.
use Rattle.std.proofs.Common.{◌≡◌, ℕ, ◌+◌, ◌<◌, ◌≤◌, Bool, true, false, ◌≢◌, ◌⊎◌, sym, ap, ◌∙◌, inl, inr, ⊎_elim, arith}
use Rattle.tree.specs.Limits.{ways}
use Rattle.tree.specs.Sound.{Shape}
use Rattle.std.proofs.lemmas.Bool.{cases_eq, both_ways}

module _ (r c : ℕ) (P P' I I' U U' B B' K K' T T' : ℕ → ℕ) (H H' : ℕ → Bool)
    (z0 : P 0 ≡ 0) (r0 : 0 < r) (pr : P r ≡ r) (pc : P c ≡ r) (nc : c ≢ r)
    (only : (i : ℕ) → P i ≡ r → i ≢ r → i ≡ c)
    (Pr : P' r ≡ 0) (Pc : P' c ≡ c) (Po : (i : ℕ) → i ≢ r → i ≢ c → P' i ≡ P i)
    (Io : (i : ℕ) → i ≢ r → I' i ≡ I i)
    (Hr : H' r ≡ false) (Ho : (i : ℕ) → i ≢ r → H' i ≡ H i)
    (Ur : U' r ≡ 0) (Uc : U' c ≡ U c + 1) (Uo : (i : ℕ) → i ≢ r → i ≢ c → U' i ≡ U i)
    (Br : B' r ≡ 0) (Bc : B' c ≡ B c + c) (Bo : (i : ℕ) → i ≢ r → i ≢ c → B' i ≡ B i)
    (Kr : K' r ≡ 0) (Kc : K' c ≡ K c + 1) (Ko : (i : ℕ) → 0 < i → i ≢ r → i ≢ c → K' i ≡ K i)
    (Tr : T' r ≡ 0) (Tc : T' c ≡ T c + c) (To : (i : ℕ) → 0 < i → i ≢ r → i ≢ c → T' i ≡ T i)
    (par : (i : ℕ) → 0 < P i → 0 < P (P i)) where
  c0 : 0 < c
  c0 = grind (arith, cases_eq)

  none : P' 0 ≡ 0
  none = let a : 0 ≢ r = λ e. omega arith in let b : 0 ≢ c = λ e. omega (arith, c0) in Po 0 a b ∙ z0

  parents : (i : ℕ) → 0 < P' i → 0 < P' (P' i)
  parents i h =
      ⊎_elim (λ (e : i ≡ r). absurd (grind arith))
      (λ (o : i ≢ r). ⊎_elim (λ (e : i ≡ c). grind (arith, c0))
      (λ (q : i ≢ c). let e = Po i o q in rw e (⊎_elim (λ (w : P i ≡ c). rw (w, Pc) c0) (λ (w : P i ≢ c). rw (Po (P i) (λ z. q (only i z o)) w) (par i (rw e at h))) (cases_eq (P i) c))) (cases_eq i c)) (cases_eq i r)

  falls : (age : ℕ → ℕ) → ((i : ℕ) → 0 < P i → i ≢ r → age (P i) < age i) → (i : ℕ) → 0 < P' i → i ≢ c → age (P' i) < age i
  falls age f i h n =
      ⊎_elim (λ (e : i ≡ r). absurd (grind arith)) (λ (o : i ≢ r). let e = Po i o n in rw e (f i (rw e at h) o)) (cases_eq i r)

  uses : ((i : ℕ) → 0 < i → U i ≡ K i) → (i : ℕ) → 0 < i → U' i ≡ K' i
  uses u i h =
      ⊎_elim (λ (e : i ≡ r). grind arith)
      (λ (o : i ≢ r). ⊎_elim (λ (e : i ≡ c). grind (arith, u c c0)) (λ (q : i ≢ c). Uo i o q ∙ u i h ∙ sym (Ko i h o q)) (cases_eq i c)) (cases_eq i r)

  below : ((i : ℕ) → 0 < i → B i ≡ T i) → (i : ℕ) → 0 < i → B' i ≡ T' i
  below u i h =
      ⊎_elim (λ (e : i ≡ r). grind arith)
      (λ (o : i ≢ r). ⊎_elim (λ (e : i ≡ c). grind (arith, u c c0)) (λ (q : i ≢ c). Bo i o q ∙ u i h ∙ sym (To i h o q)) (cases_eq i c)) (cases_eq i r)

  kept : ((i : ℕ) → 0 < P i → i ≢ 0 → (0 < U i) ⊎ (H i ≡ true)) → (i : ℕ) → 0 < P' i → i ≢ 0 → (0 < U' i) ⊎ (H' i ≡ true)
  kept k i h n =
      ⊎_elim (λ (e : i ≡ r). absurd (grind arith))
      (λ (o : i ≢ r). ⊎_elim (λ (e : i ≡ c). inl (grind arith))
      (λ (q : i ≢ c). ⊎_elim (λ u. inl (grind (arith, Uo))) (λ e. inr (Ho i o ∙ e)) (k i (grind (arith, Po)) n)) (cases_eq i c)) (cases_eq i r)

  apart : ((i l : ℕ) → 0 < P i → i ≢ r → l ≢ r → P i ≡ P l → I i ≡ I l → i ≡ l)
      → (i l : ℕ) → 0 < P' i → i ≢ c → l ≢ c → P' i ≡ P' l → I' i ≡ I' l → i ≡ l
  apart a i l h ni nl e f =
      let oi : i ≢ r = λ q. grind arith in
      let ol : l ≢ r = λ q. grind arith in
      a i l (rw (Po i oi ni) at h) oi ol (sym (Po i oi ni) ∙ e ∙ Po l ol nl) (sym (Io i oi) ∙ f ∙ Io l ol)

  holders : ((i : ℕ) → H i ≡ true → 0 < P i) → (i : ℕ) → H' i ≡ true → 0 < P' i
  holders k i h =
      ⊎_elim (λ (e : i ≡ r). absurd (both_ways (H' r) Hr (ap H' (sym e) ∙ h)))
      (λ (o : i ≢ r). ⊎_elim (λ (e : i ≡ c). rw (e, Pc) c0) (λ (q : i ≢ c). rw (Po i o q) (k i (sym (Ho i o) ∙ h))) (cases_eq i c)) (cases_eq i r)

  few : ((i : ℕ) → i ≢ r → U i ≤ ways) → (i : ℕ) → i ≢ c → U' i ≤ ways
  few f i n = ⊎_elim (λ (e : i ≡ r). grind arith) (λ (o : i ≢ r). rw (Uo i o n) (f i o)) (cases_eq i r)

  few_root : ((i : ℕ) → i ≢ r → U i ≤ ways) → U' c ≤ ways + 1
  few_root f = let h = f c nc in omega (arith, h)

  pub raised_shape : Shape 0 r P I U B K T H → Shape 0 c P' I' U' B' K' T' H'
  raised_shape S = record {
    age = S.age;
    top = S.top;
    young = S.young;
    root_in = c0;
    root_up = Pc;
    none = none;
    parents = parents;
    falls = falls S.age S.falls;
    uses = uses S.uses;
    below = below S.below;
    kept = kept S.kept;
    apart = apart S.apart;
    holders = holders S.holders;
    few = few S.few;
    few_root = few_root S.few;
  }
