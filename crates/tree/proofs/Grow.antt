-- What a new entry s under p leaves of each fact of `Sound`, over the parts of the entries as functions of the slot.
use Rattle.std.proofs.Common.{◌≡◌, ℕ, suc, ◌+◌, ◌<◌, ◌≤◌, Bool, true, cond, eqb, ◌≢◌, ◌⊎◌, sym, ap, ◌∙◌, inl, inr, ⊎_elim, arith}
use Rattle.tree.specs.Limits.{ways}
use Rattle.tree.specs.Sound.{Shape}
use Rattle.std.proofs.lemmas.Bool.{cases_eq}
use Rattle.std.proofs.lemmas.Bool.Decides.{nat_tests}

module _ (root s p x : ℕ) (P P' I I' U U' B B' K K' T T' : ℕ → ℕ) (H H' : ℕ → Bool)
    (z0 : P 0 ≡ 0) (r0 : 0 < root) (pr : P root ≡ root) (s0 : 0 < s) (zs : P s ≡ 0) (us : U s ≡ 0) (zp : 0 < P p)
    (Ps : P' s ≡ p) (Po : (i : ℕ) → i ≢ s → P' i ≡ P i)
    (Is : I' s ≡ x) (Io : (i : ℕ) → i ≢ s → I' i ≡ I i)
    (Hs : H' s ≡ true) (Ho : (i : ℕ) → i ≢ s → H' i ≡ H i)
    (Us : U' s ≡ 0) (Up : U' p ≡ U p + 1) (Uo : (i : ℕ) → i ≢ s → i ≢ p → U' i ≡ U i)
    (Bs : B' s ≡ 0) (bs : B s ≡ 0) (Bp : B' p ≡ B p + s) (Bo : (i : ℕ) → i ≢ s → i ≢ p → B' i ≡ B i)
    (Kp : K' p ≡ K p + 1) (Ko : (i : ℕ) → 0 < i → i ≢ p → K' i ≡ K i)
    (Tp : T' p ≡ T p + s) (To : (i : ℕ) → 0 < i → i ≢ p → T' i ≡ T i)
    (par : (i : ℕ) → 0 < P i → 0 < P (P i))
    (space : p ≢ root → U p < ways) (space_root : p ≡ root → U p ≤ ways) where
  root_up : P' root ≡ root
  root_up = grind (arith, cases_eq, Po)

  none : P' 0 ≡ 0
  none = grind (arith, Po)

  parents : (i : ℕ) → 0 < P' i → 0 < P' (P' i)
  parents i h = grind (arith, cases_eq, Po, par)

  falls : (age : ℕ → ℕ) → ((i : ℕ) → 0 < P i → i ≢ root → age (P i) < age i) → (i : ℕ) → 0 < P' i → i ≢ root
      → cond (eqb (P' i) s) (suc (age p)) (age (P' i)) < cond (eqb i s) (suc (age p)) (age i)
  falls age f i h n = grind (arith, nat_tests, cases_eq, Po, par, f)

  young : (age : ℕ → ℕ) (top : ℕ) → ((i : ℕ) → age i ≤ top) → (i : ℕ) → cond (eqb i s) (suc (age p)) (age i) ≤ suc top
  young age top y i = grind (arith, nat_tests, y)

  uses : ((i : ℕ) → 0 < i → U i ≡ K i) → (i : ℕ) → 0 < i → U' i ≡ K' i
  uses u i h = grind (arith, cases_eq, Uo, u, Ko)

  below : ((i : ℕ) → 0 < i → B i ≡ T i) → (i : ℕ) → 0 < i → B' i ≡ T' i
  below u i h = grind (arith, cases_eq, Bo, u, To)

  kept : ((i : ℕ) → 0 < P i → i ≢ 0 → (0 < U i) ⊎ (H i ≡ true)) → (i : ℕ) → 0 < P' i → i ≢ 0 → (0 < U' i) ⊎ (H' i ≡ true)
  kept k i h n = ⊎_elim (λ e. inr (ap H' e ∙ Hs)) (λ ns. ⊎_elim (λ e. inl (grind (arith))) (λ np. ⊎_elim (λ u. inl (grind (arith, Uo))) (λ e. inr (Ho i ns ∙ e)) (k i (grind (arith, Po)) n)) (cases_eq i p)) (cases_eq i s)

  apart : ((i j : ℕ) → 0 < P i → i ≢ root → j ≢ root → P i ≡ P j → I i ≡ I j → i ≡ j)
      → ((i : ℕ) → i ≢ root → P i ≡ p → I i ≡ x → ⊥)
      → (i j : ℕ) → 0 < P' i → i ≢ root → j ≢ root → P' i ≡ P' j → I' i ≡ I' j → i ≡ j
  apart a new i j h ni nj e f =
      ⊎_elim (λ (si : i ≡ s). ⊎_elim (λ (sj : j ≡ s). si ∙ sym sj) (λ oj. absurd (new j nj (grind (arith, Po)) (grind (arith, Io)))) (cases_eq j s))
      (λ oi. ⊎_elim (λ (sj : j ≡ s). absurd (new i ni (grind (arith, Po)) (grind (arith, Io)))) (λ oj. a i j (grind (arith, Po)) ni nj (grind (arith, Po)) (grind (arith, Io))) (cases_eq j s)) (cases_eq i s)

  holders : ((i : ℕ) → H i ≡ true → 0 < P i) → (i : ℕ) → H' i ≡ true → 0 < P' i
  holders k i h = ⊎_elim (λ (e : i ≡ s). grind (arith, cases_eq)) (λ o. rw (Po i o) (k i (sym (Ho i o) ∙ h))) (cases_eq i s)

  few : ((i : ℕ) → i ≢ root → U i ≤ ways) → (i : ℕ) → i ≢ root → U' i ≤ ways
  few f i n = grind (arith, cases_eq, Uo, f, space)

  few_root : U root ≤ ways + 1 → U' root ≤ ways + 1
  few_root f = ⊎_elim (λ (e : p ≡ root). let h = space_root e in let w = ap U' e in omega (arith, h, w)) (λ (n : p ≢ root). rw (Uo root (λ e. grind arith) (λ e. n (sym e))) f) (cases_eq p root)

  pub grown_shape : Shape 0 root P I U B K T H → ((i : ℕ) → i ≢ root → P i ≡ p → I i ≡ x → ⊥) → Shape 0 root P' I' U' B' K' T' H'
  grown_shape S new = record {
    age = λ i. cond (eqb i s) (suc (S.age p)) (S.age i);
    top = suc S.top;
    young = young S.age S.top S.young;
    root_in = r0;
    root_up = root_up;
    none = none;
    parents = parents;
    falls = falls S.age S.falls;
    uses = uses S.uses;
    below = below S.below;
    kept = kept S.kept;
    apart = apart S.apart new;
    holders = holders S.holders;
    few = few S.few;
    few_root = few_root S.few_root;
  }
