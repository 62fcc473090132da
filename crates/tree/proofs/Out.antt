-- That a tree is sound comes out of a truncation: what it carries besides facts can be computed again.
use Rattle.tree.specs.Limits.{capacity, slot_count, ways}
use Rattle.std.proofs.Common.{◌≡◌, ℕ, zero, suc, ◌+◌, ◌<◌, ◌≤◌, Bool, true, false, eqb, ◌≢◌, ◌⊎◌, List, length, sym, refl, ap, subst, inl, inr, ⊎_elim, not-suc-le-zero, arith}
use native.Mathlib.Nat.{ℕ_set}
use native.Mathlib.Bridge.{le_prop}
use mathlib.Core.Logic.{∥∥₁_elim, ∥∥₁_map}
use mathlib.Core.HLevel.{Π_prop, ×_prop, Σ_prop_path}
use mathlib.Core.Bool.{Bool-set}
use Rattle.std.proofs.lemmas.Bool.{cases_eq, cases_Bool, eq-eqb, eqb-true, both_ways}
use Rattle.tree.specs.declared.table.Entry.{Entry}
use Rattle.tree.specs.declared.table.Table.{Table}
use Rattle.tree.specs.Records.{at}
use Rattle.tree.specs.Sound.{total, counts_used, par, uses_of, below_of, held_of, left, free, kids, kid_slots, Sound, Up, top, step}
use Rattle.tree.proofs.Steps.{entry_blank}
use Rattle.tree.proofs.Totals.{within}
use Rattle.tree.proofs.Counting.{sum_to, path_up}

-- the least number with a decidable property
abbrev Least : (ℕ → Bool) → Type 0
Least P = (n : ℕ) × ((P n ≡ true) × ((m : ℕ) → P m ≡ true → n ≤ m))

least_prop : (P : ℕ → Bool) (u v : Least P) → u ≡ v
least_prop P u v =
    let a = u.1.1 v.0 v.1.0 in
    let b = v.1.1 u.0 u.1.0 in
    let e : u.0 ≡ v.0 = omega (arith, a, b) in
    Σ_prop_path (λ n. ×_prop (Bool-set (P n) true) (Π_prop (λ m. Π_prop (λ _. le_prop)))) e

least_from : (n : ℕ) (P : ℕ → Bool) → P n ≡ true → Least P
least_from zero P e = (0, (e, λ m h. omega arith))
least_from (suc n) P e =
    ⊎_elim (λ (z : P 0 ≡ true). (0, (z, λ m h. omega arith)))
    (λ (z : P 0 ≡ false).
    let r = least_from n (λ k. P (suc k)) e in
    (suc r.0, (r.1.0, later z r.0 r.1.1)))
    (cases_Bool (P 0))
  where
    later : P 0 ≡ false → (k : ℕ) → ((m : ℕ) → P (suc m) ≡ true → k ≤ m) → (m : ℕ) → P m ≡ true → suc k ≤ m
    later z k f zero h = absurd (both_ways (P 0) z h)
    later z k f (suc m) h = let g = f m h in omega (arith, g)

least_out : (P : ℕ → Bool) → ∥ ((n : ℕ) × (P n ≡ true)) ∥₁ → Least P
least_out P z = ∥∥₁_elim z (least_prop P) (λ s. least_from s.0 P s.1)

pub bool_out : (b c : Bool) → ∥ b ≡ c ∥₁ → b ≡ c
bool_out b c z = ∥∥₁_elim z (Bool-set b c) (λ e. e)

pub eq_out : (a b : ℕ) → ∥ a ≡ b ∥₁ → a ≡ b
eq_out a b z = ∥∥₁_elim z (ℕ_set a b) (λ e. e)

pub le_out : (a b : ℕ) → ∥ a ≤ b ∥₁ → a ≤ b
le_out a b z = ∥∥₁_elim z le_prop (λ e. e)

zero_le : (n : ℕ) → 0 ≤ n
zero_le n = omega arith

pos_cases : (n : ℕ) → (0 < n) ⊎ (n ≡ 0)
pos_cases zero = inr refl
pos_cases (suc n) = inl (omega arith)

sum_ge : (g : ℕ → ℕ) (n i : ℕ) → i < n → g i ≤ sum_to g n
sum_ge g zero i h = absurd (not-suc-le-zero h)
sum_ge g (suc n) i h =
    ⊎_elim (λ (e : i ≡ n). let q = ap g e in omega (arith, q)) (λ (o : i ≢ n). let r = sum_ge g n i (omega arith) in omega (arith, r)) (cases_eq i n)

-- n steps up
abbrev rise : Table → ℕ → ℕ → ℕ
rise t zero i = i
rise t (suc n) i = rise t n (par t i)

rises : (t : Table) {i : ℕ} {xs : List ℕ} → Up t i xs → (n : ℕ) × (eqb (rise t n i) t.root ≡ true)
rises t top = (0, eq-eqb t.root t.root refl)
rises t (step i xs u n w) = let r = rises t w in (suc r.0, r.1)

module _ (t : Table) (z : ∥ Sound 0 t ∥₁) where
  root_is : par t t.root ≡ t.root
  root_is = eq_out (par t t.root) t.root (∥∥₁_map z (λ S. S.shape.root_up))

  up_used : (i : ℕ) → 0 < par t i → 0 < par t (par t i)
  up_used i u = le_out 1 (par t (par t i)) (∥∥₁_map z (λ S. S.shape.parents i u))

  high : (i : ℕ) → 0 < par t i → Least (λ n. eqb (rise t n i) t.root)
  high i u = least_out (λ n. eqb (rise t n i) t.root) (∥∥₁_map z (λ S. rises t (path_up t S i u)))

  age_by : (i : ℕ) → (0 < par t i) ⊎ (par t i ≡ 0) → ℕ
  age_by i (inl u) = (high i u).0
  age_by i (inr e) = 0

  age : ℕ → ℕ
  age i = age_by i (pos_cases (par t i))

  age_is : (i : ℕ) (u : 0 < par t i) → age i ≡ (high i u).0
  unfolding age age_by
  age_is i u = go (pos_cases (par t i))
    where
      go : (d : (0 < par t i) ⊎ (par t i ≡ 0)) → age_by i d ≡ (high i u).0
      go (inl v) = ap (λ (l : Least (λ n. eqb (rise t n i) t.root)). l.0) (least_prop (λ n. eqb (rise t n i) t.root) (high i v) (high i u))
      go (inr e) = absurd (omega arith)

  age_none : (i : ℕ) → par t i ≡ 0 → age i ≡ 0
  unfolding age age_by
  age_none i e = go (pos_cases (par t i))
    where
      go : (d : (0 < par t i) ⊎ (par t i ≡ 0)) → age_by i d ≡ 0
      go (inl v) = absurd (omega arith)
      go (inr e) = refl

  less : (i : ℕ) (u : 0 < par t i) → i ≢ t.root → (n : ℕ) → eqb (rise t n i) t.root ≡ true → (high (par t i) (up_used i u)).0 < n
  less i u o zero e = absurd (o (eqb-true i t.root e))
  less i u o (suc n) e = let h = (high (par t i) (up_used i u)).1.1 n e in omega (arith, h)

  falls : (i : ℕ) → 0 < par t i → i ≢ t.root → age (par t i) < age i
  falls i u o =
      let a = age_is i u in
      let b = age_is (par t i) (up_used i u) in
      let l = less i u o (high i u).0 (high i u).1.0 in
      omega (arith, a, b, l)

  size_is : length t.entries ≡ slot_count
  size_is = eq_out (length t.entries) slot_count (∥∥₁_map z (λ S. S.size))

  young : (i : ℕ) → age i ≤ sum_to age slot_count
  young i = ⊎_elim
      (λ (u : 0 < par t i). sum_ge age slot_count i (rw size_is at (within t.entries i u)))
      (λ (e : par t i ≡ 0). subst (λ (a : ℕ). a ≤ sum_to age slot_count) (sym (age_none i e)) (zero_le _))
      (pos_cases (par t i))

  pub sound_out : Sound 0 t
  sound_out = record {
    shape = record {
      age = age;
      top = sum_to age slot_count;
      young = young;
      root_in = le_out 1 t.root (∥∥₁_map z (λ S. S.shape.root_in));
      root_up = root_is;
      none = eq_out (par t 0) 0 (∥∥₁_map z (λ S. S.shape.none));
      parents = up_used;
      falls = falls;
      uses = λ i h. eq_out (uses_of t i) (kids t i) (∥∥₁_map z (λ S. S.shape.uses i h));
      below = λ i h. eq_out (below_of t i) (kid_slots t i) (∥∥₁_map z (λ S. S.shape.below i h));
      kept = λ i u n. ⊎_elim (λ h. inl h)
          (λ (e : uses_of t i ≡ 0). inr (bool_out (held_of t i) true (∥∥₁_map z (λ S. ⊎_elim (λ (k : 0 < uses_of t i). absurd (omega (arith, k, e))) (λ h. h) (S.shape.kept i u n)))))
          (pos_cases (uses_of t i));
      apart = λ i j u n m e f. eq_out i j (∥∥₁_map z (λ S. S.shape.apart i j u n m e f));
      holders = λ i h. le_out 1 (par t i) (∥∥₁_map z (λ S. S.shape.holders i h));
      few = λ i n. le_out (uses_of t i) ways (∥∥₁_map z (λ S. S.shape.few i n));
      few_root = le_out (uses_of t t.root) (ways + 1) (∥∥₁_map z (λ S. S.shape.few_root));
    };
    size = size_is;
    spares = λ k h. (
      le_out 1 (free t k) (∥∥₁_map z (λ S. (S.spares k h).0)),
      le_out (suc (free t k)) slot_count (∥∥₁_map z (λ S. (S.spares k h).1)),
      entry_blank (at t.entries (free t k))
          (eq_out _ _ (∥∥₁_map z (λ S. ap (λ (e : Entry). e.item) (S.spares k h).2))) (eq_out _ _ (∥∥₁_map z (λ S. ap (λ (e : Entry). e.parent) (S.spares k h).2)))
          (eq_out _ _ (∥∥₁_map z (λ S. ap (λ (e : Entry). e.uses) (S.spares k h).2))) (eq_out _ _ (∥∥₁_map z (λ S. ap (λ (e : Entry). e.below) (S.spares k h).2)))
          (bool_out _ _ (∥∥₁_map z (λ S. ap (λ (e : Entry). e.held) (S.spares k h).2))),
    );
    spares_apart = λ j k hj hk e. eq_out j k (∥∥₁_map z (λ S. S.spares_apart j k hj hk e));
    filled = eq_out (left t + total counts_used 0 t.entries) (capacity + 1) (∥∥₁_map z (λ S. S.filled));
  }
