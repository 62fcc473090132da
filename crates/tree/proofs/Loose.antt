-- Letting the holder of entry i go, and what a sound tree's numbers are below.
use Rattle.tree.specs.Limits.{slot_count, ways}
use Rattle.std.proofs.Common.{◌≡◌, ℕ, ◌+◌, ◌*◌, ◌<◌, ◌≤◌, true, false, ◌≢◌, ◌⊎◌, List, ◌∷◌, length, sym, refl, ap, ◌∙◌, subst, inl, inr, ⊎_elim, arith, length-set, get_or-set_other, get_or-set_same}
use Rattle.std.proofs.lemmas.Bool.{cases_eq, ne_eqb, both_ways}
use Rattle.tree.specs.declared.table.Entry.{Entry}
use Rattle.tree.specs.declared.table.Table.{Table}
use Rattle.tree.specs.Records.{at, blank}
use Rattle.tree.specs.Sound.{total, kid, kid_slot, counts_used, par, item_of, uses_of, below_of, held_of, free, Sound, Up, top, step, Pruned}
use Rattle.tree.proofs.Steps.{loosened}
use Rattle.tree.proofs.Moves.{Pruning, LetGo}
use Rattle.tree.proofs.Totals.{total_set, total_ge, total_kid_slot, within}

-- the sum of the slots of few children is small
pub below_fit : (x : ℕ) (t : Table) → Sound x t → (i : ℕ) → 0 < i → uses_of t i ≤ ways → below_of t i ≤ slot_count * ways
below_fit x t S i h f =
    let z = S.size in
    let u = S.shape.uses i h in
    let e = S.shape.below i h in
    let b = total_kid_slot slot_count i 0 t.entries (omega arith) in
    omega (arith, e, b, u, f)

pub positive : (x : ℕ) (t : Table) → Sound x t → (i : ℕ) → 0 < par t i → 0 < i
positive x t S i u = let z = S.shape.none in ⊎_elim (λ (e : i ≡ 0). let h = ap (par t) e in omega (arith, h, z)) (λ n. omega (arith, n)) (cases_eq i 0)

pub in_table : (x : ℕ) (t : Table) → Sound x t → (i : ℕ) → 0 < par t i → i < slot_count
in_table x t S i u = rw S.size at (within t.entries i u)

pub root_used : (x : ℕ) (t : Table) → Sound x t → 0 < par t t.root
root_used x t S = rw S.shape.root_up S.shape.root_in

pub some_used : (x : ℕ) (t : Table) → Sound x t → 1 ≤ total counts_used 0 t.entries
some_used x t S =
    let g = total_ge counts_used 0 t.entries t.root (within t.entries t.root (root_used x t S)) in
    let b = ne_eqb (par t t.root) 0 (λ e. let u = root_used x t S in omega (arith, u)) in
    let g2 = rw b at g in omega (arith, g2)

pub settled : (j : ℕ) (t : Table) → Sound j t → (0 < uses_of t j) ⊎ (held_of t j ≡ true) → Sound 0 t
settled j t S k = record {
  shape = record {
    age = S.shape.age;
    top = S.shape.top;
    young = S.shape.young;
    root_in = S.shape.root_in;
    root_up = S.shape.root_up;
    none = S.shape.none;
    parents = S.shape.parents;
    falls = S.shape.falls;
    uses = S.shape.uses;
    below = S.shape.below;
    kept = λ i u n. ⊎_elim (λ (e : i ≡ j). let P : ℕ → Type 0 = λ l. (0 < uses_of t l) ⊎ (held_of t l ≡ true) in subst P (sym e) k) (λ o. S.shape.kept i u o) (cases_eq i j);
    apart = S.shape.apart;
    holders = S.shape.holders;
    few = S.shape.few;
    few_root = S.shape.few_root;
  };
  size = S.size;
  spares = S.spares;
  spares_apart = S.spares_apart;
  filled = S.filled;
}

pub pruned : (t : Table) (j : ℕ) (t' : Table) → Pruning t j t' → (0 < uses_of t' j) ⊎ (held_of t' j ≡ true) → Pruned t t'
pruned t j t' R k = record { sound = settled j t' R.sound k; room = R.room; root = R.root; holders = R.holders; paths = R.paths }

module _ (t : Table) (i : ℕ) (S : Sound 0 t) (h : held_of t i ≡ true) where
  abbrev t' : Table
  t' = loosened t i

  used : 0 < par t i
  used = S.shape.holders i h

  i_in : i < length t.entries
  i_in = within t.entries i used

  abbrev free_entry : Entry
  free_entry = let e = at t.entries i in record { item = e.item; parent = e.parent; uses = e.uses; below = e.below; held = false }

  at_i : at t'.entries i ≡ free_entry
  at_i = get_or-set_same t.entries i free_entry blank i_in

  at_o : (k : ℕ) → k ≢ i → at t'.entries k ≡ at t.entries k
  at_o k n = get_or-set_other t.entries i k free_entry blank n

  same : {B : Type 0} (f : Entry → B) → f free_entry ≡ f (at t.entries i) → (k : ℕ) → f (at t'.entries k) ≡ f (at t.entries k)
  same f q k = ⊎_elim (λ e. ap (λ l. f (at t'.entries l)) e ∙ ap f at_i ∙ q ∙ sym (ap (λ l. f (at t.entries l)) e)) (λ m. ap f (at_o k m)) (cases_eq k i)

  pub loose_par : (k : ℕ) → par t' k ≡ par t k
  loose_par = same (λ (e : Entry). e.parent) refl

  items : (k : ℕ) → item_of t' k ≡ item_of t k
  items = same (λ (e : Entry). e.item) refl

  uses : (k : ℕ) → uses_of t' k ≡ uses_of t k
  uses = same (λ (e : Entry). e.uses) refl

  belows : (k : ℕ) → below_of t' k ≡ below_of t k
  belows = same (λ (e : Entry). e.below) refl

  pub loose_here : held_of t' i ≡ false
  loose_here = ap (λ (e : Entry). e.held) at_i

  pub loose_held : (k : ℕ) → k ≢ i → held_of t' k ≡ held_of t k
  loose_held k n = ap (λ (e : Entry). e.held) (at_o k n)

  sums : (f : ℕ → Entry → ℕ) → f i free_entry ≡ f i (at t.entries i) → total f 0 t'.entries ≡ total f 0 t.entries
  sums f q = let e = total_set f 0 t.entries i free_entry i_in in let z : 0 + i ≡ i = omega arith in let e2 = rw z at e in omega (arith, e2, q)

  pub loose_sound : Sound i t'
  loose_sound = record {
    shape = record {
      age = S.shape.age;
      top = S.shape.top;
      young = S.shape.young;
      root_in = S.shape.root_in;
      root_up = loose_par t.root ∙ S.shape.root_up;
      none = loose_par 0 ∙ S.shape.none;
      parents = λ k u. rw (loose_par k) (rw (loose_par (par t k)) (S.shape.parents k (rw (loose_par k) at u)));
      falls = λ k u n. rw (loose_par k) (S.shape.falls k (rw (loose_par k) at u) n);
      uses = λ k p. uses k ∙ S.shape.uses k p ∙ sym (sums (kid k) refl);
      below = λ k p. belows k ∙ S.shape.below k p ∙ sym (sums (kid_slot k) refl);
      kept = λ k u n. ⊎_elim (λ w. inl (rw (uses k) w)) (λ w. inr (loose_held k n ∙ w)) (S.shape.kept k (rw (loose_par k) at u) (λ z. let y = positive 0 t S k (rw (loose_par k) at u) in omega (arith, y)));
      apart = λ k l u nk nl e f. S.shape.apart k l (rw (loose_par k) at u) nk nl (sym (loose_par k) ∙ e ∙ loose_par l) (sym (items k) ∙ f ∙ items l);
      holders = λ k w. rw (loose_par k) (⊎_elim (λ (e : k ≡ i). absurd (both_ways (held_of t' i) loose_here (sym (ap (held_of t') e) ∙ w))) (λ n. S.shape.holders k (sym (loose_held k n) ∙ w)) (cases_eq k i));
      few = λ k n. rw (uses k) (S.shape.few k n);
      few_root = rw (uses t.root) S.shape.few_root;
    };
    size = length-set t.entries i free_entry ∙ S.size;
    spares = λ k l. let q = S.spares k l in (q.0, q.1, at_o (free t k) (λ e. let w = ap (par t) e in let z = ap (λ (e : Entry). e.parent) q.2 in let u = used in omega (arith, w, z, u)) ∙ q.2);
    spares_apart = S.spares_apart;
    filled = let e = sums counts_used refl in omega (arith, e, S.filled);
  }

  pub loose_path : {k : ℕ} {xs : List ℕ} → Up t k xs → Up t' k xs
  loose_path top = top
  loose_path (step k xs u n w) =
      subst (λ (y : ℕ). Up t' k (y ∷ xs)) (items k) (step k xs (rw (loose_par k) u) n (rw (loose_par k) (loose_path w)))

  pub loose_used : 0 < par t' i
  loose_used = rw (loose_par i) used

  pub loose_released : (t2 : Table) → Pruned t' t2 → LetGo t i t2
  loose_released t2 R = record {
    sound = R.sound;
    room = R.room;
    root = R.root;
    loose = R.holders i ∙ loose_here;
    holders = λ k n. R.holders k ∙ loose_held k n;
    paths = λ k xs w u. R.paths k xs (loose_path w) u;
  }
