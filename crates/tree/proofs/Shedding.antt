-- Freeing an entry that nothing uses keeps a tree sound, but that its parent may now be unused, and every other path.
use Rattle.tree.specs.Limits.{capacity, slot_count}
use Rattle.std.proofs.Common.{◌≡◌, ℕ, ◌+◌, ◌<◌, ◌≤◌, cond, eqb, ◌≢◌, List, [], ◌∷◌, length, set, sym, refl, ap, ◌∙◌, subst, ⊎_elim, arith, length-append, get_or-set_other}
use Rattle.std.proofs.Math.ListN.{get_or-append}
use Rattle.std.proofs.Math.Seq.{get_or-append_seam}
use Rattle.std.proofs.lemmas.Bool.{cases_eq, ne_eqb}
use Rattle.std.proofs.lemmas.Bool.Decides.{nat_tests}
use Rattle.tree.specs.declared.table.Entry.{Entry}
use Rattle.tree.specs.declared.table.Table.{Table}
use Rattle.tree.specs.Records.{at, blank, slimmer, vacated, shed}
use Rattle.tree.specs.Sound.{total, kid, kid_slot, counts_used, par, item_of, uses_of, below_of, held_of, left, free, kids, kid_slots, Sound, Idle, Up, top, step}
use Rattle.tree.proofs.Moves.{Pruning}
use Rattle.tree.proofs.Totals.{two_first, two_second, two_other, two_length, total_two, no_kid, no_slots, within}
use Rattle.tree.proofs.Loose.{some_used}
use Rattle.tree.proofs.Shed.{shed_shape}

-- a sum over the children of l, where the one at j was under p and is now free
less_at : (K K' a p q w v : ℕ) → K' + cond (eqb a p) w 0 + q ≡ K + cond (eqb 0 p) v 0 + q → a ≡ p → 0 < p → K' + w ≡ K
less_at K K' a p q w v e z h = grind (arith, nat_tests)

less_off : (K K' a p l q w v : ℕ) → K' + cond (eqb a l) w 0 + q ≡ K + cond (eqb 0 l) v 0 + q → a ≡ p → 0 < l → l ≢ p → K' ≡ K
less_off K K' a p l q w v e z h n = grind (arith, nat_tests)

module _ {t : Table} {j : ℕ} (I : Idle t j) where
  abbrev S : Sound j t
  S = I.sound

  abbrev used : 0 < par t j
  used = I.used

  abbrev p : ℕ
  p = par t j

  abbrev t' : Table
  t' = shed t j

  j0 : 0 < j
  j0 = let z = S.shape.none in ⊎_elim (λ (e : j ≡ 0). let h = ap (par t) e in omega (arith, h, z)) (λ n. omega (arith, n)) (cases_eq j 0)

  j_in : j < length t.entries
  j_in = within t.entries j used

  p_in : p < length t.entries
  p_in = within t.entries p (S.shape.parents j used)

  kids0 : kids t j ≡ 0
  kids0 = sym (S.shape.uses j j0) ∙ I.childless

  childless : (i : ℕ) → par t i ≡ j → ⊥
  childless i e = no_kid j 0 t.entries kids0 i (within t.entries i (rw e j0)) e

  p≢j : p ≢ j
  p≢j = childless j

  j≢p : j ≢ p
  j≢p e = p≢j (sym e)

  j≢root : j ≢ t.root
  j≢root e = childless j (ap (par t) e ∙ S.shape.root_up ∙ sym e)

  below0 : below_of t j ≡ 0
  below0 = S.shape.below j j0 ∙ no_slots j 0 t.entries kids0

  abbrev up : Entry
  up = slimmer (at t.entries p) j

  at_j : at t'.entries j ≡ blank
  at_j = two_first t.entries j blank p up j_in j≢p

  at_p : at t'.entries p ≡ up
  at_p = two_second t.entries j blank p up p_in

  at_o : (i : ℕ) → i ≢ j → i ≢ p → at t'.entries i ≡ at t.entries i
  at_o i = two_other t.entries j blank p up i

  same : {B : Type 0} (f : Entry → B) → f up ≡ f (at t.entries p) → (i : ℕ) → i ≢ j → f (at t'.entries i) ≡ f (at t.entries i)
  same f k i n =
      ⊎_elim (λ e. ap (λ l. f (at t'.entries l)) e ∙ ap f at_p ∙ k ∙ sym (ap (λ l. f (at t.entries l)) e)) (λ m. ap f (at_o i n m)) (cases_eq i p)

  pub par_o : (i : ℕ) → i ≢ j → par t' i ≡ par t i
  par_o = same (λ (e : Entry). e.parent) refl

  pub item_o : (i : ℕ) → i ≢ j → item_of t' i ≡ item_of t i
  item_o = same (λ (e : Entry). e.item) refl

  pub held_o : (i : ℕ) → i ≢ j → held_of t' i ≡ held_of t i
  held_o = same (λ (e : Entry). e.held) refl

  sums : (f : ℕ → Entry → ℕ) → total f 0 t'.entries + f j (at t.entries j) + f p (at t.entries p) ≡ total f 0 t.entries + f j blank + f p up
  sums f = total_two f t.entries j blank p up j_in p_in p≢j

  more : left t' ≡ left t + 1
  more = length-append t.spare.items (j ∷ [])

  spare_new : free t' (left t) ≡ j
  spare_new = get_or-append_seam t.spare.items j [] 0

  spare_old : (k : ℕ) → k < left t → free t' k ≡ free t k
  spare_old k h = get_or-append t.spare.items (j ∷ []) 0 k h

  spare_not_j : (k : ℕ) → k < left t → free t k ≢ j
  spare_not_j k h e = let z = ap (λ (e : Entry). e.parent) (S.spares k h).2 in let w = ap (par t) e in omega (arith, w, z)

  shed_sound : Sound p t'
  shed_sound = record {
    shape = shed_shape t.root j p (par t) (par t') (item_of t) (item_of t') (uses_of t) (uses_of t') (below_of t) (below_of t') (kids t) (kids t') (kid_slots t) (kid_slots t') (held_of t) (held_of t')
        S.shape.none S.shape.root_up refl used j≢root I.childless childless
        (ap (λ (e : Entry). e.parent) at_j) par_o
        item_o
        (ap (λ (e : Entry). e.held) at_j) held_o
        (ap (λ (e : Entry). e.uses) at_j) (ap (λ (e : Entry). e.uses) at_p) (λ i n m. ap (λ (e : Entry). e.uses) (at_o i n m))
        (ap (λ (e : Entry). e.below) at_j) below0 (ap (λ (e : Entry). e.below) at_p) (λ i n m. ap (λ (e : Entry). e.below) (at_o i n m))
        (less_at _ _ _ _ _ _ _ (sums (kid p)) refl used) (λ i h n. less_off _ _ _ _ _ _ _ _ (sums (kid i)) refl h n)
        (less_at _ _ _ _ _ _ _ (sums (kid_slot p)) refl used) (λ i h n. less_off _ _ _ _ _ _ _ _ (sums (kid_slot i)) refl h n)
        S.shape.parents S.shape;
    size = two_length t.entries j blank p up ∙ S.size;
    spares = spare_in;
    spares_apart = spare_apart;
    filled = let e = sums counts_used in let a = ne_eqb p 0 (λ z. omega (arith, used)) in let e2 = rw a at e in let m = more in omega (arith, e2, S.filled, m);
  }
    where
      spare_in : (k : ℕ) → k < left t' → (0 < free t' k) × (free t' k < slot_count) × (at t'.entries (free t' k) ≡ blank)
      spare_in k h =
          ⊎_elim (λ (e : k ≡ left t). rw (e, spare_new) (j0, rw S.size at j_in, at_j))
          (λ (n : k ≢ left t).
          let l : k < left t = let m = more in omega (arith, m) in
          let q = S.spares k l in
          let np : free t k ≢ p = λ e. let w = ap (par t) e in let z = ap (λ (e : Entry). e.parent) q.2 in let u = S.shape.parents j used in omega (arith, w, z, u) in
          rw (spare_old k l) (q.0, q.1, at_o (free t k) (spare_not_j k l) np ∙ q.2)) (cases_eq k (left t))

      before : (k : ℕ) → k < left t' → k ≢ left t → k < left t
      before k h n = let m = more in omega (arith, m)

      spare_apart : (k l : ℕ) → k < left t' → l < left t' → free t' k ≡ free t' l → k ≡ l
      spare_apart k l hk hl e =
          ⊎_elim (λ (a : k ≡ left t). ⊎_elim (λ (b : l ≡ left t). a ∙ sym b) (λ (b : l ≢ left t). let y = before l hl b in absurd (spare_not_j l y (sym (spare_old l y) ∙ sym e ∙ ap (free t') a ∙ spare_new))) (cases_eq l (left t)))
          (λ (a : k ≢ left t). let x = before k hk a in ⊎_elim (λ (b : l ≡ left t). absurd (spare_not_j k x (sym (spare_old k x) ∙ e ∙ ap (free t') b ∙ spare_new))) (λ (b : l ≢ left t). let y = before l hl b in S.spares_apart k l x y (sym (spare_old k x) ∙ e ∙ spare_old l y)) (cases_eq l (left t))) (cases_eq k (left t))

  pub shed_path : {i : ℕ} {xs : List ℕ} → Up t i xs → i ≢ j → Up t' i xs
  shed_path top o = top
  shed_path (step i xs u n w) o =
      let r = shed_path w (childless i) in
      subst (λ (y : ℕ). Up t' i (y ∷ xs)) (item_o i o) (step i xs (rw (par_o i o) u) n (rw (par_o i o) r))

  pub parent_uses : 0 < uses_of t p
  parent_uses =
      let e = sums (kid p) in
      let k = less_at _ _ _ _ _ _ _ e refl used in
      omega (arith, k, S.shape.uses p used)

  pub parent_below : j ≤ below_of t p
  parent_below =
      let e = sums (kid_slot p) in
      let k = less_at _ _ _ _ _ _ _ e refl used in
      omega (arith, k, S.shape.below p used)

  pub shed_room : left t < capacity
  shed_room = let f = shed_sound.filled in let u = some_used p t' shed_sound in let m = more in omega (arith, f, u, m)

  j_loose : (k : ℕ) → held_of t' k ≡ held_of t k
  j_loose k = ⊎_elim (λ (e : k ≡ j). ap (held_of t') e ∙ ap (λ (e : Entry). e.held) at_j ∙ sym I.loose ∙ sym (ap (held_of t) e)) (held_o k) (cases_eq k j)

  shed_pruning : (t0 : Table) → Pruning t0 j t → Pruning t0 p t'
  shed_pruning t0 R = record {
    sound = shed_sound;
    used = rw (par_o p p≢j) (S.shape.parents j used);
    room = let r = R.room in let m = more in omega (arith, r, m);
    root = R.root;
    holders = λ k. j_loose k ∙ R.holders k;
    paths = λ k xs w u.
        let n : k ≢ j = λ e. let z = ap (λ (e : Entry). e.parent) at_j in let y = ap (par t') e in omega (arith, u, y, z) in
        shed_path (R.paths k xs w (rw (par_o k n) at u)) n;
  }

  -- what `shed` writes
  pub up_kept : (e : Entry) (u : Table) → e ≡ at t.entries j → u ≡ vacated t j → at u.entries e.parent ≡ at t.entries p
  up_kept e u k w = ap (λ (v : Table). at v.entries e.parent) w ∙ ap (λ (y : Entry). at (vacated t j).entries y.parent) k ∙ get_or-set_other t.entries j p blank blank p≢j

  pub as_written : (e f : Entry) (u : Table) → e ≡ at t.entries j → u ≡ vacated t j → f ≡ slimmer (at u.entries e.parent) j
      → record { entries = set u.entries e.parent f; spare = u.spare; root = u.root } ≡ shed t j
  as_written e f u k w m =
      let n = m ∙ ap (λ (y : Entry). slimmer y j) (up_kept e u k w) in
      λ i. record { entries = set (w i).entries (k i).parent (n i); spare = (w i).spare; root = (w i).root }

  pub pruning_as : (t0 : Table) → Pruning t0 j t → (r : ℕ) (u : Table) → r ≡ p → u ≡ shed t j → Pruning t0 r u
  pruning_as t0 R r u e f = subst (λ v. Pruning t0 r v) (sym f) (subst (λ q. Pruning t0 q t') (sym e) (shed_pruning t0 R))
