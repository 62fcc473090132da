-- Making the root's only child the root keeps a tree sound, and takes the first item off every other path.
use Rattle.tree.specs.Limits.{capacity, slot_count, ways}
use Rattle.std.proofs.Common.{◌≡◌, ℕ, suc, ◌+◌, ◌*◌, ◌<◌, ◌≤◌, true, cond, eqb, ◌≢◌, List, [], ◌∷◌, ◌++◌, length, set, sym, refl, ap, ◌∙◌, subst, ⊎_elim, arith, length-append}
use Rattle.std.proofs.Math.ListN.{get_or-append}
use Rattle.std.proofs.Math.Seq.{get_or-append_seam}
use Rattle.std.proofs.lemmas.Bool.{cases_eq, ne_eqb, both_ways}
use Rattle.std.proofs.lemmas.Bool.Decides.{nat_tests}
use Rattle.tree.specs.declared.table.Entry.{Entry}
use Rattle.tree.specs.declared.table.Table.{Table}
use Rattle.tree.specs.Records.{at, blank, wider, vacated}
use Rattle.tree.specs.Sound.{total, kid, kid_slot, counts_used, par, item_of, uses_of, below_of, held_of, left, free, kids, kid_slots, Sound, Up, top, step}
use Rattle.tree.proofs.Steps.{topped, raised}
use Rattle.tree.proofs.Moves.{Sole, Shifted}
use Rattle.tree.proofs.Loose.{positive, in_table, root_used, some_used, below_fit}
use Rattle.tree.proofs.Children.{root_below}
use Rattle.tree.proofs.Totals.{two_first, two_second, two_other, two_length, total_two, within}
use Rattle.tree.proofs.Counting.{descend}
use Rattle.tree.proofs.Raise.{raised_shape}

swap_r : (K K' r c w v u : ℕ) → K' + cond (eqb r r) w 0 + cond (eqb r r) v 0 ≡ K + cond (eqb 0 r) w 0 + cond (eqb c r) u 0 → K ≡ w + v → c ≢ r → 0 < r → K' ≡ 0
swap_r K K' r c w v u e k n h = grind (arith, nat_tests)

swap_c : (K K' r c w v u : ℕ) → K' + cond (eqb r c) w 0 + cond (eqb r c) v 0 ≡ K + cond (eqb 0 c) w 0 + cond (eqb c c) u 0 → c ≢ r → 0 < c → K' ≡ K + u
swap_c K K' r c w v u e n h = grind (arith, nat_tests)

swap_o : (K K' r c i w v u : ℕ) → K' + cond (eqb r i) w 0 + cond (eqb r i) v 0 ≡ K + cond (eqb 0 i) w 0 + cond (eqb c i) u 0 → i ≢ r → i ≢ c → 0 < i → K' ≡ K
swap_o K K' r c i w v u e n m h = grind (arith, nat_tests)

module _ {t : Table} {c : ℕ} (A : Sole t c) where
  abbrev S : Sound 0 t
  S = A.sound

  abbrev r : ℕ
  r = t.root

  abbrev t' : Table
  t' = raised t c

  r0 : 0 < r
  r0 = S.shape.root_in

  r_used : 0 < par t r
  r_used = root_used 0 t S

  r_in : r < length t.entries
  r_in = within t.entries r r_used

  two_uses : uses_of t r ≡ 2
  two_uses = omega (arith, A.counts.0)

  below_is : below_of t r ≡ r + c
  below_is = let b = root_below t S r r_used refl in omega (arith, b, A.counts.1)

  c≢r : c ≢ r
  c≢r = A.leads.0.0

  c_up : par t c ≡ r
  c_up = A.leads.0.1

  c_used : 0 < par t c
  c_used = rw c_up r0

  c_in : c < length t.entries
  c_in = within t.entries c c_used

  c_pos : 0 < c
  c_pos = positive 0 t S c c_used

  pub c_slot : c < slot_count
  c_slot = in_table 0 t S c c_used

  pub c_uses : uses_of t c ≤ ways
  c_uses = S.shape.few c c≢r

  pub c_below : below_of t c ≤ slot_count * ways
  c_below = below_fit 0 t S c c_pos c_uses

  only : (i : ℕ) → par t i ≡ r → i ≢ r → i ≡ c
  only i e n = A.leads.1 i (n, e)

  abbrev next : Entry
  next = topped (at t.entries c) c

  r≢c : r ≢ c
  r≢c e = c≢r (sym e)

  at_r : at t'.entries r ≡ blank
  at_r = two_first t.entries r blank c next r_in r≢c

  at_c : at t'.entries c ≡ next
  at_c = two_second t.entries r blank c next c_in

  at_o : (i : ℕ) → i ≢ r → i ≢ c → at t'.entries i ≡ at t.entries i
  at_o i = two_other t.entries r blank c next i

  same : {B : Type 0} (f : Entry → B) → f next ≡ f (at t.entries c) → (i : ℕ) → i ≢ r → f (at t'.entries i) ≡ f (at t.entries i)
  same f k i n =
      ⊎_elim (λ e. ap (λ l. f (at t'.entries l)) e ∙ ap f at_c ∙ k ∙ sym (ap (λ l. f (at t.entries l)) e)) (λ m. ap f (at_o i n m)) (cases_eq i c)

  pub par_o : (i : ℕ) → i ≢ r → i ≢ c → par t' i ≡ par t i
  par_o i n m = ap (λ (e : Entry). e.parent) (at_o i n m)

  pub item_o : (i : ℕ) → i ≢ r → item_of t' i ≡ item_of t i
  item_o = same (λ (e : Entry). e.item) refl

  pub held_o : (i : ℕ) → i ≢ r → held_of t' i ≡ held_of t i
  held_o = same (λ (e : Entry). e.held) refl

  sums : (f : ℕ → Entry → ℕ) → total f 0 t'.entries + f r (at t.entries r) + f c (at t.entries c) ≡ total f 0 t.entries + f r blank + f c next
  sums f = total_two f t.entries r blank c next r_in c_in c≢r

  sums_kid : (i : ℕ) → kids t' i + cond (eqb r i) 1 0 + cond (eqb r i) 1 0 ≡ kids t i + cond (eqb 0 i) 1 0 + cond (eqb c i) 1 0
  sums_kid i = let e = sums (kid i) in let u = S.shape.root_up in simp (u, c_up) at e

  sums_slot : (i : ℕ) → kid_slots t' i + cond (eqb r i) r 0 + cond (eqb r i) c 0 ≡ kid_slots t i + cond (eqb 0 i) r 0 + cond (eqb c i) c 0
  sums_slot i = let e = sums (kid_slot i) in let u = S.shape.root_up in simp (u, c_up) at e

  more : left t' ≡ left t + 1
  more = length-append t.spare.items (r ∷ [])

  spare_new : free t' (left t) ≡ r
  spare_new = get_or-append_seam t.spare.items r [] 0

  spare_old : (k : ℕ) → k < left t → free t' k ≡ free t k
  spare_old k h = get_or-append t.spare.items (r ∷ []) 0 k h

  spare_unused : (k i : ℕ) → k < left t → 0 < par t i → free t k ≢ i
  spare_unused k i h u e = let z = ap (λ (e : Entry). e.parent) (S.spares k h).2 in let w = ap (par t) e in omega (arith, w, z)

  raised_sound : Sound 0 t'
  raised_sound = record {
    shape = raised_shape r c (par t) (par t') (item_of t) (item_of t') (uses_of t) (uses_of t') (below_of t) (below_of t') (kids t) (kids t') (kid_slots t) (kid_slots t') (held_of t) (held_of t')
        S.shape.none r0 S.shape.root_up c_up c≢r only
        (ap (λ (e : Entry). e.parent) at_r) (ap (λ (e : Entry). e.parent) at_c) par_o
        item_o
        (ap (λ (e : Entry). e.held) at_r) held_o
        (ap (λ (e : Entry). e.uses) at_r) (ap (λ (e : Entry). e.uses) at_c) (λ i n m. ap (λ (e : Entry). e.uses) (at_o i n m))
        (ap (λ (e : Entry). e.below) at_r) (ap (λ (e : Entry). e.below) at_c) (λ i n m. ap (λ (e : Entry). e.below) (at_o i n m))
        (swap_r _ _ _ _ _ _ _ (sums_kid r) (sym (S.shape.uses r r0) ∙ two_uses) c≢r r0) (swap_c _ _ _ _ _ _ _ (sums_kid c) c≢r c_pos) (λ i h n m. swap_o _ _ _ _ _ _ _ _ (sums_kid i) n m h)
        (swap_r _ _ _ _ _ _ _ (sums_slot r) (sym (S.shape.below r r0) ∙ below_is) c≢r r0) (swap_c _ _ _ _ _ _ _ (sums_slot c) c≢r c_pos) (λ i h n m. swap_o _ _ _ _ _ _ _ _ (sums_slot i) n m h)
        S.shape.parents S.shape;
    size = two_length t.entries r blank c next ∙ S.size;
    spares = spare_in;
    spares_apart = spare_apart;
    filled =
        let e = sums counts_used in
        let a = ne_eqb (par t r) 0 (λ z. omega (arith, r_used)) in
        let b = ne_eqb (par t c) 0 (λ z. omega (arith, c_up, r0)) in
        let d = ne_eqb c 0 (λ z. omega (arith, c_pos)) in
        let e2 = simp (a, b, d) at e in
        let m = more in omega (arith, e2, S.filled, m);
  }
    where
      spare_in : (k : ℕ) → k < left t' → (0 < free t' k) × (free t' k < slot_count) × (at t'.entries (free t' k) ≡ blank)
      spare_in k h =
          ⊎_elim (λ (e : k ≡ left t). rw (e, spare_new) (r0, rw S.size at r_in, at_r))
          (λ (n : k ≢ left t).
          let l : k < left t = let m = more in omega (arith, m) in
          let q = S.spares k l in
          rw (spare_old k l) (q.0, q.1, at_o (free t k) (spare_unused k r l r_used) (spare_unused k c l (rw c_up r0)) ∙ q.2)) (cases_eq k (left t))

      before : (k : ℕ) → k < left t' → k ≢ left t → k < left t
      before k h n = let m = more in omega (arith, m)

      spare_apart : (k l : ℕ) → k < left t' → l < left t' → free t' k ≡ free t' l → k ≡ l
      spare_apart k l hk hl e =
          ⊎_elim (λ (a : k ≡ left t). ⊎_elim (λ (b : l ≡ left t). a ∙ sym b) (λ (b : l ≢ left t). let y = before l hl b in absurd (spare_unused l r y r_used (sym (spare_old l y) ∙ sym e ∙ ap (free t') a ∙ spare_new))) (cases_eq l (left t)))
          (λ (a : k ≢ left t). let x = before k hk a in ⊎_elim (λ (b : l ≡ left t). absurd (spare_unused k r x r_used (sym (spare_old k x) ∙ e ∙ ap (free t') b ∙ spare_new))) (λ (b : l ≢ left t). let y = before l hl b in S.spares_apart k l x y (sym (spare_old k x) ∙ e ∙ spare_old l y)) (cases_eq l (left t))) (cases_eq k (left t))

  root_path : {i : ℕ} {xs : List ℕ} → Up t i xs → i ≡ r → xs ≡ []
  root_path top e = refl
  root_path (step i xs u n w) e = absurd (n e)

  -- each path but the root's ends, at its far end, with the item of the new root
  pub raised_path : {i : ℕ} {xs : List ℕ} → Up t i xs → i ≢ r → (ys : List ℕ) × (xs ≡ ys ++ (item_of t c ∷ [])) × Up t' i ys
  raised_path top o = absurd (o refl)
  raised_path (step i xs u n w) o =
      ⊎_elim (λ (e : i ≡ c). ([], ap (λ (l : ℕ). item_of t l ∷ xs) e ∙ ap (λ (zs : List ℕ). item_of t c ∷ zs) (root_path w (ap (par t) e ∙ c_up)), subst (λ (l : ℕ). Up t' l []) (sym e) top))
      (λ (m : i ≢ c).
      let q = raised_path w (λ z. m (only i z o)) in
      (item_of t i ∷ q.0, ap (λ (zs : List ℕ). item_of t i ∷ zs) q.1, subst (λ (y : ℕ). Up t' i (y ∷ q.0)) (item_o i o) (step i q.0 (rw (par_o i o m) u) m (rw (par_o i o m) q.2))))
      (cases_eq i c)

  pub raise_room : left t < capacity
  raise_room = let f = raised_sound.filled in let u = some_used 0 t' raised_sound in let m = more in omega (arith, f, u, m)

  -- at or below the new root there is a holder
  someone : (h : ℕ) × (ys : List ℕ) × (held_of t h ≡ true) × Up t h (ys ++ (item_of t c ∷ []))
  someone = descend t S (suc S.shape.top) c (item_of t c ∷ []) (omega arith) (step c [] (rw c_up r0) c≢r (subst (λ (j : ℕ). Up t j []) (sym c_up) top)) c≢r

  raise_shifted : Shifted t (item_of t c) t'
  raise_shifted = record {
    sound = raised_sound;
    slot = someone.0;
    some = someone.2;
    empty = A.loose;
    left = more;
    shared = λ i xs h w. let q = raised_path w (λ e. both_ways (held_of t r) A.loose (sym (ap (held_of t) e) ∙ h)) in (q.0, q.1);
    held = λ i. ⊎_elim (λ (e : i ≡ r). ap (held_of t') e ∙ ap (λ (e : Entry). e.held) at_r ∙ sym A.loose ∙ sym (ap (held_of t) e)) (held_o i) (cases_eq i r);
    paths = λ i xs w n. raised_path w n;
  }

  -- what `take_first` writes
  pub shifted_as : (e : Entry) (u : Table) → e ≡ wider (at t.entries c) c → u ≡ vacated t r
      → Shifted t (item_of t c) (record { entries = set u.entries c (record { item = e.item; parent = c; uses = e.uses; below = e.below; held = e.held }); spare = u.spare; root = c })
  shifted_as e u k w =
      subst (λ (v : Table). Shifted t (item_of t c) v)
      (sym (λ i. record { entries = set (w i).entries c (record { item = (k i).item; parent = c; uses = (k i).uses; below = (k i).below; held = (k i).held }); spare = (w i).spare; root = c }))
      raise_shifted
