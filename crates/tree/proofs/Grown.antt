-- A new entry keeps a tree sound and every path, and its own path is its parent's with its item.
use Rattle.tree.specs.Limits.{slot_count, ways}
use Rattle.std.proofs.Common.{◌≡◌, ℕ, ◌+◌, ◌*◌, ◌<◌, ◌≤◌, true, cond, eqb, ◌≢◌, List, [], ◌∷◌, length, get_or, set, sym, refl, ap, ◌∙◌, subst, ⊎_elim, arith, length-append, get_or-set_other}
use Rattle.std.proofs.Math.ListN.{get_or-append}
use Rattle.std.proofs.Math.Seq.{get_or-append_seam}
use Rattle.std.proofs.lemmas.Bool.{cases_eq, eq-eqb, ne_eqb}
use Rattle.std.proofs.lemmas.Bool.Decides.{nat_tests}
use Rattle.tree.specs.declared.table.Entry.{Entry}
use Rattle.tree.specs.declared.table.Table.{Table}
use Rattle.tree.specs.Records.{at, blank, wider}
use Rattle.tree.specs.Sound.{total, kid, kid_slot, counts_used, par, item_of, uses_of, below_of, held_of, left, free, kids, kid_slots, Sound, Up, top, step}
use Rattle.tree.proofs.Steps.{fresh, grown, IsDefault, default_blank}
use Rattle.tree.proofs.Moves.{Ready, Grew}
use Rattle.tree.proofs.Totals.{two_first, two_second, two_other, two_length, total_two, within}
use Rattle.tree.proofs.Loose.{below_fit}
use Rattle.tree.proofs.Children.{few_inner, few_root}
use Rattle.tree.proofs.Grow.{grown_shape}

-- a sum over the children of j, where the one at `a` was free and is now under p
more_at : (K K' a p q w v : ℕ) → K' + cond (eqb a p) w 0 + q ≡ K + cond (eqb p p) v 0 + q → a ≡ 0 → 0 < p → K' ≡ K + v
more_at K K' a p q w v e z h = grind (arith, nat_tests)

more_off : (K K' a p j q w v : ℕ) → K' + cond (eqb a j) w 0 + q ≡ K + cond (eqb p j) v 0 + q → a ≡ 0 → 0 < j → j ≢ p → K' ≡ K
more_off K K' a p j q w v e z h n = grind (arith, nat_tests)

module _ {t : Table} {p x s : ℕ} {rest : List ℕ} (G : Ready t p x s rest) where
  abbrev S : Sound 0 t
  S = G.sound

  abbrev t' : Table
  t' = grown t p x s rest

  under : 0 < par t p
  under = S.shape.holders p G.vetted.held

  left_is : left t' + 1 ≡ left t
  left_is = sym (ap length G.spare ∙ length-append rest (s ∷ []))

  free_is : (k : ℕ) → k < left t' → free t' k ≡ free t k
  free_is k h = sym (ap (λ (l : List ℕ). get_or l k 0) G.spare ∙ get_or-append rest (s ∷ []) 0 k h)

  last_is : free t (left t') ≡ s
  last_is = ap (λ (l : List ℕ). get_or l (left t') 0) G.spare ∙ get_or-append_seam rest s [] 0

  last : (0 < s) × (s < slot_count) × (at t.entries s ≡ blank)
  last = rw last_is at (S.spares (left t') (let e = left_is in omega (arith, e)))

  s_free : par t s ≡ 0
  s_free = ap (λ (e : Entry). e.parent) last.2

  s≢p : s ≢ p
  s≢p e = let h = ap (par t) e in omega (arith, s_free, h)

  p≢s : p ≢ s
  p≢s e = s≢p (sym e)

  p_in : p < length t.entries
  p_in = within t.entries p under

  p0 : 0 < p
  p0 = let z = S.shape.none in ⊎_elim (λ (e : p ≡ 0). let h = ap (par t) e in omega (arith, h, z)) (λ n. omega (arith, n)) (cases_eq p 0)

  pub s_slot : s < slot_count
  s_slot = last.1

  s_in : s < length t.entries
  s_in = omega (arith, last.1, S.size)

  space : p ≢ t.root → uses_of t p < ways
  space = few_inner t S p under G.vetted.single

  space_root : p ≡ t.root → uses_of t p ≤ ways
  space_root = few_root t S p under G.vetted.single

  pub p_uses : uses_of t p ≤ ways
  p_uses = ⊎_elim space_root (λ n. let h = space n in omega (arith, h)) (cases_eq p t.root)

  pub p_below : below_of t p ≤ slot_count * ways
  p_below = below_fit 0 t S p p0 p_uses

  abbrev up : Entry
  up = wider (at t.entries p) s

  at_s : at t'.entries s ≡ fresh p x
  at_s = two_first t.entries s (fresh p x) p up s_in s≢p

  at_p : at t'.entries p ≡ up
  at_p = two_second t.entries s (fresh p x) p up p_in

  at_o : (i : ℕ) → i ≢ s → i ≢ p → at t'.entries i ≡ at t.entries i
  at_o i = two_other t.entries s (fresh p x) p up i

  -- what the writes leave of a part of an entry that the second keeps
  same : {B : Type 0} (f : Entry → B) → f up ≡ f (at t.entries p) → (i : ℕ) → i ≢ s → f (at t'.entries i) ≡ f (at t.entries i)
  same f k i n =
      ⊎_elim (λ e. ap (λ j. f (at t'.entries j)) e ∙ ap f at_p ∙ k ∙ sym (ap (λ j. f (at t.entries j)) e)) (λ m. ap f (at_o i n m)) (cases_eq i p)

  par_o : (i : ℕ) → i ≢ s → par t' i ≡ par t i
  par_o = same (λ (e : Entry). e.parent) refl

  item_o : (i : ℕ) → i ≢ s → item_of t' i ≡ item_of t i
  item_o = same (λ (e : Entry). e.item) refl

  sums : (f : ℕ → Entry → ℕ) → total f 0 t'.entries + f s (at t.entries s) + f p (at t.entries p) ≡ total f 0 t.entries + f s (fresh p x) + f p up
  sums f = total_two f t.entries s (fresh p x) p up s_in p_in p≢s

  grown_sound : Sound 0 t'
  grown_sound = record {
    shape = grown_shape t.root s p x (par t) (par t') (item_of t) (item_of t') (uses_of t) (uses_of t') (below_of t) (below_of t') (kids t) (kids t') (kid_slots t) (kid_slots t') (held_of t) (held_of t')
        S.shape.none S.shape.root_in S.shape.root_up last.0 s_free (ap (λ (e : Entry). e.uses) last.2) under
        (ap (λ (e : Entry). e.parent) at_s) par_o
        (ap (λ (e : Entry). e.item) at_s) item_o
        (ap (λ (e : Entry). e.held) at_s) (same (λ (e : Entry). e.held) refl)
        (ap (λ (e : Entry). e.uses) at_s) (ap (λ (e : Entry). e.uses) at_p) (λ i n m. ap (λ (e : Entry). e.uses) (at_o i n m))
        (ap (λ (e : Entry). e.below) at_s) (ap (λ (e : Entry). e.below) last.2) (ap (λ (e : Entry). e.below) at_p) (λ i n m. ap (λ (e : Entry). e.below) (at_o i n m))
        (more_at _ _ _ _ _ _ _ (sums (kid p)) s_free p0) (λ i h n. more_off _ _ _ _ _ _ _ _ (sums (kid i)) s_free h n)
        (more_at _ _ _ _ _ _ _ (sums (kid_slot p)) s_free p0) (λ i h n. more_off _ _ _ _ _ _ _ _ (sums (kid_slot i)) s_free h n)
        S.shape.parents space space_root S.shape (λ i n e. G.vetted.absent i (n, e));
    size = two_length t.entries s (fresh p x) p up ∙ S.size;
    spares = spare_left;
    spares_apart = λ j k hj hk e. let l = left_is in S.spares_apart j k (omega (arith, l)) (omega (arith, l)) (sym (free_is j hj) ∙ e ∙ free_is k hk);
    filled = let e = sums counts_used in let a = eq-eqb (par t s) 0 s_free in let b = ne_eqb p 0 (λ z. omega (arith, p0)) in let e2 = rw (a, b) at e in let l = left_is in omega (arith, e2, S.filled, l);
  }
    where
      spare_left : (k : ℕ) → k < left t' → (0 < free t' k) × (free t' k < slot_count) × (at t'.entries (free t' k) ≡ blank)
      spare_left k h =
          let l : k < left t = let e = left_is in omega (arith, e) in
          let q = S.spares k l in
          let ns : free t k ≢ s = λ e. let f = left_is in let w = S.spares_apart k (left t') l (omega (arith, f)) (e ∙ sym last_is) in omega (arith, w, h) in
          let np : free t k ≢ p = λ e. let w = ap (par t) e in let z = ap (λ (e : Entry). e.parent) q.2 in omega (arith, w, z) in
          rw (free_is k h) (q.0, q.1, at_o (free t k) ns np ∙ q.2)

  in_use : {i : ℕ} {xs : List ℕ} → Up t i xs → 0 < par t i
  in_use top = rw S.shape.root_up S.shape.root_in
  in_use (step i xs u n w) = u

  not_s : {i : ℕ} → 0 < par t i → i ≢ s
  not_s {i} h e = let w = ap (par t) e in omega (arith, w, s_free)

  grown_old : {i : ℕ} {xs : List ℕ} → Up t i xs → Up t' i xs
  grown_old top = top
  grown_old (step i xs u n w) =
      let o = not_s u in
      rw (← item_o i o) (step i xs (rw (par_o i o) u) n (rw (par_o i o) (grown_old w)))

  grown_new : {xs : List ℕ} → Up t p xs → Up t' s (x ∷ xs)
  grown_new {xs} w =
      let a = ap (λ (e : Entry). e.parent) at_s in
      let b = ap (λ (e : Entry). e.item) at_s in
      subst (λ (y : ℕ). Up t' s (y ∷ xs)) b (step s xs (rw a p0) (λ e. not_s (rw S.shape.root_up S.shape.root_in) (sym e)) (rw a (grown_old w)))

  grown_added : Grew t p x s t'
  grown_added = record {
    sound = grown_sound;
    root = refl;
    left = left_is;
    fresh = s_free;
    path = λ xs w. grown_new w;
    paths = λ i xs w. grown_old w;
    held = ap (λ (e : Entry). e.held) at_s;
    holders = same (λ (e : Entry). e.held) refl;
  }

  -- what `add` writes
  pub up_kept : (e : Entry) → at (set t.entries s e) p ≡ at t.entries p
  up_kept e = get_or-set_other t.entries s p e blank p≢s

  pub added_as : (d e : Entry) → IsDefault d → e ≡ wider (at (set t.entries s (record { item = x; parent = p; uses = d.uses; below = d.below; held = true })) p) s
      → Grew t p x s (record { entries = set (set t.entries s (record { item = x; parent = p; uses = d.uses; below = d.below; held = true })) p e; spare = record { items = rest }; root = t.root })
  added_as d e k w =
      let b = default_blank d k in
      let f = w ∙ ap (λ (y : Entry). wider y s) (up_kept _) in
      subst (λ (v : Table). Grew t p x s v)
      (sym (λ j. record { entries = set (set t.entries s (record { item = x; parent = p; uses = (b j).uses; below = (b j).below; held = true })) p (f j); spare = record { items = rest }; root = t.root }))
      grown_added
