-- Where the root has another count of children than one, or is held, no item begins every held path.
use Rattle.std.proofs.Common.{◌≡◌, ℕ, suc, ◌+◌, ◌-◌, ◌<◌, true, cond, eqb, ◌≢◌, ◌⊎◌, List, [], ◌∷◌, ◌++◌, length, sym, refl, ap, ◌∙◌, subst, inl, inr, arith, length-append}
use Rattle.std.proofs.lemmas.Bool.Decides.{nat_tests}
use Rattle.tree.specs.declared.table.Entry.{Entry}
use Rattle.tree.specs.declared.table.Table.{Table}
use Rattle.tree.specs.declared.table.Next.{Next}
use Rattle.tree.specs.declared.table.Next.TheVariants.{Nothing, Only, Several}
use Rattle.tree.specs.Next.{Stands}
use Rattle.tree.specs.Records.{at, blank}
use Rattle.tree.specs.Sound.{total, kid, par, item_of, uses_of, held_of, Sound, Up, top, step}
use Rattle.tree.proofs.Moves.{UpShares}
use Rattle.tree.proofs.Totals.{two, two_first, two_second, two_other, total_two, within}
use Rattle.tree.proofs.Loose.{root_used}
use Rattle.tree.proofs.Counting.{head, some_kid, strip, descend, path, path_up}

abbrev last_of : List ℕ → ℕ
last_of [] = 0
last_of (x ∷ []) = x
last_of (x ∷ (y ∷ ys)) = last_of (y ∷ ys)

last_snoc : (xs : List ℕ) (a : ℕ) → last_of (xs ++ (a ∷ [])) ≡ a
last_snoc [] a = refl
last_snoc (x ∷ []) a = refl
last_snoc (x ∷ (y ∷ ys)) a = last_snoc (y ∷ ys) a

third : (K T w1 w2 r : ℕ) → T + cond (eqb r r) 1 0 + cond (eqb r r) 1 0 ≡ K + cond (eqb 0 r) 1 0 + cond (eqb 0 r) 1 0 → 0 < r → K ≢ 2 → 0 < T
third K T w1 w2 r e h n = grind (arith, nat_tests)

module _ (t : Table) (S : Sound 0 t) where
  abbrev r : ℕ
  r = t.root

  r0 : 0 < r
  r0 = S.shape.root_in

  held_root : (x : ℕ) → held_of t r ≡ true → UpShares t x → ⊥
  held_root x h s = let q = s r [] h top in let e = ap length q.1 in let l = length-append q.0 (x ∷ []) in omega (arith, e, l)

  -- an entry with a path of one item is a child of the root
  child_of_root : {c : ℕ} {xs : List ℕ} → Up t c xs → (x : ℕ) → xs ≡ x ∷ [] → (c ≢ r) × (par t c ≡ r) × (item_of t c ≡ x)
  child_of_root top x e = absurd (let l = ap length e in omega (arith, l))
  child_of_root (step c xs u n w) x e = (n, no_items w (let l = ap length e in omega (arith, l)), ap head e)
    where
      no_items : {j : ℕ} {ys : List ℕ} → Up t j ys → length ys ≡ 0 → j ≡ r
      no_items top z = refl
      no_items (step j ys u n w) z = absurd (omega (arith, z))

  r_in : r < length t.entries
  r_in = within t.entries r (root_used 0 t S)

  other_child : (c : ℕ) → c ≢ r → par t c ≡ r → uses_of t r ≢ 2 → (d : ℕ) × (d ≢ r) × (d ≢ c) × (par t d ≡ r)
  other_child c n e k =
      let c_in = within t.entries c (rw e r0) in
      let q = total_two (kid r) t.entries r blank c blank r_in c_in n in
      let u = S.shape.root_up in
      let q2 = simp (u, e) at q in
      let p : 0 < total (kid r) 0 (two t.entries r blank c blank) = third (total (kid r) 0 t.entries) _ 0 0 r q2 r0 (λ z. k (S.shape.uses r r0 ∙ z)) in
      let f = some_kid r 0 (two t.entries r blank c blank) p in
      let d = f.0 in
      let nr : d ≢ r = λ z. let w = two_first t.entries r blank c blank r_in (λ y. n (sym y)) in let v = ap (λ (e : Entry). e.parent) w in let y = ap (λ (i : ℕ). (at (two t.entries r blank c blank) i).parent) z in omega (arith, v, y, f.1, r0) in
      let nc : d ≢ c = λ z. let w = two_second t.entries r blank c blank c_in in let v = ap (λ (e : Entry). e.parent) w in let y = ap (λ (i : ℕ). (at (two t.entries r blank c blank) i).parent) z in omega (arith, v, y, f.1, r0) in
      (d, nr, nc, sym (ap (λ (e : Entry). e.parent) (two_other t.entries r blank c blank d nr nc)) ∙ f.1)

  pub unshared : (uses_of t r ≢ 2) ⊎ (held_of t r ≡ true) → (i x : ℕ) → held_of t i ≡ true → UpShares t x → ⊥
  unshared (inr h) i x hi s = held_root x h s
  unshared (inl k) i x hi s =
      let u = S.shape.holders i hi in
      let w = path_up t S i u in
      let q = s i (path t S i) hi w in
      let a = strip t S q.0 (x ∷ []) w q.1 in
      let c = child_of_root a.1 x refl in
      let o = other_child a.0 c.0 c.1 k in
      let d = o.0 in
      let du : 0 < par t d = rw o.3 r0 in
      let dw : Up t d (item_of t d ∷ []) = step d [] du o.1 (subst (λ (j : ℕ). Up t j []) (sym o.3) top) in
      let f = descend t S (suc S.shape.top) d (item_of t d ∷ []) (omega arith) dw o.1 in
      let g = s f.0 _ f.2 f.3 in
      let same : item_of t d ≡ x = sym (last_snoc f.1 (item_of t d)) ∙ ap last_of g.1 ∙ last_snoc g.0 x in
      o.2 (S.shape.apart d a.0 du o.1 c.0 (o.3 ∙ sym c.1) (same ∙ sym c.2))

-- a count of children, less the root itself, that does not tell of one child
pub not_two : (u b : ℕ) (n : Next) → Stands (u - 1) b n → ((c : ℕ) → n ≡ Only c → ⊥) → u ≢ 2
not_two u b Nothing s f e = omega (arith, s, e)
not_two u b (Only c) s f e = f c refl
not_two u b Several s f e = omega (arith, s, e)
