-- What the use count and the sum of the children's slots tell of an entry's children.
use Rattle.std.proofs.Common.{◌≡◌, ℕ, ◌+◌, ◌-◌, ◌<◌, ◌≤◌, cond, eqb, ◌≢◌, List, length, set, sym, ap, ◌∙◌, subst, ⊎_elim, arith, length-set, get_or-set_other, get_or-set_same}
use Rattle.std.proofs.lemmas.Bool.{cases_lt, eq-eqb, ne_eqb}
use Rattle.std.proofs.lemmas.Bool.Decides.{nat_tests}
use Rattle.tree.specs.declared.table.Entry.{Entry}
use Rattle.tree.specs.declared.table.Table.{Table}
use Rattle.tree.specs.declared.table.Next.{Next}
use Rattle.tree.specs.declared.table.Next.TheVariants.{Nothing, Only, Several}
use Rattle.tree.specs.Limits.{ways}
use Rattle.tree.specs.Records.{at, blank}
use Rattle.tree.specs.Sound.{total, kid, kid_slot, par, uses_of, below_of, Sound}
use Rattle.tree.specs.Next.{Stands, Child, Leads}
use Rattle.tree.proofs.Totals.{total_set, within, no_kid, lone}
use Rattle.tree.proofs.Loose.{positive, root_used}
use Rattle.tree.proofs.Counting.{some_kid}

-- two different entries with the parent j
two_kids : (j : ℕ) (es : List Entry) → 0 < j → 2 ≤ total (kid j) 0 es → (c : ℕ) × ((d : ℕ) × (((at es c).parent ≡ j) × ((at es d).parent ≡ j) × (c ≢ d)))
two_kids j es p h =
    let f = some_kid j 0 es (omega arith) in
    let c = f.0 in
    let c_in = within es c (rw f.1 p) in
    let e = total_set (kid j) 0 es c blank c_in in
    let a = eq-eqb (at es c).parent j f.1 in
    let b = ne_eqb 0 j (λ z. omega arith) in
    let e2 = simp (a, b) at e in
    let g = some_kid j 0 (set es c blank) (omega (arith, e2)) in
    let d = g.0 in
    let n : c ≢ d = λ z.
    let w = ap (λ (e : Entry). e.parent) (get_or-set_same es c blank blank c_in) in
    let v = ap (λ (i : ℕ). (at (set es c blank) i).parent) z in
    omega (arith, w, v, g.1, p) in
    (c, (d, (f.1, sym (ap (λ (e : Entry). e.parent) (get_or-set_other es c d blank blank (λ z. n (sym z)))) ∙ g.1, n)))

gone_root : (K K' r w : ℕ) → K' + cond (eqb r r) w 0 ≡ K + cond (eqb 0 r) w 0 → 0 < r → K' + w ≡ K
gone_root K K' r w e h = grind (arith, nat_tests)

kept_all : (K K' r p w : ℕ) → K' + cond (eqb r p) w 0 ≡ K + cond (eqb 0 p) w 0 → 0 < p → p ≢ r → K' ≡ K
kept_all K K' r p w e h n = grind (arith, nat_tests)

module _ (t : Table) (S : Sound 0 t) (p : ℕ) (used : 0 < par t p) where
  abbrev r : ℕ
  r = t.root

  p0 : 0 < p
  p0 = positive 0 t S p used

  r_in : r < length t.entries
  r_in = within t.entries r (root_used 0 t S)

  -- the table without the root, which counts itself among its children
  abbrev rest : List Entry
  rest = set t.entries r blank

  rest_other : (i : ℕ) → i ≢ r → (at rest i).parent ≡ par t i
  rest_other i n = ap (λ (e : Entry). e.parent) (get_or-set_other t.entries r i blank blank n)

  rest_root : (at rest r).parent ≡ 0
  rest_root = ap (λ (e : Entry). e.parent) (get_or-set_same t.entries r blank blank r_in)

  as_child : (i : ℕ) → (at rest i).parent ≡ p → Child t p i
  as_child i e =
      let n : i ≢ r = λ z. let w = ap (λ (k : ℕ). (at rest k).parent) z in omega (arith, w, rest_root, e, p0) in
      (n, sym (rest_other i n) ∙ e)

  in_rest : (i : ℕ) → Child t p i → (at rest i).parent ≡ p
  in_rest i k = rest_other i k.0 ∙ k.1

  inside : (i : ℕ) → Child t p i → i < length rest
  inside i k = rw length-set (within t.entries i (rw k.1 p0))

  sums : (f : ℕ → Entry → ℕ) → total f 0 rest + f r (at t.entries r) ≡ total f 0 t.entries + f r blank
  sums f = let e = total_set f 0 t.entries r blank r_in in let z : 0 + r ≡ r = omega arith in rw z at e

  leads : (u b : ℕ) → total (kid p) 0 rest ≡ u → total (kid_slot p) 0 rest ≡ b → (n : Next) → Stands u b n → Leads t p n
  leads u b ku kb Nothing s = λ i k. no_kid p 0 rest (ku ∙ s) i (inside i k) (in_rest i k)
  leads u b ku kb (Only c) s =
      let l = lone p 0 rest (ku ∙ s.0) in
      let e : l.slot ≡ c = let q = l.sum in let w = s.1 in omega (arith, q, w, kb) in
      (subst (Child t p) e (as_child l.slot l.child), λ i k. l.only i (inside i k) (in_rest i k) ∙ e)
  leads u b ku kb Several s =
      let d = two_kids p rest p0 (omega (arith, ku, s)) in
      record { one = d.0; other = d.1.0; differ = d.1.1.2; first = as_child d.0 d.1.1.0; second = as_child d.1.0 d.1.1.1 }

  inner_uses : p ≢ r → total (kid p) 0 rest ≡ uses_of t p
  inner_uses o = let e = sums (kid p) in let u = S.shape.root_up in let e2 = rw u at e in kept_all _ _ _ _ _ e2 p0 o ∙ sym (S.shape.uses p p0)

  -- below an entry that is not the root
  pub leads_inner : p ≢ r → (n : Next) → Stands (uses_of t p) (below_of t p) n → Leads t p n
  leads_inner o = leads (uses_of t p) (below_of t p) (inner_uses o)
      (let e = sums (kid_slot p) in let u = S.shape.root_up in let e2 = rw u at e in kept_all _ _ _ _ _ e2 p0 o ∙ sym (S.shape.below p p0))

  rest_uses : p ≡ r → total (kid p) 0 rest + 1 ≡ uses_of t p
  rest_uses o =
      let e = sums (kid p) in
      let u = S.shape.root_up in
      let e2 = rw (u, o) at e in
      let k = gone_root _ _ _ _ e2 S.shape.root_in in
      let v = S.shape.uses p p0 in
      let w = ap (λ (i : ℕ). total (kid i) 0 rest) o in
      let x = ap (λ (i : ℕ). total (kid i) 0 t.entries) o in
      omega (arith, k, v, w, x)

  rest_below : p ≡ r → total (kid_slot p) 0 rest + p ≡ below_of t p
  rest_below o =
      let e = sums (kid_slot p) in
      let u = S.shape.root_up in
      let e2 = rw (u, o) at e in
      let k = gone_root _ _ _ _ e2 S.shape.root_in in
      let v = S.shape.below p p0 in
      let w = ap (λ (i : ℕ). total (kid_slot i) 0 rest) o in
      let x = ap (λ (i : ℕ). total (kid_slot i) 0 t.entries) o in
      omega (arith, k, v, w, x, o)

  pub root_uses : p ≡ r → 0 < uses_of t p
  root_uses o = let e = rest_uses o in omega (arith, e)

  pub root_below : p ≡ r → p ≤ below_of t p
  root_below o = let e = rest_below o in omega (arith, e)

  -- below the root
  pub leads_root : p ≡ r → (n : Next) → Stands (uses_of t p - 1) (below_of t p - p) n → Leads t p n
  leads_root o = leads (uses_of t p - 1) (below_of t p - p) (let e = rest_uses o in omega (arith, e)) (let e = rest_below o in omega (arith, e))

  -- where two children are the same one, there is room for another
  few_rest : ((i j : ℕ) → Child t p i → Child t p j → i ≡ j) → total (kid p) 0 rest < ways
  few_rest single =
      ⊎_elim (λ (h : total (kid p) 0 rest < ways). h)
      (λ (h : ways ≤ total (kid p) 0 rest). let d = two_kids p rest p0 h in absurd (d.1.1.2 (single d.0 d.1.0 (as_child d.0 d.1.1.0) (as_child d.1.0 d.1.1.1))))
      (cases_lt (total (kid p) 0 rest) ways)

  pub few_inner : ((i j : ℕ) → Child t p i → Child t p j → i ≡ j) → p ≢ r → uses_of t p < ways
  few_inner single o = let f = few_rest single in let e = inner_uses o in omega (arith, f, e)

  pub few_root : ((i j : ℕ) → Child t p i → Child t p j → i ≡ j) → p ≡ r → uses_of t p ≤ ways
  few_root single o = let f = few_rest single in let e = rest_uses o in omega (arith, f, e)
