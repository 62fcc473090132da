-- A sound tree has one entry for each non-empty beginning of a held path.
use Rattle.std.proofs.Common.{◌≡◌, ℕ, zero, suc, ◌+◌, ◌<◌, ◌≤◌, true, false, cond, eqb, ◌≢◌, ◌⊎◌, List, [], ◌∷◌, ◌++◌, length, sym, refl, ap, ◌∙◌, subst, inl, inr, ⊎_elim, append_assoc, not-suc-le-zero, add-zero, arith}
use mathlib.Core.List.{Memᴰ}
use Rattle.std.proofs.lemmas.Bool.{cases_eq, cases_Bool, eq-eqb, ne_eqb, eqb-true}
use Rattle.std.proofs.lemmas.Bool.Decides.{nat_tests}
use Rattle.tree.specs.declared.table.Entry.{Entry}
use Rattle.tree.specs.declared.table.Table.{Table}
use Rattle.tree.specs.Records.{at}
use Rattle.tree.specs.Sound.{total, kid, counts_used, par, item_of, uses_of, held_of, Sound, Up, top, step}
use Rattle.tree.specs.Prefixes.{Once, Counts, Beginning}
use Rattle.tree.proofs.Totals.{within}
use Rattle.tree.proofs.Loose.{positive, root_used}

-- ---- sums over kid-slots
abbrev pub sum_to : (ℕ → ℕ) → ℕ → ℕ
sum_to g zero = 0
sum_to g (suc n) = g n + sum_to g n

sum_to_ext : (g h : ℕ → ℕ) → ((i : ℕ) → g i ≡ h i) → (n : ℕ) → sum_to g n ≡ sum_to h n
sum_to_ext g h e zero = refl
sum_to_ext g h e (suc n) = let a = e n in let r = sum_to_ext g h e n in omega (arith, a, r)

sum_to_first : (g : ℕ → ℕ) (n : ℕ) → sum_to g (suc n) ≡ g 0 + sum_to (λ i. g (suc i)) n
sum_to_first g zero = refl
sum_to_first g (suc n) = let r = sum_to_first g n in omega (arith, r)

total_sum_to : (f : ℕ → Entry → ℕ) (k : ℕ) (es : List Entry) → total f k es ≡ sum_to (λ i. f (k + i) (at es i)) (length es)
unfolding total
total_sum_to f k [] = refl
total_sum_to f k (e ∷ es) =
    let r = total_sum_to f (suc k) es in
    let q = sum_to_ext (λ i. f (suc k + i) (at es i)) (λ i. f (k + suc i) (at es i)) (λ i. ap (λ (j : ℕ). f j (at es i)) (omega arith)) (length es) in
    let s = sum_to_first (λ i. f (k + i) (at (e ∷ es) i)) (length es) in
    let z = ap (λ (j : ℕ). f j e) (add-zero k) in
    omega (arith, r, q, s, z)

pub some_kid : (j k : ℕ) (es : List Entry) → 0 < total (kid j) k es → (c : ℕ) × ((at es c).parent ≡ j)
unfolding total
some_kid j k [] h = absurd (not-suc-le-zero h)
some_kid j k (e ∷ es) h =
    ⊎_elim (λ (b : eqb e.parent j ≡ true). (0, eqb-true e.parent j b))
    (λ (b : eqb e.parent j ≡ false). let h2 = rw b at h in let r = some_kid j (suc k) es (omega (arith, h2)) in (suc r.0, r.1))
    (cases_Bool (eqb e.parent j))

-- ---- lists
abbrev pub tail : List ℕ → List ℕ
tail [] = []
tail (x ∷ xs) = xs

abbrev pub head : List ℕ → ℕ
head [] = 0
head (x ∷ xs) = x

abbrev full : List ℕ → ℕ
full [] = 0
full (x ∷ xs) = 1

mem_nil : {A : Type 0} {x : A} → Memᴰ x [] → ⊥
mem_nil m = elim m [ ]

mem_cons : {A : Type 0} {x y : A} {ys : List A} → Memᴰ x (y ∷ ys) → (x ≡ y) ⊎ Memᴰ x ys
mem_cons (Memᴰ.head e) = inl e
mem_cons (Memᴰ.tail m) = inr m

module _ (t : Table) (S : Sound 0 t) where
  pub up_used : {i : ℕ} {xs : List ℕ} → Up t i xs → 0 < par t i
  up_used top = root_used 0 t S
  up_used (step i xs u n w) = u

  -- an entry is known by its path
  pub up_injective : {i : ℕ} {xs : List ℕ} → Up t i xs → {j : ℕ} {ys : List ℕ} → Up t j ys → xs ≡ ys → i ≡ j
  up_injective top top e = refl
  up_injective top (step j ys u n w) e = absurd (omega (arith, ap full e))
  up_injective (step i xs u n w) top e = absurd (omega (arith, ap full e))
  up_injective (step i xs u n w) (step j ys v m z) e = S.shape.apart i j u n m (up_injective w z (ap tail e)) (ap head e)

  pub strip : (ys xs : List ℕ) {i : ℕ} {zs : List ℕ} → Up t i zs → zs ≡ ys ++ xs → (j : ℕ) × Up t j xs
  strip [] xs {i = i} w e = (i, subst (Up t i) e w)
  strip (y ∷ ys) xs top e = absurd (omega (arith, ap full e))
  strip (y ∷ ys) xs (step i zs u n w) e = strip ys xs w (ap tail e)

  -- and a path by its entry
  pub up_same : {i : ℕ} {xs : List ℕ} → Up t i xs → {ys : List ℕ} → Up t i ys → xs ≡ ys
  up_same w z = up_same_at w z refl
    where
      up_same_at : {i : ℕ} {xs : List ℕ} → Up t i xs → {j : ℕ} {ys : List ℕ} → Up t j ys → i ≡ j → xs ≡ ys
      up_same_at top top e = refl
      up_same_at top (step j ys u n w) e = absurd (n (sym e))
      up_same_at (step i xs u n w) top e = absurd (n e)
      up_same_at (step i xs u n w) (step j ys v m z) e =
          ap (λ (l : ℕ). item_of t l ∷ xs) e ∙ ap (λ zs. item_of t j ∷ zs) (up_same_at w z (ap (par t) e))

  -- the path of an entry, by climbing at most n entries
  abbrev pub climb : ℕ → ℕ → List ℕ
  climb zero i = []
  climb (suc n) i = cond (eqb i t.root) [] (item_of t i ∷ climb n (par t i))

  climb_up : (n i : ℕ) → 0 < par t i → S.shape.age i < n → Up t i (climb n i)
  climb_up zero i u h = absurd (not-suc-le-zero h)
  climb_up (suc n) i u h =
      ⊎_elim (λ (e : i ≡ t.root). rw (eq-eqb i t.root e) (subst (λ (j : ℕ). Up t j []) (sym e) top))
      (λ (o : i ≢ t.root). let f = S.shape.falls i u o in rw (ne_eqb i t.root o) (step i _ u o (climb_up n (par t i) (S.shape.parents i u) (omega (arith, f, h)))))
      (cases_eq i t.root)

  abbrev pub path : ℕ → List ℕ
  path i = climb (suc S.shape.top) i

  pub path_up : (i : ℕ) → 0 < par t i → Up t i (path i)
  path_up i u = let y = S.shape.young i in climb_up (suc S.shape.top) i u (omega (arith, y))

  -- the entries but the root
  abbrev inner : ℕ → ℕ
  inner i = cond (eqb i t.root) 0 (counts_used i (at t.entries i))

  inner_yes : (i : ℕ) → inner i ≡ 1 → (0 < par t i) × (i ≢ t.root)
  inner_yes i e = (
    ⊎_elim (λ (z : par t i ≡ 0). let b = eq-eqb (par t i) 0 z in let e2 = rw b at e in absurd (grind (arith, nat_tests))) (λ n. omega (arith, n)) (cases_eq (par t i) 0),
    λ z. let b = eq-eqb i t.root z in let e2 = rw b at e in omega (arith, e2),
  )

  inner_is : (i : ℕ) → 0 < par t i → i ≢ t.root → inner i ≡ 1
  inner_is i u n = rw (ne_eqb i t.root n, ne_eqb (par t i) 0 (λ z. omega arith))

  inner_no : (i : ℕ) → inner i ≢ 1 → inner i ≡ 0
  inner_no i n = grind (arith, nat_tests)

  abbrev paths : ℕ → List (List ℕ)
  paths zero = []
  paths (suc k) = cond (eqb (inner k) 1) (path k ∷ paths k) (paths k)

  paths_length : (k : ℕ) → length (paths k) ≡ sum_to inner k
  paths_length zero = refl
  paths_length (suc k) =
      let r = paths_length k in
      ⊎_elim (λ (e : inner k ≡ 1). rw (eq-eqb (inner k) 1 e) (omega (arith, r, e)))
      (λ (n : inner k ≢ 1). let z = inner_no k n in rw (ne_eqb (inner k) 1 n) (omega (arith, r, z))) (cases_eq (inner k) 1)

  paths_those : (k : ℕ) (xs : List ℕ) → Memᴰ xs (paths k) → (i : ℕ) × (i < k) × (inner i ≡ 1) × (xs ≡ path i)
  paths_those zero xs m = absurd (mem_nil m)
  paths_those (suc k) xs m =
      ⊎_elim (λ (e : inner k ≡ 1).
      let m2 = rw (eq-eqb (inner k) 1 e) at m in
      ⊎_elim (λ (q : xs ≡ path k). (k, omega arith, e, q)) (λ m3. let r = paths_those k xs m3 in (r.0, omega (arith, r.1), r.2, r.3)) (mem_cons m2))
      (λ (n : inner k ≢ 1). let m2 = rw (ne_eqb (inner k) 1 n) at m in let r = paths_those k xs m2 in (r.0, omega (arith, r.1), r.2, r.3))
      (cases_eq (inner k) 1)

  paths_all : (k i : ℕ) → i < k → inner i ≡ 1 → Memᴰ (path i) (paths k)
  paths_all zero i h e = absurd (not-suc-le-zero h)
  paths_all (suc k) i h e =
      ⊎_elim (λ (q : i ≡ k). rw (eq-eqb (inner k) 1 (ap inner (sym q) ∙ e)) (Memᴰ.head (ap path q)))
      (λ (n : i ≢ k).
      let r = paths_all k i (omega arith) e in
      ⊎_elim (λ (y : inner k ≡ 1). rw (eq-eqb (inner k) 1 y) (Memᴰ.tail r)) (λ (y : inner k ≢ 1). rw (ne_eqb (inner k) 1 y) r) (cases_eq (inner k) 1))
      (cases_eq i k)

  paths_once : (k : ℕ) → Once (paths k)
  paths_once zero = tt
  paths_once (suc k) =
      ⊎_elim (λ (e : inner k ≡ 1). rw (eq-eqb (inner k) 1 e) (other e, paths_once k)) (λ (n : inner k ≢ 1). rw (ne_eqb (inner k) 1 n) (paths_once k)) (cases_eq (inner k) 1)
    where
      other : inner k ≡ 1 → Memᴰ (path k) (paths k) → ⊥
      other e m =
          let r = paths_those k (path k) m in
          let q = up_injective (path_up k (inner_yes k e).0) (path_up r.0 (inner_yes r.0 r.2).0) r.3 in
          omega (arith, q, r.1)

  -- below every entry there is a held one
  pub descend : (n i : ℕ) (xs : List ℕ) → S.shape.top < S.shape.age i + n → Up t i xs → i ≢ t.root → (h : ℕ) × (ys : List ℕ) × (held_of t h ≡ true) × Up t h (ys ++ xs)
  descend zero i xs h w n = let y = S.shape.young i in absurd (omega (arith, y))
  descend (suc m) i xs h w n =
      let u = up_used w in
      let i0 = positive 0 t S i u in
      ⊎_elim (λ (k : 0 < uses_of t i).
      let q = S.shape.uses i i0 in
      let ch = some_kid i 0 t.entries (omega (arith, k, q)) in
      let c = ch.0 in
      let cu : 0 < par t c = rw ch.1 i0 in
      let cn : c ≢ t.root = λ z. n (sym ch.1 ∙ ap (par t) z ∙ S.shape.root_up) in
      let f = S.shape.falls c cu cn in
      let f2 = rw ch.1 at f in
      let v : Up t c (item_of t c ∷ xs) = step c xs cu cn (rw ch.1 w) in
      let r = descend m c (item_of t c ∷ xs) (omega (arith, f2, h)) v cn in
      (r.0, r.1 ++ (item_of t c ∷ []), r.2, rw append_assoc r.3))
      (λ (e : held_of t i ≡ true). (i, [], e, w))
      (S.shape.kept i u (λ z. omega (arith, z, i0)))

  abbrev is_root : ℕ → ℕ
  is_root i = cond (eqb i t.root) 1 0

  roots_none : (n : ℕ) → n ≤ t.root → sum_to is_root n ≡ 0
  roots_none zero h = refl
  roots_none (suc n) h = let r = roots_none n (omega arith) in rw (ne_eqb n t.root (λ e. omega arith)) (omega (arith, r))

  roots_one : (n : ℕ) → t.root < n → sum_to is_root n ≡ 1
  roots_one zero h = absurd (not-suc-le-zero h)
  roots_one (suc n) h =
      ⊎_elim (λ (e : n ≡ t.root). let r = roots_none n (omega arith) in rw (eq-eqb n t.root e) (omega (arith, r)))
      (λ (o : n ≢ t.root). let r = roots_one n (omega arith) in rw (ne_eqb n t.root o) (omega (arith, r))) (cases_eq n t.root)

  split : (i : ℕ) → inner i + is_root i ≡ counts_used i (at t.entries i)
  split i =
      ⊎_elim (λ (e : i ≡ t.root).
      let u = root_used 0 t S in
      let v = ap (par t) e in
      let p = ne_eqb (par t i) 0 (λ z. omega (arith, u, v)) in
      rw (eq-eqb i t.root e, p) refl)
      (λ (n : i ≢ t.root). rw (ne_eqb i t.root n) (omega arith)) (cases_eq i t.root)

  split_sum : (n : ℕ) → sum_to inner n + sum_to is_root n ≡ sum_to (λ i. counts_used i (at t.entries i)) n
  split_sum zero = refl
  split_sum (suc n) = let r = split_sum n in let e = split n in omega (arith, r, e)

  used_sum : total counts_used 0 t.entries ≡ sum_to inner (length t.entries) + 1
  used_sum =
      let a = total_sum_to counts_used 0 t.entries in
      let x = sum_to_ext (λ i. counts_used (0 + i) (at t.entries i)) (λ i. counts_used i (at t.entries i)) (λ i. refl) (length t.entries) in
      let b = split_sum (length t.entries) in
      let c = roots_one (length t.entries) (within t.entries t.root (root_used 0 t S)) in
      omega (arith, a, x, b, c)

  pub root_empty : {i : ℕ} {xs : List ℕ} → Up t i xs → i ≡ t.root → xs ≡ []
  root_empty top e = refl
  root_empty (step i xs u n w) e = absurd (n e)

  inner_some : {i : ℕ} {xs : List ℕ} → Up t i xs → i ≢ t.root → xs ≢ []
  inner_some top n e = n refl
  inner_some (step i xs u n w) m e = omega (arith, ap full e)

  pub counted : (n : ℕ) → n + 1 ≡ total counts_used 0 t.entries → Counts (Beginning t) n
  counted n e = record {
    each = paths (length t.entries);
    once = paths_once (length t.entries);
    those = those;
    all = all;
    many = let a = paths_length (length t.entries) in let b = used_sum in omega (arith, a, b, e);
  }
    where
      those : (xs : List ℕ) → Memᴰ xs (paths (length t.entries)) → Beginning t xs
      those xs m =
          let r = paths_those (length t.entries) xs m in
          let i = r.0 in
          let y = inner_yes i r.2 in
          let w : Up t i xs = subst (Up t i) (sym r.3) (path_up i y.0) in
          let d = descend (suc S.shape.top) i xs (omega arith) w y.1 in
          record { some = inner_some w y.1; entry = d.0; rest = d.1; held = d.2; path = d.3 }

      all : (xs : List ℕ) → Beginning t xs → Memᴰ xs (paths (length t.entries))
      all xs b =
          let r = strip b.rest xs b.path refl in
          let i = r.0 in
          let u = up_used r.1 in
          let n : i ≢ t.root = λ z. b.some (root_empty r.1 z) in
          let m = paths_all (length t.entries) i (within t.entries i u) (inner_is i u n) in
          subst (λ ys. Memᴰ ys (paths (length t.entries))) (up_same (path_up i u) r.1) m
