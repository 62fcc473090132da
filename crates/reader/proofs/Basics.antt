-- Marks, lists, and walks whose codes the tree holds.
use Rattle.std.proofs.Common.{◌≡◌, ℕ, zero, suc, ◌+◌, ◌<◌, ◌≤◌, Bool, true, false, cond, eqb, ◌⊎◌, ◌↔◌, List, [], ◌∷◌, ◌++◌, length, get_or, set, replicate, sym, refl, ap, ◌∙◌, subst, inl, inr, append_assoc, le_of_suc-le-suc, not-suc-le-zero, arith, eqb→eq, length-append, get_or-set_other, get_or-set_same}
use mathlib.Core.Path.{fun_ext}
use Rattle.std.specs.Prelude.{◌==◌, Some, find, is_some}
use Rattle.std.proofs.lemmas.Bool.{cases_eq, eq-eqb, ne_eqb}
use lib.Dec.{eqb_refl}
use Rattle.point_set.specs.declared.set.PointSet.{PointSet}
use Rattle.point_set.specs.Members.{members, point_count}
use Rattle.point_set.proofs.Digits.{length_flags}
use Rattle.walk.specs.Graphs.{Points, add, none}
use Rattle.walk.specs.Codes.{Code}
use Rattle.walk.specs.Search.{Reached, In, after}
use Rattle.walk.proofs.Order.{T_true, never_both}
use Rattle.tree.specs.declared.paths.PathTree.{PathTree}
use Rattle.tree.specs.Held.{Held}
use Rattle.reader.specs.declared.state.Walk.{Walk}
use Rattle.reader.specs.Marks.{marked, unset, unmarked}
use Rattle.reader.specs.Spread.{Under, On}

-- marks

pub all_points : (m : PointSet) → length (members m) ≡ point_count
all_points m = let l = length_flags m.words in let w = m.whole in omega (arith, l, w)

unset_set : (bs : List Bool) (p : ℕ) → p < length bs → get_or bs p false ≡ false → unset (set bs p true) + 1 ≡ unset bs
unfolding unset
unset_set [] p h e = absurd (not-suc-le-zero h)
unset_set (b ∷ bs) zero h e = rw e (omega arith)
unset_set (b ∷ bs) (suc p) h e = let r = unset_set bs p (le_of_suc-le-suc h) e in omega (arith, r)

unset_bound : (bs : List Bool) → unset bs ≤ length bs
unfolding unset
unset_bound [] = omega arith
unset_bound (b ∷ bs) = let r = unset_bound bs in elim b as (λ c. cond c 0 1 + unset bs ≤ suc (length bs)) [ true ↦ omega arith | false ↦ omega arith ]

pub unmarked_bound : (m : PointSet) → unmarked m ≤ point_count
unmarked_bound m = let a = unset_bound (members m) in let b = all_points m in omega (arith, a, b)

abbrev flag_set : List Bool → Points
flag_set bs k = get_or bs k false

set_add : (ms : List Bool) (p : ℕ) → p < length ms → flag_set (set ms p true) ≡ add p (flag_set ms)
unfolding add
set_add ms p h = fun_ext (λ k. go k (eqb k p) refl)
  where
    go : (k : ℕ) (b : Bool) → eqb k p ≡ b → get_or (set ms p true) k false ≡ elim b [ true ↦ true | false ↦ get_or ms k false ]
    go k true e = ap (λ i. get_or (set ms p true) i false) (eqb→eq k p (rw e tt)) ∙ get_or-set_same ms p true false h
    go k false e = get_or-set_other ms p k true false (λ f. never_both (ap (λ i. eqb i p) f ∙ T_true (eqb p p) (eqb_refl p)) e)

-- a point more is marked
pub unmarked_less : (m m' : PointSet) (p : ℕ) → p < point_count → get_or (members m) p false ≡ false → members m' ≡ set (members m) p true → unmarked m' + 1 ≡ unmarked m
unmarked_less m m' p h e f =
    let l = all_points m in
    ap (λ (bs : List Bool). unset bs + 1) f ∙ unset_set (members m) p (omega (arith, l, h)) e

pub marks_more : (m m' : PointSet) (p : ℕ) → p < point_count → members m' ≡ set (members m) p true → marked m' ≡ add p (marked m)
marks_more m m' p h f =
    let l = all_points m in
    ap flag_set f ∙ set_add (members m) p (omega (arith, l, h))

-- none is
all_false : (n k : ℕ) → get_or (replicate n false) k false ≡ false
all_false zero k = refl
all_false (suc n) zero = refl
all_false (suc n) (suc k) = all_false n k

pub no_marks : (m : PointSet) → members m ≡ replicate point_count false → marked m ≡ none
no_marks m e = ap flag_set e ∙ fun_ext (λ k. all_false point_count k)

-- lists

abbrev head_or : List ℕ → ℕ
head_or [] = 0
head_or (x ∷ xs) = x

abbrev list_tail : List ℕ → List ℕ
list_tail [] = []
list_tail (x ∷ xs) = xs

pub next_same : (xs : Code) (a b : ℕ) (ys zs : Code) → xs ++ (a ∷ ys) ≡ xs ++ (b ∷ zs) → a ≡ b
next_same [] a b ys zs e = ap head_or e
next_same (x ∷ xs) a b ys zs e = next_same xs a b ys zs (ap list_tail e)

pub longer : (xs : Code) (a : ℕ) (ys : Code) → xs ≡ xs ++ (a ∷ ys) → ⊥
longer xs a ys e = let l = ap length e in let k = length-append xs (a ∷ ys) in omega (arith, l, k)

-- walks whose codes are held

pub under_moves : (t t' : PathTree) (x : Code) (ws : List Walk) (rs : List Reached) →
    ((k q : ℕ) (c : Code) → In q c rs → Held t k (x ++ c) → Held t' k (x ++ c)) → Under t x ws rs → Under t' x ws rs
under_moves t t' x [] [] f u = u
under_moves t t' x [] (r ∷ rs) f u = u
under_moves t t' x (w ∷ ws) [] f u = u
under_moves t t' x (w ∷ ws) (r ∷ rs) f u =
    (u.0, f w.slot r.point r.code (inl (refl, refl)) u.1, under_moves t t' x ws rs (λ k q c i h. f k q c (inr i) h) u.2)

pub under_append : (t : PathTree) (x : Code) (vs ws : List Walk) (rs ss : List Reached) → Under t x vs rs → Under t x ws ss → Under t x (vs ++ ws) (rs ++ ss)
under_append t x [] ws [] ss u v = v
under_append t x [] ws (r ∷ rs) ss u v = absurd u
under_append t x (w ∷ vs) ws [] ss u v = absurd u
under_append t x (w ∷ vs) ws (r ∷ rs) ss u v = (u.0, u.1, under_append t x vs ws rs ss u.2 v)

-- the codes may take over a part of x
pub under_after : (t : PathTree) (x y : Code) (ws : List Walk) (rs : List Reached) → Under t (x ++ y) ws rs → Under t x ws (after y rs)
under_after t x y [] [] u = u
under_after t x y [] (r ∷ rs) u = u
under_after t x y (w ∷ ws) [] u = u
under_after t x y (w ∷ ws) (r ∷ rs) u = (u.0, subst (Held t w.slot) (append_assoc x y r.code) u.1, under_after t x y ws rs u.2)

pub under_before : (t : PathTree) (x y : Code) (ws : List Walk) (rs : List Reached) → Under t x ws (after y rs) → Under t (x ++ y) ws rs
under_before t x y [] [] u = u
under_before t x y [] (r ∷ rs) u = u
under_before t x y (w ∷ ws) [] u = u
under_before t x y (w ∷ ws) (r ∷ rs) u = (u.0, subst (Held t w.slot) (sym (append_assoc x y r.code)) u.1, under_before t x y ws rs u.2)

pub under_length : (t : PathTree) (x : Code) (ws : List Walk) (rs : List Reached) → Under t x ws rs → length ws ≡ length rs
under_length t x [] [] u = refl
under_length t x [] (r ∷ rs) u = absurd u
under_length t x (w ∷ ws) [] u = absurd u
under_length t x (w ∷ ws) (r ∷ rs) u = ap suc (under_length t x ws rs u.2)

-- each of the theory's walks has a slot
pub under_slot : (t : PathTree) (x : Code) (ws : List Walk) (rs : List Reached) → Under t x ws rs → (q : ℕ) (c : Code) → In q c rs → (k : ℕ) × Held t k (x ++ c)
under_slot t x [] [] u q c i = absurd i
under_slot t x [] (r ∷ rs) u q c i = absurd u
under_slot t x (w ∷ ws) [] u q c i = absurd i
under_slot t x (w ∷ ws) (r ∷ rs) u q c (inl e) = (w.slot, subst (λ (d : Code). Held t w.slot (x ++ d)) (sym e.1) u.1)
under_slot t x (w ∷ ws) (r ∷ rs) u q c (inr i) = under_slot t x ws rs u.2 q c i

-- the points on which walks end
pub under_on : (t : PathTree) (ws : List Walk) (rs : List Reached) → Under t [] ws rs → (q : ℕ) → On q ws → (c : Code) × In q c rs
under_on t [] [] u q o = absurd o
under_on t [] (r ∷ rs) u q o = absurd u
under_on t (w ∷ ws) [] u q o = absurd u
under_on t (w ∷ ws) (r ∷ rs) u q (inl e) = (r.code, inl (e ∙ u.0, refl))
under_on t (w ∷ ws) (r ∷ rs) u q (inr o) = let i = under_on t ws rs u.2 q o in (i.0, inr i.1)

pub on_under : (t : PathTree) (ws : List Walk) (rs : List Reached) → Under t [] ws rs → (q : ℕ) (c : Code) → In q c rs → On q ws
on_under t [] [] u q c i = i
on_under t [] (r ∷ rs) u q c i = absurd u
on_under t (w ∷ ws) [] u q c i = absurd i
on_under t (w ∷ ws) (r ∷ rs) u q c (inl e) = inl (e.0 ∙ sym u.0)
on_under t (w ∷ ws) (r ∷ rs) u q c (inr i) = inr (on_under t ws rs u.2 q c i)

-- a walk more
pub on_split : (ws : List Walk) (w : Walk) (q : ℕ) → On q (ws ++ (w ∷ [])) ↔ ((q ≡ w.point) ⊎ On q ws)
on_split [] w q = (λ o. elim o [ inl e ↦ inl e | inr z ↦ absurd z ], λ o. elim o [ inl e ↦ inl e | inr z ↦ absurd z ])
on_split (v ∷ ws) w q =
    let r = on_split ws w q in (
      λ o. elim o [ inl e ↦ inr (inl e) | inr z ↦ elim (r.0 z) [ inl e ↦ inl e | inr y ↦ inr (inr y) ] ],
      λ o. elim o [ inl e ↦ inr (r.1 (inl e)) | inr z ↦ elim z [ inl e ↦ inl e | inr y ↦ inr (r.1 (inr y)) ] ],
    )

-- a walk to q is found exactly if there is one
pub found_on : (q : ℕ) (ws : List Walk) → is_some (find (λ w. w.point == q) ws) ≡ true → On q ws
found_on q [] e = absurd (never_both e refl)
found_on q (w ∷ ws) e =
    elim (cases_eq w.point q) [
      | inl h ↦ inl (sym h)
      | inr n ↦ inr (found_on q ws (subst (λ (b : Bool). is_some (cond b (Some w) (find (λ v. v.point == q) ws)) ≡ true) (ne_eqb w.point q n) e))
    ]

pub missed : (q : ℕ) (ws : List Walk) → is_some (find (λ w. w.point == q) ws) ≡ false → On q ws → ⊥
missed q [] e o = absurd o
missed q (w ∷ ws) e o =
    elim (cases_eq w.point q) [
      | inl h ↦ never_both refl (subst (λ (b : Bool). is_some (cond b (Some w) (find (λ v. v.point == q) ws)) ≡ false) (eq-eqb w.point q h) e)
      | inr n ↦ elim o [
        | inl k ↦ n (sym k)
        | inr y ↦ missed q ws (subst (λ (b : Bool). is_some (cond b (Some w) (find (λ v. v.point == q) ws)) ≡ false) (ne_eqb w.point q n) e) y
      ]
    ]
