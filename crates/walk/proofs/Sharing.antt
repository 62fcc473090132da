-- The longest common beginning of the codes of a list of walks.
use Rattle.std.proofs.Common.{◌≡◌, ℕ, Bool, true, false, eqb, List, [], ◌∷◌, ◌++◌, sym, refl, ap, ◌∙◌, inl, inr, append_assoc, append-nil, arith, eqb→eq}
use lib.Dec.{eqb_refl}
use Rattle.walk.specs.Codes.{Code, Begins, common, common_cons}
use Rattle.walk.specs.Search.{Reached, In, shared_with, shared}
use Rattle.walk.proofs.Order.{T_true}

pub begins_refl : (c : Code) → Begins c c
begins_refl c = ([], sym (append-nil c))

pub begins_trans : (c s t : Code) → Begins c s → Begins s t → Begins c t
begins_trans c s t x y = (y.0 ++ x.0, rw (x.1, y.1) (append_assoc t y.0 x.0))

pub begins_nil : (c : Code) → Begins c []
begins_nil c = (c, refl)

pub begins_cons : (x : ℕ) (c s : Code) → Begins c s → Begins (x ∷ c) (x ∷ s)
begins_cons x c s h = (h.0, ap {B = Code} (λ y. x ∷ y) h.1)

pub begins_tail : (x y : ℕ) (c s : Code) → Begins (x ∷ c) (y ∷ s) → (x ≡ y) × Begins c s
begins_tail x y c s h = let e = h.1 in (cc, (h.0, cc))

pub not_begins : (x : ℕ) (s : Code) → Begins [] (x ∷ s) → ⊥
not_begins x s h = let e = h.1 in let z : ◌≡◌ {A = ℕ} 0 1 = cc in omega arith

pub common_left : (c d : Code) → Begins c (common c d)
common_left [] d = begins_nil []
common_left (x ∷ c) [] = begins_nil (x ∷ c)
common_left (x ∷ c) (y ∷ d) = go (eqb x y) (common_left c d)
  where
    go : (b : Bool) → Begins c (common c d) → Begins (x ∷ c) (common_cons b x (common c d))
    go true h = begins_cons x c (common c d) h
    go false h = begins_nil (x ∷ c)

pub common_right : (c d : Code) → Begins d (common c d)
common_right [] d = begins_nil d
common_right (x ∷ c) [] = begins_nil []
common_right (x ∷ c) (y ∷ d) = go (eqb x y) refl (common_right c d)
  where
    go : (b : Bool) → eqb x y ≡ b → Begins d (common c d) → Begins (y ∷ d) (common_cons b x (common c d))
    go true e h = rw (eqb→eq x y (rw e tt)) (begins_cons y d (common c d) h)
    go false e h = begins_nil (y ∷ d)

pub eqb-true : (x y : ℕ) → x ≡ y → eqb x y ≡ true
eqb-true x y e = rw e (T_true (eqb y y) (eqb_refl y))

pub common_longest : (c d t : Code) → Begins c t → Begins d t → Begins (common c d) t
common_longest c d [] x y = begins_nil (common c d)
common_longest [] d (i ∷ t) x y = absurd (not_begins i t x)
common_longest (j ∷ c) [] (i ∷ t) x y = absurd (not_begins i t y)
common_longest (j ∷ c) (k ∷ d) (i ∷ t) x y =
    let u = begins_tail j i c t x in
    let v = begins_tail k i d t y in
    rw (eqb-true j k (u.0 ∙ sym v.0)) (rw u.0 (begins_cons i (common c d) t (common_longest c d t u.1 v.1)))

pub shared_first : (c : Code) (rs : List Reached) → Begins c (shared_with c rs)
shared_first c [] = begins_refl c
shared_first c (r ∷ rs) = begins_trans c (common c r.code) (shared_with (common c r.code) rs) (common_left c r.code) (shared_first (common c r.code) rs)

pub shared_each : (c : Code) (rs : List Reached) (q : ℕ) (d : Code) → In q d rs → Begins d (shared_with c rs)
shared_each c [] q d i = absurd i
shared_each c (r ∷ rs) q d (inl e) =
    rw e.1 (begins_trans r.code (common c r.code) (shared_with (common c r.code) rs) (common_right c r.code) (shared_first (common c r.code) rs))
shared_each c (r ∷ rs) q d (inr i) = shared_each (common c r.code) rs q d i

pub shared_longest : (c : Code) (rs : List Reached) (t : Code) → Begins c t → ((q : ℕ) (d : Code) → In q d rs → Begins d t) → Begins (shared_with c rs) t
shared_longest c [] t x f = x
shared_longest c (r ∷ rs) t x f =
    shared_longest (common c r.code) rs t (common_longest c r.code t x (f r.point r.code (inl (refl, refl)))) (λ q d i. f q d (inr i))

pub shared_all : (rs : List Reached) (q : ℕ) (d : Code) → In q d rs → Begins d (shared rs)
shared_all [] q d i = absurd i
shared_all (r ∷ rs) q d (inl e) = rw e.1 (shared_first r.code rs)
shared_all (r ∷ rs) q d (inr i) = shared_each r.code rs q d i

pub shared_most : (rs : List Reached) (t : Code) (p : ℕ) (c : Code) → In p c rs → ((q : ℕ) (d : Code) → In q d rs → Begins d t) → Begins (shared rs) t
shared_most [] t p c i f = absurd i
shared_most (r ∷ rs) t p c i f = shared_longest r.code rs t (f r.point r.code (inl (refl, refl))) (λ q d j. f q d (inr j))

-- two codes that begin with one another are the same
pub begins_both : (s t : Code) → Begins t s → Begins s t → s ≡ t
begins_both [] [] a b = refl
begins_both [] (y ∷ t) a b = absurd (not_begins y t b)
begins_both (x ∷ s) [] a b = absurd (not_begins x s a)
begins_both (x ∷ s) (y ∷ t) a b =
    let h = begins_tail y x t s a in
    let e : y ≡ x = h.0 in
    let f : s ≡ t = begins_both s t h.1 (begins_tail x y s t b).1 in
    cc
