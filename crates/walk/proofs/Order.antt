-- Laws of sets of points, of the order of codes, and of lists of reached points.
use Rattle.std.proofs.Common.{◌≡◌, ℕ, Bool, true, false, ◌||◌, T, eqb, ◌⊎◌, List, [], ◌∷◌, ◌++◌, sym, refl, ap, ◌∙◌, inl, inr, arith, eqb→eq}
use lib.Dec.{eqb_refl}
use Rattle.walk.specs.Graphs.{Points, add}
use Rattle.walk.specs.Codes.{Code, Earlier}
use Rattle.walk.specs.Search.{Reached, In, after, Ordered, has, PointsOnce}

-- sets of points

pub T_true : (b : Bool) → T b → b ≡ true
T_true true t = refl
T_true false t = absurd t

pub add_same : (p : ℕ) (M : Points) → add p M p ≡ true
unfolding add
add_same p M = rw (T_true (eqb p p) (eqb_refl p), add)

pub add_keeps : (p k : ℕ) (M : Points) → M k ≡ true → add p M k ≡ true
unfolding add
add_keeps p k M h = go (eqb k p)
  where
    go : (b : Bool) → elim b [ true ↦ true | false ↦ M k ] ≡ true
    go true = refl
    go false = h

pub add_cases : (p k : ℕ) (M : Points) → add p M k ≡ true → (k ≡ p) ⊎ (M k ≡ true)
unfolding add
add_cases p k M h = go (eqb k p) refl h
  where
    go : (b : Bool) → eqb k p ≡ b → elim b [ true ↦ true | false ↦ M k ] ≡ true → (k ≡ p) ⊎ (M k ≡ true)
    go true e h = inl (eqb→eq k p (rw e tt))
    go false e h = inr h

pub add_fresh : (p k : ℕ) (M : Points) → add p M k ≡ false → M k ≡ false
unfolding add
add_fresh p k M h = go (eqb k p) h
  where
    go : (b : Bool) → elim b [ true ↦ true | false ↦ M k ] ≡ false → M k ≡ false
    go true h = let z : ◌≡◌ {A = ℕ} 0 1 = cc in absurd (omega arith)
    go false h = h

pub two_ways : (b : Bool) → (b ≡ true) ⊎ (b ≡ false)
two_ways true = inl refl
two_ways false = inr refl

pub never_both : {b : Bool} → b ≡ true → b ≡ false → ⊥
never_both p q = let z : ◌≡◌ {A = ℕ} 0 1 = cc in omega arith

-- the order of codes

pub earlier_irrefl : (c : Code) → Earlier c c → ⊥
earlier_irrefl [] e = e
earlier_irrefl (x ∷ c) (inl e) = omega (arith, e.0, e.1)
earlier_irrefl (x ∷ c) (inr e) = earlier_irrefl c e.1

pub earlier_asym : (c d : Code) → Earlier c d → Earlier d c → ⊥
earlier_asym [] d e f = e
earlier_asym (x ∷ c) [] e f = e
earlier_asym (x ∷ c) (y ∷ d) (inl e) (inl f) = omega (arith, e.0, f.1)
earlier_asym (x ∷ c) (y ∷ d) (inl e) (inr f) = omega (arith, e.0, e.1, f.0)
earlier_asym (x ∷ c) (y ∷ d) (inr e) (inl f) = omega (arith, f.0, f.1, e.0)
earlier_asym (x ∷ c) (y ∷ d) (inr e) (inr f) = earlier_asym c d e.1 f.1

pub earlier_trans : (b c d : Code) → Earlier b c → Earlier c d → Earlier b d
earlier_trans [] c d e f = absurd e
earlier_trans (x ∷ b) [] d e f = absurd e
earlier_trans (x ∷ b) (y ∷ c) [] e f = absurd f
earlier_trans (x ∷ b) (y ∷ c) (z ∷ d) (inl e) (inl f) = inl (e.0, f.1)
earlier_trans (x ∷ b) (y ∷ c) (z ∷ d) (inl e) (inr f) = inl (e.0, sym f.0 ∙ e.1)
earlier_trans (x ∷ b) (y ∷ c) (z ∷ d) (inr e) (inl f) = inl (e.0 ∙ f.0, f.1)
earlier_trans (x ∷ b) (y ∷ c) (z ∷ d) (inr e) (inr f) = inr (e.0 ∙ f.0, earlier_trans b c d e.1 f.1)

-- codes that part stay parted, whatever follows
pub earlier_grows : (c d x y : Code) → Earlier c d → Earlier (c ++ x) (d ++ y)
earlier_grows [] d x y e = absurd e
earlier_grows (i ∷ c) [] x y e = absurd e
earlier_grows (i ∷ c) (j ∷ d) x y (inl e) = inl e
earlier_grows (i ∷ c) (j ∷ d) x y (inr e) = inr (e.0, earlier_grows c d x y e.1)

pub earlier_after : (x c d : Code) → Earlier c d → Earlier (x ++ c) (x ++ d)
earlier_after [] c d e = e
earlier_after (i ∷ x) c d e = inr (refl, earlier_after x c d e)

pub earlier_cancel : (x c d : Code) → Earlier (x ++ c) (x ++ d) → Earlier c d
earlier_cancel [] c d e = e
earlier_cancel (i ∷ x) c d (inl e) = absurd (omega (arith, e.0, e.1))
earlier_cancel (i ∷ x) c d (inr e) = earlier_cancel x c d e.1

-- lists of reached points

pub in_left : (q : ℕ) (c : Code) (rs ss : List Reached) → In q c rs → In q c (rs ++ ss)
in_left q c [] ss i = absurd i
in_left q c (r ∷ rs) ss (inl e) = inl e
in_left q c (r ∷ rs) ss (inr i) = inr (in_left q c rs ss i)

pub in_right : (q : ℕ) (c : Code) (rs ss : List Reached) → In q c ss → In q c (rs ++ ss)
in_right q c [] ss i = i
in_right q c (r ∷ rs) ss i = inr (in_right q c rs ss i)

pub in_either : (q : ℕ) (c : Code) (rs ss : List Reached) → In q c (rs ++ ss) → In q c rs ⊎ In q c ss
in_either q c [] ss i = inr i
in_either q c (r ∷ rs) ss (inl e) = inl (inl e)
in_either q c (r ∷ rs) ss (inr i) = elim (in_either q c rs ss i) [ inl j ↦ inl (inr j) | inr j ↦ inr j ]

pub in_after : (q : ℕ) (c x : Code) (rs : List Reached) → In q c rs → In q (x ++ c) (after x rs)
in_after q c x [] i = i
in_after q c x (r ∷ rs) (inl e) = inl (e.0, ap (λ (d : Code). x ++ d) e.1)
in_after q c x (r ∷ rs) (inr i) = inr (in_after q c x rs i)

pub in_before : (q : ℕ) (c x : Code) (rs : List Reached) → In q c (after x rs) → (d : Code) × (c ≡ x ++ d) × In q d rs
in_before q c x [] i = absurd i
in_before q c x (r ∷ rs) (inl e) = (r.code, e.1, inl (e.0, refl))
in_before q c x (r ∷ rs) (inr i) = let h = in_before q c x rs i in (h.0, h.1, inr h.2)

pub ordered_after : (x : Code) (rs : List Reached) → Ordered rs → Ordered (after x rs)
ordered_after x [] o = o
ordered_after x (r ∷ rs) o = (λ q c i. let h = in_before q c x rs i in rw h.1 (earlier_after x r.code h.0 (o.0 q h.0 h.2)), ordered_after x rs o.1)

pub ordered_append : (rs ss : List Reached) → Ordered rs → Ordered ss →
    ((q : ℕ) (c : Code) (r : ℕ) (d : Code) → In q c rs → In r d ss → Earlier c d) → Ordered (rs ++ ss)
ordered_append [] ss o p f = p
ordered_append (r ∷ rs) ss o p f = (
  λ q c i. elim (in_either q c rs ss i) [ inl j ↦ o.0 q c j | inr j ↦ f r.point r.code q c (inl (refl, refl)) j ],
  ordered_append rs ss o.1 p (λ q c u d i j. f q c u d (inr i) j),
)

-- codes that part do not begin one another

pub earlier_longer : (c x : Code) → Earlier c (c ++ x) → ⊥
earlier_longer [] x e = e
earlier_longer (i ∷ c) x (inl e) = omega (arith, e.0, e.1)
earlier_longer (i ∷ c) x (inr e) = earlier_longer c x e.1

pub longer_earlier : (c x : Code) → Earlier (c ++ x) c → ⊥
longer_earlier [] [] e = e
longer_earlier [] (i ∷ x) e = e
longer_earlier (i ∷ c) x (inl e) = omega (arith, e.0, e.1)
longer_earlier (i ∷ c) x (inr e) = longer_earlier c x e.1

-- which points a list of walks has

pub in_has : (q : ℕ) (c : Code) (rs : List Reached) → In q c rs → has q rs ≡ true
in_has q c [] i = absurd i
in_has q c (r ∷ rs) (inl e) = rw e.0 (rw (T_true (eqb r.point r.point) (eqb_refl r.point)))
in_has q c (r ∷ rs) (inr i) = go (eqb q r.point) (in_has q c rs i)
  where
    go : (b : Bool) → has q rs ≡ true → (b || has q rs) ≡ true
    go true h = refl
    go false h = h

pub has_in : (q : ℕ) (rs : List Reached) → has q rs ≡ true → (c : Code) × In q c rs
has_in q [] h = absurd (never_both h refl)
has_in q (r ∷ rs) h = go (eqb q r.point) refl h (λ g. has_in q rs g)
  where
    go : (b : Bool) → eqb q r.point ≡ b → (b || has q rs) ≡ true → (has q rs ≡ true → (c : Code) × In q c rs) → (c : Code) × In q c (r ∷ rs)
    go true e h ih = (r.code, inl (eqb→eq q r.point (rw e tt), refl))
    go false e h ih = let i = ih h in (i.0, inr i.1)

pub once_of : (rs : List Reached) → Ordered rs → ((q : ℕ) (c d : Code) → In q c rs → In q d rs → c ≡ d) → PointsOnce rs
once_of [] o f = tt
once_of (r ∷ rs) o f = (
  elim (two_ways (has r.point rs)) [
    | inl h ↦
        let i = has_in r.point rs h in
        absurd (earlier_irrefl r.code (rw (f r.point i.0 r.code (inr i.1) (inl (refl, refl))) at (o.0 r.point i.0 i.1)))
    | inr h ↦ h
  ],
  once_of rs o.1 (λ q c d i j. f q c d (inr i) (inr j)),
)
