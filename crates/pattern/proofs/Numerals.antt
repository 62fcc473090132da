-- What `number` is at lists whose first bytes are known.
use Rattle.std.proofs.Common.{◌≡◌, ℕ, zero, suc, ◌+◌, ◌*◌, ◌%◌, ◌≤◌, Bool, true, false, cond, ltb, leb, List, [], ◌∷◌, length, Some, None, Option, refl, ap, subst, arith, le-leb}
use Rattle.pattern.specs.Limits.{largest_number}
use Rattle.pattern.specs.Numbers.{Long, under, groups, small, number}

pub small_in : (r : Long) → r.value ≤ largest_number → small (Some r) ≡ Some r
small_in r h = ap (λ t. cond t (Some r) None) (le-leb r.value largest_number h)

-- a number has at least one byte, and no more than there are
groups_inside : (n : ℕ) (bs : List ℕ) (r : Long) → groups n bs ≡ Some r → (1 ≤ r.bytes) × (r.bytes ≤ length bs)
groups_inside zero bs r e = absurd (let z : ◌≡◌ {A = ℕ} 0 1 = cc in omega arith)
groups_inside (suc n) [] r e = absurd (let z : ◌≡◌ {A = ℕ} 0 1 = cc in omega arith)
groups_inside (suc n) (b ∷ bs) r e = go (ltb b 128) (groups n bs) (groups_inside n bs) e
  where
    go : (t : Bool) (o : Option Long) → ((q : Long) → o ≡ Some q → (1 ≤ q.bytes) × (q.bytes ≤ length bs))
        → cond t (Some (record { value = b; bytes = 1 })) (under b o) ≡ Some r → (1 ≤ r.bytes) × (r.bytes ≤ suc (length bs))
    go true o ih f = let s : record { value = b; bytes = 1 } ≡ r = cc in (omega (arith, ap (λ q. q.bytes) s), omega (arith, ap (λ q. q.bytes) s))
    go false None ih f = absurd (let z : ◌≡◌ {A = ℕ} 0 1 = cc in omega arith)
    go false (Some q) ih f =
        let s : record { value = b % 128 + 128 * q.value; bytes = suc q.bytes } ≡ r = cc in
        let i = ih q refl in
        (omega (arith, ap (λ p. p.bytes) s), omega (arith, i.1, ap (λ p. p.bytes) s))

pub number_inside : (bs : List ℕ) (r : Long) → number bs ≡ Some r → (1 ≤ r.bytes) × (r.bytes ≤ length bs)
number_inside bs r e = go (groups 3 bs) (groups_inside 3 bs) e
  where
    go : (o : Option Long) → ((q : Long) → o ≡ Some q → (1 ≤ q.bytes) × (q.bytes ≤ length bs)) → small o ≡ Some r → (1 ≤ r.bytes) × (r.bytes ≤ length bs)
    go None ih f = absurd (let z : ◌≡◌ {A = ℕ} 0 1 = cc in omega arith)
    go (Some q) ih f = pick (leb q.value largest_number) f
      where
        pick : (t : Bool) → cond t (Some q) None ≡ Some r → (1 ≤ r.bytes) × (r.bytes ≤ length bs)
        pick true g = let s : q ≡ r = cc in subst (λ x. (1 ≤ x.bytes) × (x.bytes ≤ length bs)) s (ih q refl)
        pick false g = absurd (let z : ◌≡◌ {A = ℕ} 0 1 = cc in omega arith)
