-- Sums over the entries of a table, where one or two entries are written.
use Rattle.std.proofs.Common.{◌≡◌, ℕ, zero, suc, ◌+◌, ◌*◌, ◌<◌, ◌≤◌, true, false, cond, eqb, ◌≢◌, List, [], ◌∷◌, length, set, refl, ap, ◌∙◌, ⊎_elim, le_of_suc-le-suc, not-suc-le-zero, add-zero, zero-add, mul-one, mul-add, arith, length-set, get_or-set_other, get_or-set_same}
use Rattle.std.proofs.lemmas.Bool.{eq-eqb, eqb-true, eqb-false, cases_Bool}
use Rattle.tree.specs.declared.table.Entry.{Entry}
use Rattle.tree.specs.Records.{at, blank}
use Rattle.tree.specs.Sound.{total, kid, kid_slot}

-- one entry is written
pub total_set : (f : ℕ → Entry → ℕ) (k : ℕ) (es : List Entry) (i : ℕ) (e : Entry) → i < length es
    → total f k (set es i e) + f (k + i) (at es i) ≡ total f k es + f (k + i) e
unfolding total
total_set f k [] i e h = absurd (not-suc-le-zero h)
total_set f k (y ∷ ys) zero e h = rw add-zero (omega arith)
total_set f k (y ∷ ys) (suc i) e h =
    let r = total_set f (suc k) ys i e (le_of_suc-le-suc h) in
    let q : suc k + i ≡ k + suc i = omega arith in
    let r2 = rw q at r in omega (arith, r2)

-- two entries are written
abbrev pub two : List Entry → ℕ → Entry → ℕ → Entry → List Entry
two es a ea b eb = set (set es a ea) b eb

pub two_first : (es : List Entry) (a : ℕ) (ea : Entry) (b : ℕ) (eb : Entry) → a < length es → a ≢ b → at (two es a ea b eb) a ≡ ea
two_first es a ea b eb h n = get_or-set_other (set es a ea) b a eb blank n ∙ get_or-set_same es a ea blank h

pub two_second : (es : List Entry) (a : ℕ) (ea : Entry) (b : ℕ) (eb : Entry) → b < length es → at (two es a ea b eb) b ≡ eb
two_second es a ea b eb h = get_or-set_same (set es a ea) b eb blank (rw length-set h)

pub two_other : (es : List Entry) (a : ℕ) (ea : Entry) (b : ℕ) (eb : Entry) (i : ℕ) → i ≢ a → i ≢ b → at (two es a ea b eb) i ≡ at es i
two_other es a ea b eb i na nb = get_or-set_other (set es a ea) b i eb blank nb ∙ get_or-set_other es a i ea blank na

pub total_two : (f : ℕ → Entry → ℕ) (es : List Entry) (a : ℕ) (ea : Entry) (b : ℕ) (eb : Entry) → a < length es → b < length es → b ≢ a
    → total f 0 (two es a ea b eb) + f a (at es a) + f b (at es b) ≡ total f 0 es + f a ea + f b eb
total_two f es a ea b eb ha hb n =
    let p = total_set f 0 es a ea ha in
    let q = total_set f 0 (set es a ea) b eb (rw length-set hb) in
    let za : 0 + a ≡ a = omega arith in
    let zb : 0 + b ≡ b = omega arith in
    let p2 = rw za at p in
    let q2 = rw (zb, get_or-set_other es a b ea blank n) at q in
    omega (arith, p2, q2)

pub two_length : (es : List Entry) (a : ℕ) (ea : Entry) (b : ℕ) (eb : Entry) → length (two es a ea b eb) ≡ length es
two_length es a ea b eb = simp length-set

-- a sum of slots is bounded by the count
pub total_kid_slot : (n j k : ℕ) (es : List Entry) → k + length es ≤ n → total (kid_slot j) k es ≤ n * total (kid j) k es
unfolding total
total_kid_slot n j k [] h = omega arith
total_kid_slot n j k (e ∷ es) h =
    let r = total_kid_slot n j (suc k) es (omega arith) in
    let m : n * (1 + total (kid j) (suc k) es) ≡ n + n * total (kid j) (suc k) es = mul-add n 1 (total (kid j) (suc k) es) ∙ ap (λ (v : ℕ). v + n * total (kid j) (suc k) es) (mul-one n) in
    let z : n * (0 + total (kid j) (suc k) es) ≡ n * total (kid j) (suc k) es = ap (λ (v : ℕ). n * v) (zero-add (total (kid j) (suc k) es)) in
    elim (eqb e.parent j) as (λ b. cond b k 0 + total (kid_slot j) (suc k) es ≤ n * (cond b 1 0 + total (kid j) (suc k) es)) [ true ↦ omega (arith, r, m) | false ↦ omega (arith, r, z) ]

-- an entry with a parent is in the table
pub within : (es : List Entry) (i : ℕ) → 0 < (at es i).parent → i < length es
within [] i h = absurd (not-suc-le-zero h)
within (e ∷ es) zero h = omega arith
within (e ∷ es) (suc i) h = let r = within es i h in omega arith

pub total_ge : (f : ℕ → Entry → ℕ) (k : ℕ) (es : List Entry) (i : ℕ) → i < length es → f (k + i) (at es i) ≤ total f k es
unfolding total
total_ge f k [] i h = absurd (not-suc-le-zero h)
total_ge f k (e ∷ es) zero h = rw add-zero (omega arith)
total_ge f k (e ∷ es) (suc i) h =
    let r = total_ge f (suc k) es i (le_of_suc-le-suc h) in
    let q : suc k + i ≡ k + suc i = omega arith in
    let r2 = rw q at r in omega (arith, r2)

-- where no entry counts, none has the parent j
pub no_kid : (j k : ℕ) (es : List Entry) → total (kid j) k es ≡ 0 → (i : ℕ) → i < length es → (at es i).parent ≡ j → ⊥
no_kid j k es z i h e =
    let g = total_ge (kid j) k es i h in
    let b = eq-eqb (at es i).parent j e in
    let g2 = rw b at g in omega (arith, g2, z)

pub no_slots : (j k : ℕ) (es : List Entry) → total (kid j) k es ≡ 0 → total (kid_slot j) k es ≡ 0
unfolding total
no_slots j k [] z = refl
no_slots j k (e ∷ es) z =
    ⊎_elim (λ (b : eqb e.parent j ≡ true). let y = rw b at z in absurd (omega (arith, y)))
    (λ (b : eqb e.parent j ≡ false). let y = rw b at z in let r = no_slots j (suc k) es (omega (arith, y)) in rw b (omega (arith, r)))
    (cases_Bool (eqb e.parent j))

-- where one entry counts, it is the only one with the parent j, and the sum of the kid-slots is its slot
pub record Lone (j k : ℕ) (es : List Entry) : Type 0 where
  pub slot : ℕ
  pub inside : slot < length es
  pub child : (at es slot).parent ≡ j
  pub sum : total (kid_slot j) k es ≡ k + slot
  pub only : (l : ℕ) → l < length es → (at es l).parent ≡ j → l ≡ slot

lone_here : (j k : ℕ) (e : Entry) (es : List Entry) → eqb e.parent j ≡ true → total (kid j) (suc k) es ≡ 0 → Lone j k (e ∷ es)
unfolding total
lone_here j k e es b n =
    record { slot = 0; inside = omega arith; child = eqb-true e.parent j b; sum = rw (b, no_slots j (suc k) es n) (omega arith); only = first }
  where
    first : (l : ℕ) → l < length (e ∷ es) → (at (e ∷ es) l).parent ≡ j → l ≡ 0
    first zero h q = refl
    first (suc l) h q = absurd (no_kid j (suc k) es n l (le_of_suc-le-suc h) q)

lone_later : (j k : ℕ) (e : Entry) (es : List Entry) → eqb e.parent j ≡ false → Lone j (suc k) es → Lone j k (e ∷ es)
unfolding total
lone_later j k e es b r =
    record { slot = suc r.slot; inside = omega (arith, r.inside); child = r.child; sum = rw b (omega (arith, r.sum)); only = later }
  where
    later : (l : ℕ) → l < length (e ∷ es) → (at (e ∷ es) l).parent ≡ j → l ≡ suc r.slot
    later zero h q = absurd (eqb-false e.parent j b q)
    later (suc l) h q = ap suc (r.only l (le_of_suc-le-suc h) q)

pub lone : (j k : ℕ) (es : List Entry) → total (kid j) k es ≡ 1 → Lone j k es
unfolding total
lone j k [] z = absurd (omega (arith, z))
lone j k (e ∷ es) z =
    ⊎_elim (λ (b : eqb e.parent j ≡ true). let y = rw b at z in lone_here j k e es b (omega (arith, y)))
    (λ (b : eqb e.parent j ≡ false). let y = rw b at z in lone_later j k e es b (lone j (suc k) es (omega (arith, y))))
    (cases_Bool (eqb e.parent j))
