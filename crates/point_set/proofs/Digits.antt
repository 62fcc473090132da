use Rattle.std.proofs.Common.{◌≡◌, ℕ, zero, suc, ◌+◌, ◌*◌, ◌/◌, ◌%◌, ◌^◌, ◌<◌, max, Bool, true, false, cond, eqb, List, [], ◌∷◌, ◌++◌, length, get_or, take, set, replicate, sym, refl, ap, ◌∙◌, pow-suc, zero-add, arith, length-append, shr-shr}
use lib.Bits.{bit_or, bit_and, or_step, or_zero_r}
use lib.Count.{ones, ones_step, ones-le}
use Rattle.std.proofs.lemmas.Bool.Decides.{nat_tests}
use Rattle.std.proofs.lemmas.Nat.{one_shl, and_mask}
use Rattle.std.proofs.lemmas.List.{set-append_left, set-append_right, get_or_append_left, get_or-append_right, take_more}
use Rattle.point_set.specs.Flags.{digits, flags, tally}

pub length_bits : (k n : ℕ) → length (digits k n) ≡ k
unfolding digits
length_bits zero n = refl
length_bits (suc k) n = ap suc (length_bits k (n / 2))

-- the digits of 0
pub zero_bits : (k : ℕ) → digits k 0 ≡ replicate k false
unfolding digits
zero_bits zero = refl
zero_bits (suc k) = ap (λ l. false ∷ l) (zero_bits k)

-- the digit j
pub bit_at : (k n j : ℕ) → j < k → get_or (digits k n) j false ≡ eqb (n / 2 ^ j % 2) 1
unfolding digits
bit_at zero n j h = absurd (omega arith)
bit_at (suc k) n zero h = ap (λ m. eqb (m % 2) 1) (omega arith)
bit_at (suc k) n (suc j) h =
    bit_at k (n / 2) j (omega arith) ∙ ap (λ m. eqb (m % 2) 1) (shr-shr n 1 j ∙ ap (λ m. n / 2 ^ m) (omega arith))

digit : (n : ℕ) → cond (eqb (n % 2) 1) 1 0 ≡ n % 2
digit n = let h : n % 2 < 2 = omega arith in grind (arith, nat_tests)

-- the count
pub tally_bits : (k n : ℕ) → n < 2 ^ k → tally (digits k n) ≡ ones n
unfolding digits
tally_bits zero n h = omega (arith, ones-le 0 n h)
tally_bits (suc k) n h =
    let l : n / 2 < 2 ^ k = omega (arith, pow-suc 2 k) in
    omega (arith, ones_step n, tally_bits k (n / 2) l, digit n)

or_one : (n : ℕ) → bit_or n 1 ≡ n / 2 * 2 + 1
or_one n =
    let m : n % 2 < 2 = omega arith in
    let e : max (n % 2) 1 ≡ 1 = omega arith in
    or_step n 1 ∙ ap (λ x. x * 2 + max (n % 2) 1) (or_zero_r (n / 2)) ∙ ap (λ x. n / 2 * 2 + x) e

or_pow : (n j : ℕ) → bit_or n (2 ^ suc j) ≡ bit_or (n / 2) (2 ^ j) * 2 + n % 2
or_pow n j =
    let h : 2 ^ suc j / 2 ≡ 2 ^ j = omega (arith, pow-suc 2 j) in
    let e : max (n % 2) (2 ^ suc j % 2) ≡ n % 2 = omega (arith, pow-suc 2 j) in
    or_step n (2 ^ suc j) ∙ ap (λ x. bit_or (n / 2) x * 2 + max (n % 2) (2 ^ suc j % 2)) h ∙ ap (λ x. bit_or (n / 2) (2 ^ j) * 2 + x) e

cons_same : {b c : ℕ} (k : ℕ) {m n : ℕ} → b ≡ c → m ≡ n → ◌≡◌ {A = List Bool} (eqb b 1 ∷ digits k m) (eqb c 1 ∷ digits k n)
cons_same k e f = rw (e, f)

-- a digit set
pub set_bit : (k n j : ℕ) → j < k → digits k (bit_or n (2 ^ j)) ≡ set (digits k n) j true
unfolding digits
set_bit zero n j h = absurd (omega arith)
set_bit (suc k) n zero h = cons_same {b = bit_or n 1 % 2} {c = 1} k (omega (arith, or_one n)) (omega (arith, or_one n))
set_bit (suc k) n (suc j) h =
    cons_same {b = bit_or n (2 ^ suc j) % 2} {c = n % 2} k {n = bit_or (n / 2) (2 ^ j)} (omega (arith, or_pow n j)) (omega (arith, or_pow n j))
    ∙ ap (λ l. eqb (n % 2) 1 ∷ l) (set_bit k (n / 2) j (omega arith))

-- words side by side
pub flags_set : (ws : List ℕ) (q j v : ℕ) → j < 64 → q < length ws → digits 64 v ≡ set (digits 64 (get_or ws q 0)) j true → flags (set ws q v) ≡ set (flags ws) (q * 64 + j) true
unfolding flags
flags_set [] q j v h l e = absurd (omega arith)
flags_set (w ∷ ws) zero j v h l e =
    let k : j < length (digits 64 w) = omega (arith, length_bits 64 w) in
    ap (λ b. b ++ flags ws) e ∙ sym (set-append_left (digits 64 w) (flags ws) j true k) ∙ ap (λ m. set (digits 64 w ++ flags ws) m true) (sym (zero-add j))
flags_set (w ∷ ws) (suc q) j v h l e =
    ap (λ b. digits 64 w ++ b) (flags_set ws q j v h (omega arith) e ∙ ap (λ m. set (flags ws) m true) (omega arith))
    ∙ sym (set-append_right (digits 64 w) (flags ws) 64 (suc q * 64 + j) true (length_bits 64 w) (omega arith))

pub flags_at : (ws : List ℕ) (q j : ℕ) → j < 64 → q < length ws → get_or (flags ws) (q * 64 + j) false ≡ get_or (digits 64 (get_or ws q 0)) j false
unfolding flags
flags_at [] q j h l = absurd (omega arith)
flags_at (w ∷ ws) zero j h l =
    let k : j < length (digits 64 w) = omega (arith, length_bits 64 w) in
    ap (λ m. get_or (digits 64 w ++ flags ws) m false) (zero-add j) ∙ get_or_append_left (digits 64 w) (flags ws) false j k
flags_at (w ∷ ws) (suc q) j h l =
    get_or-append_right (digits 64 w) (flags ws) 64 (suc q * 64 + j) false (length_bits 64 w) (omega arith)
    ∙ ap (λ m. get_or (flags ws) m false) (omega arith) ∙ flags_at ws q j h (omega arith)

pub tally_append : (xs ys : List Bool) → tally (xs ++ ys) ≡ tally xs + tally ys
tally_append [] ys = omega arith
tally_append (b ∷ xs) ys = omega (arith, tally_append xs ys)

tally_snoc : (ws : List ℕ) (w : ℕ) → w < 2 ^ 64 → tally (flags (ws ++ (w ∷ []))) ≡ tally (flags ws) + ones w
unfolding flags
tally_snoc [] w h = tally_append (digits 64 w) [] ∙ omega (arith, tally_bits 64 w h)
tally_snoc (v ∷ ws) w h = tally_append (digits 64 v) (flags (ws ++ (w ∷ []))) ∙ omega (arith, tally_append (digits 64 v) (flags ws), tally_snoc ws w h)

-- the words so far, with one more
pub tally_more : (ws : List ℕ) (i : ℕ) → i < length ws → get_or ws i 0 < 2 ^ 64 → tally (flags (take (i + 1) ws)) ≡ tally (flags (take i ws)) + ones (get_or ws i 0)
tally_more ws i l f = ap (λ u. tally (flags u)) (take_more ws i 0 l) ∙ tally_snoc (take i ws) (get_or ws i 0) f

-- a point's place
pub contains_is : (ws : List ℕ) (p : ℕ) → p < 64 * length ws → eqb (bit_and (get_or ws (p / 64) 0 / 2 ^ (p % 64)) 1) 1 ≡ get_or (flags ws) p false
contains_is ws p h =
    let n = get_or ws (p / 64) 0 in
    let m : p % 64 < 64 = omega arith in
    let q : p / 64 < length ws = omega arith in
    let e : p / 64 * 64 + p % 64 ≡ p = omega arith in
    ap (λ b. eqb b 1) (and_mask (n / 2 ^ (p % 64)) 1)
    ∙ sym (bit_at 64 n (p % 64) m) ∙ sym (flags_at ws (p / 64) (p % 64) m q) ∙ ap (λ r. get_or (flags ws) r false) e

pub insert_is : (ws : List ℕ) (p : ℕ) → p < 64 * length ws → flags (set ws (p / 64) (bit_or (get_or ws (p / 64) 0) ((1 * 2 ^ (p % 64)) % 2 ^ 64))) ≡ set (flags ws) p true
insert_is ws p h =
    let n = get_or ws (p / 64) 0 in
    let m : p % 64 < 64 = omega arith in
    let q : p / 64 < length ws = omega arith in
    let e : p / 64 * 64 + p % 64 ≡ p = omega arith in
    ap (λ b. flags (set ws (p / 64) (bit_or n b))) (one_shl (p % 64) 64 m)
    ∙ flags_set ws (p / 64) (p % 64) (bit_or n (2 ^ (p % 64))) m q (set_bit 64 n (p % 64) m) ∙ ap (λ r. set (flags ws) r true) e

-- a set has a flag for each number
pub length_flags : (ws : List ℕ) → length (flags ws) ≡ 64 * length ws
unfolding flags
length_flags [] = refl
length_flags (w ∷ ws) = length-append (digits 64 w) (flags ws) ∙ omega (arith, length_bits 64 w, length_flags ws)
