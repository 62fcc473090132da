-- Numbers as lists of bits, highest first.
use Rattle.std.proofs.Common.{◌≡◌, ℕ, zero, suc, ◌+◌, ◌-◌, ◌*◌, ◌/◌, ◌%◌, ◌^◌, ◌<◌, Bool, true, false, cond, eqb, ltb, List, [], ◌∷◌, ◌++◌, length, replicate, sym, refl, ap, ◌∙◌, subst, mul_assoc, mul_comm, pow-suc, add-one, arith, length-append}
use Rattle.std.proofs.lemmas.Nat.{shl_whole}
use Rattle.std.proofs.lemmas.Bool.{ne_eqb, lt-ltb}
use Rattle.std.proofs.lemmas.Bool.Decides.{nat_tests}
use Rattle.alphabet.specs.Choices.{number_from, byte_of, last_byte}
use Rattle.sink.specs.BitsMeaning.{unfilled, bits_next, bits_added}
use Rattle.sink.specs.Unfilled.{bits_of}

pub length_bits_of : (v n : ℕ) → length (bits_of v n) ≡ n
length_bits_of v zero = refl
length_bits_of v (suc n) = simp length-append (omega (arith, length_bits_of (v / 2) n))

-- one bit more, below the others
pub bits_of_push : (v b n : ℕ) → b < 2 → bits_of (v * 2 + b) (n + 1) ≡ bits_of v n ++ eqb b 1 ∷ []
bits_of_push v b n l =
    let q : (v * 2 + b) / 2 ≡ v = omega arith in
    let r : (v * 2 + b) % 2 ≡ b = omega arith in
    rw (add-one, q, r)

number_from_append : (a : ℕ) (xs ys : List Bool) → number_from a (xs ++ ys) ≡ number_from (number_from a xs) ys
number_from_append a [] ys = refl
number_from_append a (x ∷ xs) ys = number_from_append (2 * a + cond x 1 0) xs ys

bit_value : (r : ℕ) → r < 2 → cond (eqb r 1) 1 0 ≡ r
bit_value r l = grind (arith, nat_tests)

number_from_bits_of : (v n : ℕ) → v < 2 ^ n → number_from 0 (bits_of v n) ≡ v
number_from_bits_of v zero l = omega arith
number_from_bits_of v (suc n) l =
    let k : v < 2 ^ n * 2 = subst (λ (z : ℕ). v < z) (pow-suc 2 n) l in
    let h = number_from_bits_of (v / 2) n (omega arith) in
    number_from_append 0 (bits_of (v / 2) n) (eqb (v % 2) 1 ∷ [])
    ∙ ap (λ (z : ℕ). 2 * z + cond (eqb (v % 2) 1) 1 0) h
    ∙ ap (λ (z : ℕ). 2 * (v / 2) + z) (bit_value (v % 2) (omega arith))
    ∙ omega arith

number_from_zeros : (a k : ℕ) → number_from a (replicate k false) ≡ a * 2 ^ k
number_from_zeros a zero = omega arith
number_from_zeros a (suc k) =
    number_from_zeros (2 * a + 0) k
    ∙ ap (λ (z : ℕ). z * 2 ^ k) (let e : 2 * a + 0 ≡ a * 2 = omega arith in e)
    ∙ mul_assoc a 2 (2 ^ k)
    ∙ ap (λ (z : ℕ). a * z) (mul_comm 2 (2 ^ k) ∙ sym (pow-suc 2 k))

byte_of_bits_of : (v n : ℕ) → v < 2 ^ n → byte_of (bits_of v n) ≡ v * 2 ^ (8 - n)
byte_of_bits_of v n l =
    number_from_append 0 (bits_of v n) (replicate (8 - length (bits_of v n)) false)
    ∙ number_from_zeros (number_from 0 (bits_of v n)) (8 - length (bits_of v n))
    ∙ rw (number_from_bits_of v n l, length_bits_of v n)

-- the byte as the code shifts it
byte_of_shifted : (v n : ℕ) → n < 8 → v < 2 ^ n → (v * 2 ^ (8 - n)) % 256 ≡ byte_of (bits_of v n)
byte_of_shifted v n f l = shl_whole v n (8 - n) 8 l (omega arith) ∙ sym (byte_of_bits_of v n l)

-- the last byte where there is a bit
pub last_byte_shifted : (v n : ℕ) → 0 < n → n < 8 → v < 2 ^ n → ((v * 2 ^ (8 - n)) % 256) ∷ [] ≡ last_byte (bits_of v n)
last_byte_shifted v n k f l =
    let e : eqb (length (bits_of v n)) 0 ≡ false = ne_eqb (length (bits_of v n)) 0 (λ z. omega (arith, length_bits_of v n)) in
    simp e (ap (λ (b : ℕ). b ∷ []) (byte_of_shifted v n f l))

-- a bit before the eighth
module _ (v b n : ℕ) (l : n < 7) (k : b < 2) where
  pub more_next : unfilled (bits_of (v * 2 + b) (n + 1)) ≡ bits_next (unfilled (bits_of v n)) b
  more_next =
      let e : eqb (length (bits_of v n)) 7 ≡ false = ne_eqb (length (bits_of v n)) 7 (λ z. omega (arith, length_bits_of v n)) in
      let f : ltb b 2 ≡ true = lt-ltb b 2 k in
      simp (e, f) (ap unfilled (bits_of_push v b n k))

  pub more_added : [] ≡ bits_added (unfilled (bits_of v n)) b
  more_added =
      let e : eqb (length (bits_of v n)) 7 ≡ false = ne_eqb (length (bits_of v n)) 7 (λ z. omega (arith, length_bits_of v n)) in
      let f : ltb b 2 ≡ true = lt-ltb b 2 k in
      simp (e, f)
