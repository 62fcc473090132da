-- The law of bytes. A class of one byte has that byte, the letters have A, and each other class has the digit 0.
use Rattle.std.specs.Prelude.{◌≡◌, ℕ, ◌<◌, ◌≤◌, true, false, ◌≢◌}
use Rattle.std.proofs.Common.{inl, inr, arith}
use Rattle.std.proofs.lemmas.Bool.{cases_lt, cases_eq}
use Rattle.std.proofs.lemmas.Bool.Decides.{nat_tests}
use Rattle.alphabet.specs.Bounds.{largest_number}
use Rattle.alphabet.specs.ByteClasses.{byte_count, byte_classes, letters, byte_in}

pub single : (c : ℕ) → c < byte_count → byte_in c c ≡ true
single c h = grind (arith, nat_tests)

pub letter : (c : ℕ) → c ≡ letters → byte_in c 65 ≡ true
letter c e = rw e

pub other : (c : ℕ) → byte_count ≤ c → c < byte_classes → (c ≢ letters) → byte_in c 48 ≡ true
other c l h ne = grind (arith, nat_tests)

pub full : (c : ℕ) → c < byte_classes → (s : ℕ) × (byte_in c s ≡ true)
full c h =
    elim (cases_lt c byte_count) [
      | inl l ↦ (c, single c l)
      | inr l ↦ elim (cases_eq c letters) [ inl e ↦ (65, letter c e) | inr ne ↦ (48, other c l h ne) ]
    ]

pub small : (c s : ℕ) → byte_in c s ≡ true → s ≤ largest_number
small c s h = grind (arith, nat_tests)

pub none : (c s : ℕ) → byte_classes ≤ c → byte_in c s ≡ false
none c s h = grind (arith, nat_tests)
