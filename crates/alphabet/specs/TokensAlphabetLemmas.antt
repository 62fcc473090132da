-- The law of relay events. Each class has a token of the value -1: of kind c, of kind c - 16, or any.
use Rattle.std.specs.Prelude.{◌≡◌, ℕ, ◌-◌, ◌<◌, ◌≤◌, true, false, negsuc, ◌≤ℤ◌}
use Rattle.std.proofs.Common.{inl, inr, arith}
use Rattle.std.proofs.lemmas.Int.{ints}
use Rattle.std.proofs.lemmas.Bool.{cases_lt}
use Rattle.std.proofs.lemmas.Bool.Decides.{nat_tests}
use Rattle.alphabet.specs.declared.token.Token.{Token}
use Rattle.alphabet.specs.Bounds.{last_kind, kind_count, least_value, greatest_value}
use Rattle.alphabet.specs.TokenClasses.{any_token, token_classes, token_in}

pub least_below : least_value ≤ℤ negsuc 0
least_below = omega (arith, ints)

pub greatest_above : negsuc 0 ≤ℤ greatest_value
greatest_above = omega (arith, ints)

abbrev pub minus_one : (k : ℕ) → k ≤ last_kind → Token
minus_one k h = record { kind = k; value = negsuc 0; listed = h; lowest = least_below; highest = greatest_above }

pub of_kind : (c : ℕ) (h : c ≤ last_kind) → token_in c (minus_one c h) ≡ true
of_kind c h = grind (arith, nat_tests)

pub of_kind_below : (c : ℕ) (h : c - kind_count ≤ last_kind) → kind_count ≤ c → c < any_token → token_in c (minus_one (c - kind_count) h) ≡ true
of_kind_below c h l m = grind (arith, nat_tests)

pub any : (c : ℕ) (h : 0 ≤ last_kind) → any_token ≤ c → c < token_classes → token_in c (minus_one 0 h) ≡ true
any c h l m = grind (arith, nat_tests)

pub full : (c : ℕ) → c < token_classes → (s : Token) × (token_in c s ≡ true)
full c h =
    elim (cases_lt c kind_count) [
      | inl l ↦ (minus_one c (omega arith), of_kind c (omega arith))
      | inr l ↦
          elim (cases_lt c any_token) [
            | inl m ↦ (minus_one (c - kind_count) (omega arith), of_kind_below c (omega arith) l m)
            | inr n ↦ (minus_one 0 (omega arith), any c (omega arith) n h)
          ]
    ]

pub none : (c : ℕ) (s : Token) → token_classes ≤ c → token_in c s ≡ false
none c s h = grind (arith, nat_tests)
