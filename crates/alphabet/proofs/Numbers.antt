-- Tokens and numbers: each number up to the largest is exactly one token's.
use Rattle.std.proofs.Common.{◌≡◌, ℕ, ◌+◌, ◌-◌, ◌/◌, ◌%◌, ◌<◌, ◌≤◌, inl, inr, ap, arith}
use Rattle.std.specs.Prelude.{ℤ, pos, negsuc, ◌≤ℤ◌}
use mathlib.Core.HLevel.{is_prop→PathP}
use denote.Struct.Props.{props}
use Rattle.std.proofs.Math.Bridge.{le_prop}
use Rattle.std.proofs.lemmas.Int.{ints}
use Rattle.std.proofs.lemmas.Bool.{cases_lt}
use Rattle.alphabet.specs.declared.token.Token.{Token}
use Rattle.alphabet.specs.Bounds.{last_kind, offset, values_per_kind, least_value, greatest_value, largest_number}
use Rattle.alphabet.specs.TokenClasses.{raised, token_number, NumbersAreTokens}
use Rattle.alphabet.specs.Numbers.{raised_below, number_within}

-- two values that are the same with the offset are the same
raised_same : (v w : ℤ) → least_value ≤ℤ v → least_value ≤ℤ w → raised v ≡ raised w → v ≡ w
raised_same (pos m) (pos n) h k e = ap pos (omega arith)
raised_same (pos m) (negsuc n) h k e = omega (arith, ints)
raised_same (negsuc m) (pos n) h k e = omega (arith, ints)
raised_same (negsuc m) (negsuc n) h k e = omega (arith, ints)

-- tokens of one kind and one value are one token: what is known of their bounds makes no difference
same_token : (t u : Token) → t.kind ≡ u.kind → t.value ≡ u.value → t ≡ u
same_token t u k v = λ i. record {
  kind = k i;
  value = v i;
  listed = is_prop→PathP (λ j. k j ≤ last_kind) (λ j. le_prop) t.listed u.listed i;
  lowest = is_prop→PathP (λ j. least_value ≤ℤ v j) (λ j. hlevel props) t.lowest u.lowest i;
  highest = is_prop→PathP (λ j. v j ≤ℤ greatest_value) (λ j. hlevel props) t.highest u.highest i;
}

-- some value is r with the offset
lowered : (r : ℕ) → r < values_per_kind → (v : ℤ) × (least_value ≤ℤ v) × (v ≤ℤ greatest_value) × (raised v ≡ r)
lowered r h =
    elim (cases_lt r offset) [
      | inl l ↦ (negsuc (offset - (r + 1)), omega (arith, ints), omega (arith, ints), omega arith)
      | inr l ↦ (pos (r - offset), omega (arith, ints), omega (arith, ints), omega arith)
    ]

number_reached : (n : ℕ) → n ≤ largest_number → (t : Token) × (token_number t ≡ n)
number_reached n h =
    let w = lowered (n % values_per_kind) (omega arith) in
    (record { kind = n / values_per_kind; value = w.0; listed = omega arith; lowest = w.1; highest = w.2 }, omega (arith, w.3))

number_one : (t u : Token) → token_number t ≡ token_number u → t ≡ u
number_one t u e =
    let p = raised_below t.value t.highest in
    let q = raised_below u.value u.highest in
    same_token t u (omega arith) (raised_same t.value u.value t.lowest u.lowest (omega arith))

pub numbers : NumbersAreTokens
numbers = record { within = number_within; someone = number_reached; only = number_one }
