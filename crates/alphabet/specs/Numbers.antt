-- The greatest number of a token, which the law of the tokens' alphabet names.
use Rattle.std.specs.Prelude.{◌≤◌, ◌<◌, ℤ, pos, negsuc, ◌≤ℤ◌}
use Rattle.std.proofs.Common.{arith}
use Rattle.std.proofs.lemmas.Int.{ints}
use Rattle.alphabet.specs.declared.token.Token.{Token}
use Rattle.alphabet.specs.Bounds.{values_per_kind, greatest_value, largest_number}
use Rattle.alphabet.specs.TokenClasses.{raised, token_number}

-- a value plus the offset is below the count of values
pub raised_below : (v : ℤ) → v ≤ℤ greatest_value → raised v < values_per_kind
raised_below (pos n) h = omega (arith, ints)
raised_below (negsuc n) h = omega arith

pub number_within : (t : Token) → token_number t ≤ largest_number
number_within t = omega (arith, raised_below t.value t.highest, t.listed)
