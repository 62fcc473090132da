-- The alphabet of relay events, and the numbers of tokens.
use Rattle.std.specs.Prelude.{◌≡◌, ℕ, ◌+◌, ◌-◌, ◌*◌, ◌<◌, ◌≤◌, Bool, cond, ◌&&◌, ℤ, pos, negsuc, Some, None, Option, Result, MatchResult, ◌==◌, int_le, int_lt, nat_le, nat_lt}
use Rattle.alphabet.specs.declared.token.Token.{Token}
use Rattle.alphabet.specs.declared.token.NoToken.{NoToken}
use Rattle.alphabet.specs.Bounds.{last_kind, kind_count, offset, values_per_kind, least_value, greatest_value, largest_number}
use Rattle.alphabet.specs.Meaning.{Meaning}

-- whether a kind and a value are those of a token
abbrev pub in_bounds : ℕ → ℤ → Bool
in_bounds k v = nat_le k last_kind && (int_le least_value v && int_le v greatest_value)

-- a token's kind and value
abbrev pub parts : Token → ℕ × ℤ
parts t = (t.kind, t.value)

-- the kind and value of the token that is made of k and v: these, if they are in bounds, and else there is none
abbrev pub parts_of : ℕ → ℤ → Option (ℕ × ℤ)
parts_of k v = cond (in_bounds k v) (Some (k, v)) None

-- a value plus the offset, for a value that is not below the least
abbrev pub raised : ℤ → ℕ
raised (pos n) = n + offset
raised (negsuc n) = offset - (n + 1)

-- a token's number: the kind times the values of a kind, plus the value, plus the offset (kind × 4,096 + value + 2,048)
abbrev pub token_number : Token → ℕ
token_number t = t.kind * values_per_kind + raised t.value

-- r is the token that has the number n, or an error with a number that no token has
abbrev pub Numbers : ℕ → Result Token NoToken → Type 0
Numbers n r = MatchResult r (λ t. (token_number t ≡ n) × (n ≤ largest_number)) (λ e. (e.0 ≡ n) × (largest_number < n))

-- each number up to the largest is exactly one token's, and no token has another
pub record NumbersAreTokens : Type 0 where
  pub within : (t : Token) → token_number t ≤ largest_number
  pub someone : (n : ℕ) → n ≤ largest_number → (t : Token) × (token_number t ≡ n)
  pub only : (t u : Token) → token_number t ≡ token_number u → t ≡ u

-- the class of all tokens: it follows a class for each kind, and a class for each kind with a value below 0
abbrev pub any_token : ℕ
any_token = 2 * kind_count

-- how many classes there are, 33
abbrev pub token_classes : ℕ
token_classes = any_token + 1

-- whether the token t belongs to the class c: first the kinds, then the kinds with a value below 0, then all
abbrev pub token_in : ℕ → Token → Bool
token_in c t =
    cond (nat_lt c kind_count) (t.kind == c)
    (cond (nat_lt c any_token) (t.kind == c - kind_count && int_lt t.value (pos 0))
    (c == any_token))

-- the alphabet of relay events
abbrev pub token_meaning : Meaning Token
token_meaning = record { classes = token_classes; belongs = token_in; number = token_number }
