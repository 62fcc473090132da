-- Numbers in groups of seven bits, lowest group first. Assumes nothing.
use Rattle.std.specs.Prelude.{ℕ, zero, suc, ◌+◌, ◌*◌, ◌/◌, ◌%◌, cond, List, [], ◌∷◌, Some, None, Option, nat_le, nat_lt}
use Rattle.pattern.specs.declared.number.Number.{Number}
use Rattle.pattern.specs.Limits.{largest_number}

-- a value, with how many bytes it takes
pub record Long : Type 0 where
  pub value : ℕ
  pub bytes : ℕ

-- the number whose lowest group is that of the byte b, and whose other groups are r
abbrev pub under : ℕ → Option Long → Option Long
under b None = None
under b (Some r) = Some (record { value = b % 128 + 128 * r.value; bytes = suc r.bytes })

-- a number of at most n bytes; a byte of 128 or more says that another follows
abbrev pub groups : ℕ → List ℕ → Option Long
groups zero bs = None
groups (suc n) [] = None
groups (suc n) (b ∷ bs) = cond (nat_lt b 128) (Some (record { value = b; bytes = 1 })) (under b (groups n bs))

-- no more than the largest number
abbrev pub small : Option Long → Option Long
small None = None
small (Some r) = cond (nat_le r.value largest_number) (Some r) None

-- the number at the front of some bytes: at most three of them
abbrev pub number : List ℕ → Option Long
number bs = small (groups 3 bs)

-- the same, read at an offset
abbrev pub found : ℕ → Option Long → Option Number
found at None = None
found at (Some r) = Some (record { value = r.value; next = at + r.bytes })

-- n in the fewest groups, with at most k bytes before the last
abbrev pub grouped : ℕ → ℕ → List ℕ
grouped zero n = n ∷ []
grouped (suc k) n = cond (nat_lt n 128) (n ∷ []) ((n % 128 + 128) ∷ grouped k (n / 128))

-- a number as it is written: the fewest groups, at most three
abbrev pub shortest : ℕ → List ℕ
shortest n = grouped 2 n
