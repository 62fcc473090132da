-- The bits of filed bytes. Assumes nothing.
use Rattle.std.specs.Prelude.{◌≡◌, ℕ, zero, suc, ◌*◌, ◌%◌, ◌≤◌, Bool, true, false, ◌&&◌, List, [], ◌∷◌, ◌++◌, replicate, nat_lt}

-- the n highest bits of a byte, the highest first
unfoldable pub highest : ℕ → ℕ → List Bool
highest zero v = []
highest (suc n) v = nat_lt 127 v ∷ highest n (v % 128 * 2)

-- the bits of some bytes, eight to a byte
unfoldable pub bits_of : List ℕ → List Bool
bits_of [] = []
bits_of (b ∷ bs) = highest 8 b ++ bits_of bs

-- the most bits that a byte is filled with
abbrev pub most_filling : ℕ
most_filling = 7

-- what may follow the bits of a walk, the filling of its last byte: fewer than eight bits, each of them 0
abbrev pub Filling : List Bool → Type 0
Filling bs = (z : ℕ) × (z ≤ most_filling) × (bs ≡ replicate z false)

-- each number is a byte
abbrev pub all_bytes : List ℕ → Bool
all_bytes [] = true
all_bytes (x ∷ xs) = nat_lt x 256 && all_bytes xs

abbrev pub Bytes : List ℕ → Type 0
Bytes xs = all_bytes xs ≡ true
