-- The choices of a code: one bit for each branch taken, and the bytes that file them. Assumes nothing.
use Rattle.std.specs.Prelude.{ℕ, ◌+◌, ◌-◌, ◌*◌, Bool, false, cond, List, [], ◌∷◌, ◌++◌, length, replicate, ◌==◌, nat_lt}
use Rattle.alphabet.specs.Items.{second_branch, first_read}

-- the bits of a list of items: a branch gives one, 0 for the first and 1 for the second; any other item gives none
abbrev pub choices : List ℕ → List Bool
choices [] = []
choices (i ∷ c) = cond (nat_lt i first_read) ((i == second_branch) ∷ choices c) (choices c)

-- the number that bits write after a, the highest bit first
abbrev pub number_from : ℕ → List Bool → ℕ
number_from a [] = a
number_from a (b ∷ bs) = number_from (2 * a + cond b 1 0) bs

-- the byte that begins with these bits, at most eight, and is filled with zeros
abbrev pub byte_of : List Bool → ℕ
byte_of bs = number_from 0 (bs ++ replicate (8 - length bs) false)

-- the last byte, if it has a bit
abbrev pub last_byte : List Bool → List ℕ
last_byte held = cond (length held == 0) [] (byte_of held ∷ [])

-- bits as bytes; `held` are the bits of the byte that is not full yet
abbrev pub packed_after : List Bool → List Bool → List ℕ
packed_after held [] = last_byte held
packed_after held (b ∷ bs) =
    cond (length held == 7) (byte_of (held ++ b ∷ []) ∷ packed_after [] bs) (packed_after (held ++ b ∷ []) bs)

-- bits as bytes, the first into the highest bit, the last byte filled with zeros
abbrev pub packed : List Bool → List ℕ
packed bs = packed_after [] bs
