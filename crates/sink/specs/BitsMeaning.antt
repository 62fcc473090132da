-- What the sink of bits means: it packs the branches taken, the first into the highest bit of a byte. Assumes nothing.
use Rattle.std.specs.Prelude.{ℕ, Bool, false, cond, List, [], ◌∷◌, ◌++◌, length, ◌==◌, nat_le, nat_lt}
use Rattle.alphabet.specs.Items.{second_branch, first_read, end_mark}
use Rattle.alphabet.specs.Choices.{byte_of, last_byte}
use Rattle.sink.specs.Meaning.{Meaning, one_channel}

-- the bits of the unfilled byte, fewer than eight, or that the end mark has come
pub data BitsPosition : Type 0 where
  unfilled : List Bool → BitsPosition
  ended : BitsPosition

-- the bits with that of a branch
abbrev pub with_branch : List Bool → ℕ → List Bool
with_branch bs i = bs ++ (i == second_branch) ∷ []

-- anything up to the end mark is expected, and nothing after it has come
abbrev pub bits_expected : BitsPosition → ℕ → Bool
bits_expected (unfilled bs) i = nat_le i end_mark
bits_expected ended i = false

-- a branch adds its bit, and with the eighth the byte is full; the end mark ends; a read changes nothing
abbrev pub bits_next : BitsPosition → ℕ → BitsPosition
bits_next (unfilled bs) i =
    cond (nat_lt i first_read)
    (cond (length bs == 7) (unfilled []) (unfilled (with_branch bs i)))
    (cond (i == end_mark) ended (unfilled bs))
bits_next ended i = ended

-- a full byte goes to the stock; at the end mark an unfilled byte of one bit or more is filled with zeros and goes there too
abbrev pub bits_added : BitsPosition → ℕ → List ℕ
bits_added (unfilled bs) i =
    cond (nat_lt i first_read)
    (cond (length bs == 7) (byte_of (with_branch bs i) ∷ []) [])
    (cond (i == end_mark) (last_byte bs) [])
bits_added ended i = []

abbrev pub bits_meaning : Meaning
bits_meaning = one_channel BitsPosition bits_expected bits_next bits_added
