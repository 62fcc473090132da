-- A set as a list of flags, and the words that hold it. Assumes nothing.
use Rattle.std.specs.Prelude.{ℕ, zero, suc, ◌+◌, ◌/◌, ◌%◌, Bool, cond, List, [], ◌∷◌, ◌++◌, ◌==◌}

-- the k lowest binary digits of n, lowest first
unfoldable pub digits : ℕ → ℕ → List Bool
digits zero n = []
digits (suc k) n = (n % 2 == 1) ∷ digits k (n / 2)

-- the flags of the points from 0 on: 64 in each word, the lowest digit first
unfoldable pub flags : List ℕ → List Bool
flags [] = []
flags (w ∷ ws) = digits 64 w ++ flags ws

-- how many flags are set
abbrev pub tally : List Bool → ℕ
tally [] = 0
tally (b ∷ bs) = cond b 1 0 + tally bs
