-- Codes, which of two is earlier, and what they begin with. Assumes nothing.
use Rattle.std.specs.Prelude.{◌≡◌, ℕ, Bool, true, false, ◌⊎◌, List, [], ◌∷◌, ◌++◌, ◌==◌}
use Rattle.alphabet.specs.Items.{first_branch, second_branch}

-- a list of items: a branch taken or a symbol read, in the order of the walk
abbrev pub Code : Type 0
Code = List ℕ

-- c is earlier than d: where they part, c takes the first branch and d the second
abbrev pub Earlier : Code → Code → Type 0
Earlier [] d = ⊥
Earlier (x ∷ c) [] = ⊥
Earlier (x ∷ c) (y ∷ d) = ((x ≡ first_branch) × (y ≡ second_branch)) ⊎ ((x ≡ y) × Earlier c d)

-- c begins with s
abbrev pub Begins : Code → Code → Type 0
Begins c s = (rest : Code) × (c ≡ s ++ rest)

-- x and then r, if the first items are the same
abbrev pub common_cons : Bool → ℕ → Code → Code
common_cons true x r = x ∷ r
common_cons false x r = []

-- the longest beginning that two codes share
abbrev pub common : Code → Code → Code
common [] d = []
common (x ∷ c) [] = []
common (x ∷ c) (y ∷ d) = common_cons (x == y) x (common c d)
