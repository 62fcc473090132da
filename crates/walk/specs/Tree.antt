-- The tree of what is not shared yet: how many beginnings it has to hold. Assumes nothing.
use Rattle.std.specs.Prelude.{◌≡◌, ℕ, ◌+◌, ◌-◌, ◌⊎◌, ◌↔◌, List, [], ◌∷◌, ◌++◌, length, drop, ◌≢◌}
use Rattle.alphabet.specs.Meaning.{Meaning}
use Rattle.pattern.specs.declared.step.Step.{Step}
use Rattle.walk.specs.Codes.{Code, Begins, common}
use Rattle.walk.specs.Walks.{Live}
use Rattle.walk.specs.Search.{Reached}

-- t is one of the codes
abbrev pub Member : Code → List Code → Type 0
Member t [] = ⊥
Member t (c ∷ cs) = (t ≡ c) ⊎ Member t cs

-- no code stands twice
abbrev pub Once : List Code → Type 0
Once [] = Unit {0}
Once (c ∷ cs) = (Member c cs → ⊥) × Once cs

module _ {Symbol : Type 0} (L : Meaning Symbol) (at : ℕ → Step) (from : ℕ) where
  -- t is a non-empty beginning of a remainder: of what the code of a live walk has past s
  abbrev pub Node : List Symbol → Code → Code → Type 0
  Node w s t = (t ≢ []) × ((q : ℕ) × ((rest : Code) × Live L at from w q (s ++ rest) × Begins rest t))

  -- there are n different ones
  abbrev pub Counts : List Symbol → Code → ℕ → Type 0
  Counts w s n = (ts : List Code) × Once ts × ((t : Code) → Member t ts ↔ Node w s t) × (length ts ≡ n)

-- The same, computed from the remainders in the order of their walks: each adds what it does not share with the one before it.
abbrev pub tally : Code → List Code → ℕ
tally p [] = 0
tally p (c ∷ cs) = (length c - length (common p c)) + tally c cs

-- what the codes have past s
abbrev pub remainders : Code → List Reached → List Code
remainders s [] = []
remainders s (r ∷ rs) = drop (length s) r.code ∷ remainders s rs

-- the computed count of the tree past s
abbrev pub tree_count : Code → List Reached → ℕ
tree_count s rs = tally [] (remainders s rs)
