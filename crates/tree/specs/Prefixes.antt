-- How many different non-empty beginnings the held paths have.
use Rattle.std.specs.Prelude.{◌≡◌, ℕ, true, ◌≢◌, List, [], ◌∷◌, ◌++◌, length}
use mathlib.Core.List.{Memᴰ}
use Rattle.tree.specs.declared.table.Table.{Table}
use Rattle.tree.specs.Sound.{held_of, Up}

-- no list stands in it twice
abbrev pub Once : List (List ℕ) → Type 0
Once [] = Unit {0}
Once (x ∷ xs) = (Memᴰ x xs → ⊥) × Once xs

-- exactly n lists have P: they are listed, each once, and nothing else is
pub record Counts (P : List ℕ → Type 0) (n : ℕ) : Type 0 where
  pub each : List (List ℕ)
  pub once : Once each
  pub those : (xs : List ℕ) → Memᴰ xs each → P xs
  pub all : (xs : List ℕ) → P xs → Memᴰ xs each
  pub many : length each ≡ n

-- a non-empty beginning of the path of a held entry; paths are read from their far end here
pub record Beginning (t : Table) (xs : List ℕ) : Type 0 where
  pub some : xs ≢ []
  pub entry : ℕ
  pub rest : List ℕ
  pub held : held_of t entry ≡ true
  pub path : Up t entry (rest ++ xs)
