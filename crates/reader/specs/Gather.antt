-- What all held paths share, taken off them. Assumes nothing.
use Rattle.std.specs.Prelude.{◌≡◌, ℕ, ◌≤◌, ◌++◌}
use Rattle.walk.specs.Codes.{Code}
use Rattle.tree.specs.declared.paths.PathTree.{PathTree}
use Rattle.tree.specs.Held.{Held, Shares, room}

-- every held path began with xs, which is taken off
pub record Gathered (t : PathTree) (xs : Code) (t' : PathTree) : Type 0 where
  pub more : room t ≤ room t'
  pub began : (i : ℕ) (zs : Code) → Held t i zs → (ys : Code) × (zs ≡ xs ++ ys) × Held t' i ys
  pub only : (i : ℕ) (ys : Code) → Held t' i ys → Held t i (xs ++ ys)

-- the held paths share no first item
abbrev pub Parted : PathTree → Type 0
Parted t = (x : ℕ) → Shares t x → ⊥
