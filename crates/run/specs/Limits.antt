-- The limits of a run. Assumes nothing.
use Rattle.std.specs.Prelude.{ℕ}
use Rattle.tree.specs.Limits.{countable}

-- how many symbols a run may read; the code has the same number in src/limits.rt
abbrev pub length_limit : ℕ
length_limit = 4294967295

-- what the tree of a run may count, 2,048
abbrev pub tree_limit : ℕ
tree_limit = countable
