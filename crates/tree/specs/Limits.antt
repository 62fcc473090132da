-- How many items a tree has room for. The code has the same numbers in src/limits.rt.
use Rattle.std.specs.Prelude.{ℕ, ◌+◌}

-- what a tree may count between two steps of a run
abbrev pub countable : ℕ
countable = 2048

-- what one step adds at most before it frees: branch items
abbrev pub step_branches : ℕ
step_branches = 512

-- and read items
abbrev pub step_reads : ℕ
step_reads = 256

-- all of these stand in the tree at once
abbrev pub capacity : ℕ
capacity = countable + step_branches + step_reads

-- slot 0, which is never used, and the root's
abbrev pub reserved : ℕ
reserved = 2

abbrev pub slot_count : ℕ
slot_count = capacity + reserved

-- in how many ways held paths may go on after one of them
abbrev pub ways : ℕ
ways = 2

-- the slot that holds the empty path of a new tree
abbrev pub first_slot : ℕ
first_slot = 1
