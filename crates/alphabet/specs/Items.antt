-- The items that the code of a walk lists, as numbers: a branch taken, a symbol read, or the mark at the end of a greedy code.
use Rattle.std.specs.Prelude.{ℕ, ◌+◌}
use Rattle.alphabet.specs.Bounds.{largest_number}

-- the first branch of a choice or star was taken
abbrev pub first_branch : ℕ
first_branch = 0

-- the second branch was taken
abbrev pub second_branch : ℕ
second_branch = 1

-- the item for reading the symbol whose number is v
abbrev pub read_item : ℕ → ℕ
read_item v = 2 + v

-- the least item that a read can have
abbrev pub first_read : ℕ
first_read = read_item 0

-- the greatest item that a read can have, 65,537
abbrev pub last_read : ℕ
last_read = read_item largest_number

-- the mark at the end of a greedy code, 65,538: the item after the last read item
abbrev pub end_mark : ℕ
end_mark = 1 + last_read
