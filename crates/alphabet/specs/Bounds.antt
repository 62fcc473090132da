-- The bounds of relay events and of the numbers of symbols. They stand here once: all else is written in terms of them.
use Rattle.std.specs.Prelude.{ℕ, ◌+◌, ◌-◌, ◌*◌, ℤ, pos, neg_ℤ}

-- the last kind of a relay event, 15: kinds run from 0
abbrev pub last_kind : ℕ
last_kind = 15

-- how many kinds there are, 16
abbrev pub kind_count : ℕ
kind_count = last_kind + 1

-- what is added to a value so that the least becomes 0
abbrev pub offset : ℕ
offset = 2048

-- how many values a kind may have
abbrev pub values_per_kind : ℕ
values_per_kind = 4096

-- the least value of a relay event, -2,048
abbrev pub least_value : ℤ
least_value = neg_ℤ (pos offset)

-- the greatest value of a relay event, 2,047
abbrev pub greatest_value : ℤ
greatest_value = pos (values_per_kind - offset - 1)

-- the largest number that a symbol may have, 65,535: that of the last kind with the greatest value
abbrev pub largest_number : ℕ
largest_number = last_kind * values_per_kind + (values_per_kind - 1)
