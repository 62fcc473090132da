-- The limits of patterns and their files. Assumes nothing.
use Rattle.std.specs.Prelude.{ℕ}

-- points of a pattern besides its end point
abbrev pub most_points : ℕ
most_points = 255

-- bytes of all texts of a pattern
abbrev pub most_text : ℕ
most_text = 1024

-- expressions that stand together while a file is read
abbrev pub most_standing : ℕ
most_standing = 64

-- bytes of a pattern file
abbrev pub most_file : ℕ
most_file = 8192

-- the largest number that a pattern file may hold
abbrev pub largest_number : ℕ
largest_number = 65535
