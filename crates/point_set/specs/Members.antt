-- Which points a set has. Assumes nothing.
use Rattle.std.specs.Prelude.{ℕ, Bool, List}
use Rattle.point_set.specs.Flags.{flags}
use Rattle.point_set.specs.declared.set.PointSet.{PointSet}

-- the numbers that a point may have: 0 to 255
abbrev pub point_count : ℕ
point_count = 256

-- a flag for each number: whether the point is in the set
abbrev pub members : PointSet → List Bool
members s = flags s.words
