-- Marks as a set of points. Assumes nothing.
use Rattle.std.specs.Prelude.{ℕ, ◌+◌, Bool, false, cond, List, [], ◌∷◌, slice_index_or}
use Rattle.point_set.specs.declared.set.PointSet.{PointSet}
use Rattle.point_set.specs.Members.{members}
use Rattle.walk.specs.Graphs.{Points}

-- the set of the marked points
abbrev pub marked : PointSet → Points
marked m k = slice_index_or (members m) k false

-- how many flags are not set
unfoldable pub unset : List Bool → ℕ
unset [] = 0
unset (b ∷ bs) = cond b 0 1 + unset bs

-- how many points are not marked
abbrev pub unmarked : PointSet → ℕ
unmarked m = unset (members m)
