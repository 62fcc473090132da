-- The way past the texts of a pattern. Assumes nothing.
-- A text goes on to a point of a larger number, so that one look at the points in their order finds the whole way.
use Rattle.std.specs.Prelude.{ℕ, suc, cond, List, [], ◌∷◌, ◌++◌, Some, None, Option, ◌==◌}
use Rattle.pattern.specs.declared.point.Point.{Point}
use Rattle.pattern.specs.declared.point.Point.TheVariants.{Read, Text, Choice, Star}
use Rattle.pattern.specs.Patterns.{own_bytes}

-- where one who stands at point k stands after point i was looked at: at a text one goes on to the next point
abbrev pub onward : ℕ → Point → ℕ → ℕ
onward i (Read keep class next) k = k
onward i (Text start len next) k = cond (i == k) next k
onward i (Choice a b) k = k
onward i (Star a b) k = k

-- the same after all points of a list; i is the number of the first
abbrev pub settled_from : ℕ → List Point → ℕ → ℕ
settled_from i [] k = k
settled_from i (p ∷ ps) k = settled_from (suc i) ps (onward i p k)

-- the bytes of the texts on the way
abbrev pub passed_from : List ℕ → ℕ → List Point → ℕ → List ℕ
passed_from ts i [] k = []
passed_from ts i (p ∷ ps) k = cond (i == k) (own_bytes ts p) [] ++ passed_from ts (suc i) ps (onward i p k)

-- the first point from k on that is no text, and the bytes of the texts before it; ts are all text bytes of the pattern
abbrev pub settled : List Point → ℕ → ℕ
settled ps k = settled_from 0 ps k

abbrev pub passed : List Point → List ℕ → ℕ → List ℕ
passed ps ts k = passed_from ts 0 ps k

-- a point, or the end point, is no text
abbrev pub NoText : Option Point → Type 0
NoText None = Unit {0}
NoText (Some (Read keep class next)) = Unit {0}
NoText (Some (Text start len next)) = ⊥
NoText (Some (Choice a b)) = Unit {0}
NoText (Some (Star a b)) = Unit {0}
