-- A pattern as a walk sees it, its graph: points with numbers, and at each point what a walk may do there. Assumes nothing.
use Rattle.std.specs.Prelude.{◌≡◌, ℕ, ◌+◌, ◌<◌, ◌≤◌, Bool, true, false, ◌==◌}
use Rattle.pattern.specs.Expressions.{Expr}
use Rattle.pattern.specs.Limits.{largest_number}
use Rattle.pattern.specs.Points.{points, step_at}
use Rattle.pattern.specs.Patterns.{points_of}
use Rattle.pattern.specs.declared.pattern.Pattern.{Pattern}
use Rattle.pattern.specs.declared.step.Step.{Step}
use Rattle.pattern.specs.declared.step.Step.TheVariants.{Read, Pass, Fork, End}

-- the graph of an expression: its points, numbered from 0, then the end point, whose number is the size of the expression
abbrev pub steps : Expr → ℕ → Step
steps e i = step_at (points e) i

-- the graph of a pattern
abbrev pub graph_of : Pattern → ℕ → Step
graph_of p = step_at (points_of p)

-- whether a walk may end on a point: on a read point and on the end point
abbrev pub rests : Step → Bool
rests (Read class k) = true
rests (Pass k) = false
rests (Fork a b) = false
rests End = true

-- whether a point is a read point
abbrev pub is_read : Step → Bool
is_read (Read class k) = true
is_read (Pass k) = false
is_read (Fork a b) = false
is_read End = false

-- every class that a point of the graph reads is below the count
abbrev pub ClassesBelow : ℕ → (ℕ → Step) → Type 0
ClassesBelow count at = (p class k : ℕ) → at p ≡ Read class k → class < count

-- some point of the graph reads a class at or above the count
abbrev pub LacksClass : ℕ → (ℕ → Step) → Type 0
LacksClass count at = (p class k : ℕ) × (at p ≡ Read class k) × (count ≤ class)

-- a class that the point p of the graph reads is below the count, and one that a pattern file can name
abbrev pub ReadsBelow : ℕ → (ℕ → Step) → ℕ → Type 0
ReadsBelow count at p = (class k : ℕ) → at p ≡ Read class k → (class < count) × (class < largest_number + 1)

-- a set of points: which points are in it
abbrev pub Points : Type 0
Points = ℕ → Bool

-- the empty set
abbrev pub none : Points
none k = false

-- the set with one point more
unfoldable pub add : ℕ → Points → Points
add p marks k = elim (k == p) [ true ↦ true | false ↦ marks k ]
