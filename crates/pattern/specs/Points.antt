-- The points of an expression, numbered in the order of its file. Assumes nothing.
use Rattle.std.specs.Prelude.{◌≡◌, ℕ, ◌+◌, ◌≤◌, cond, List, [], ◌∷◌, ◌++◌, length, Some, None, Option, ◌==◌}
use Rattle.std.specs.List.{slice_get}
use Rattle.pattern.specs.declared.point.Point.{Point}
use Rattle.pattern.specs.declared.point.Point.TheVariants.{Read, Text, Choice, Star}
use Rattle.pattern.specs.declared.step.Step.{Step}
use Rattle.pattern.specs.declared.step.Step.TheVariants as step
use Rattle.pattern.specs.Limits.{most_points, most_text, most_standing}
use Rattle.pattern.specs.Expressions.{Expr, empty, read, text, seq, alt, star, size, texts, standing}

-- Where an expression is entered whose points are numbered from b on; k is its follower, the point that comes after it.
abbrev pub entry : Expr → ℕ → ℕ → ℕ
entry empty b k = k
entry (read keep class) b k = b
entry (text bs) b k = b
entry (seq e f) b k = entry e b (entry f (b + size e) k)
entry (alt e f) b k = b + (size e + size f)
entry (star e) b k = b + size e

-- Its points; t is where its texts begin among the text bytes.
abbrev pub table : Expr → ℕ → ℕ → ℕ → List Point
table empty b k t = []
table (read keep class) b k t = Read keep class k ∷ []
table (text bs) b k t = Text t (length bs) k ∷ []
table (seq e f) b k t = table e b (entry f (b + size e) k) t ++ table f (b + size e) k (t + length (texts e))
table (alt e f) b k t =
    (table e b k t ++ table f (b + size e) k (t + length (texts e)))
    ++ Choice (entry e b k) (entry f (b + size e) k) ∷ []
table (star e) b k t = table e b (b + size e) t ++ Star (entry e b (b + size e)) k ∷ []

-- the points of a whole expression, whose follower is the end point, and its entry
abbrev pub points : Expr → List Point
points e = table e 0 (size e) 0

abbrev pub start : Expr → ℕ
start e = entry e 0 (size e)

-- a follower that is not known yet stands as this number, which no point has
abbrev pub open_end : ℕ
open_end = most_points

abbrev pub known : ℕ → ℕ → ℕ
known k to = cond (to == open_end) k to

abbrev pub fill : ℕ → Point → Point
fill k (Read keep class to) = Read keep class (known k to)
fill k (Text start len to) = Text start len (known k to)
fill k (Choice a b) = Choice (known k a) (known k b)
fill k (Star a b) = Star (known k a) (known k b)

-- these points, text bytes and entry are those of an expression within the limits
pub record ComesFrom (ps : List Point) (ts : List ℕ) (at : ℕ) (e : Expr) : Type 0 where
  pub points : ps ≡ points e
  pub text : ts ≡ texts e
  pub entry : at ≡ start e
  pub few : size e ≤ most_points
  pub little : length (texts e) ≤ most_text
  pub low : standing e ≤ most_standing

-- what a point is to a walk; past the last point stands the end point
abbrev pub step_of : Option Point → Step
step_of None = step.End
step_of (Some (Read keep class k)) = step.Read class k
step_of (Some (Text start len k)) = step.Pass k
step_of (Some (Choice a b)) = step.Fork a b
step_of (Some (Star a b)) = step.Fork a b

abbrev pub step_at : List Point → ℕ → Step
step_at ps i = step_of (slice_get ps i)
