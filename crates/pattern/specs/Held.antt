-- The lists in which a draft holds the expressions that stand together. Assumes nothing.
use Rattle.std.specs.Prelude.{◌≡◌, ℕ, ◌+◌, ◌≤◌, List, [], ◌∷◌, ◌++◌, length}
use Rattle.pattern.specs.declared.point.Point.{Point}
use Rattle.pattern.specs.declared.pattern.draft.Part.{Part}
use Rattle.pattern.specs.Limits.{most_points, most_text, most_standing}
use Rattle.pattern.specs.Expressions.{Expr, standing}
use Rattle.pattern.specs.Points.{table, entry, open_end}
use Rattle.pattern.specs.Files.{total, bytes}

-- the points of the expressions, each with an open follower
abbrev pub laid : List Expr → List Point
laid [] = []
laid (e ∷ es) = laid es ++ table e (total es) open_end (length (bytes es))

-- for each expression its first point's number and its entry
abbrev pub spot : Expr → List Expr → Part
spot e es = record { start = total es; entry = entry e (total es) open_end }

abbrev pub parts : List Expr → List Part
parts [] = []
parts (e ∷ es) = parts es ++ spot e es ∷ []

-- no more stood together than may
abbrev pub Stood : List Expr → Type 0
Stood [] = Unit {0}
Stood (e ∷ es) = (length es + standing e ≤ most_standing) × Stood es

-- these points, text bytes and parts are those of the expressions es, which are within the limits
pub record Hold (ps : List Point) (ts : List ℕ) (qs : List Part) (es : List Expr) : Type 0 where
  pub points : ps ≡ laid es
  pub few : total es ≤ most_points
  pub text : ts ≡ bytes es
  pub little : length (bytes es) ≤ most_text
  pub parts : qs ≡ parts es
  pub low : length es ≤ most_standing
  pub stood : Stood es
