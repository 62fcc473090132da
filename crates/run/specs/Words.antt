-- The words of walks, at the points of a pattern: from its entry, and to its end point. L is what the alphabet means. Assumes nothing.
use Rattle.std.specs.Prelude.{ℕ, List, ◌++◌, length}
use Rattle.alphabet.specs.Meaning.{Meaning}
use Rattle.pattern.specs.declared.pattern.Pattern.{Pattern}
use Rattle.pattern.specs.Patterns.{points_of, entry_of}
use Rattle.walk.specs.Codes.{Code}
use Rattle.walk.specs.Graphs.{graph_of, ClassesBelow, LacksClass}
use Rattle.walk.specs.Walks.{Live, Shared, Accepted, Greedy, Dead}
use Rattle.walk.specs.Tree.{Counts}

-- the number of its end point
abbrev pub end_of : Pattern → ℕ
end_of p = length (points_of p)

module _ {S : Type 0} (L : Meaning S) (p : Pattern) where
  -- every class of the pattern is one of the alphabet's
  abbrev pub Known : Type 0
  Known = ClassesBelow L.classes (graph_of p)

  -- some point of the pattern reads a class that the alphabet does not have
  abbrev pub Unknown : Type 0
  Unknown = LacksClass L.classes (graph_of p)

  -- the live walk over w that ends on the point q has the code c
  abbrev pub Lives : List S → ℕ → Code → Type 0
  Lives w q c = Live L (graph_of p) (entry_of p) w q c

  -- s is what the live walks of w share
  abbrev pub Shares : List S → Code → Type 0
  Shares w s = Shared L (graph_of p) (entry_of p) w s

  -- the tree of the live walks of w counts n: so many different beginnings there are of what their codes have past what they share
  abbrev pub TreeCounts : List S → ℕ → Type 0
  TreeCounts w n = (s : Code) × Shares w s × Counts L (graph_of p) (entry_of p) w s n

  -- the input w is accepted
  abbrev pub Accepts : List S → Type 0
  Accepts w = Accepted L (graph_of p) (entry_of p) (end_of p) w

  -- g is the greedy code of the input w, with the end mark
  abbrev pub CodesAs : List S → Code → Type 0
  CodesAs w g = Greedy L (graph_of p) (entry_of p) (end_of p) w g

  -- no accepted input begins with w
  abbrev pub Hopeless : List S → Type 0
  Hopeless w = Dead L (graph_of p) (entry_of p) (end_of p) w

  -- some accepted input begins with w
  abbrev pub Hopeful : List S → Type 0
  Hopeful w = ∥ ((u : List S) × Accepts (w ++ u)) ∥₁
