use Rattle.std.proofs.Common.{ℕ, ◌<◌}
use Rattle.walk.specs.Graphs.{ReadsBelow, graph_of}
use Rattle.walk.proofs.grammar.Grammar.reads_below.Given as goal

-- each point so far reads a class below the count
abbrev pub invariant-loop-point : goal.invariant-loop-point
invariant-loop-point g l = (q : ℕ) → q < l.point → ReadsBelow l.count (graph_of l.self.pattern.now) q
