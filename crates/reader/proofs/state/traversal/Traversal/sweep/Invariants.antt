use Rattle.std.proofs.Common.{List, drop}
use Rattle.walk.specs.Search.{Reached}
use Rattle.reader.specs.State.{Standing}
use Rattle.reader.specs.Sweeping.{Partway}
use Rattle.reader.proofs.state.traversal.Traversal.sweep.Given as goal

abbrev pub invariant-loop-walk : goal.invariant-loop-walk
invariant-loop-walk g l = (ls : List Reached) → Standing l.initial.self.tree l.live.items ls → Partway (g.A.Alphabet.meaning l.grammar.alphabet.now) l.symbol l.grammar.pattern.now l.self (drop l.walk-index l.walk-items) ls
