use Rattle.reader.specs.Marks.{unmarked}
use Rattle.reader.proofs.state.traversal.Traversal.+spread.Given as goal

abbrev pub decreases-spread : goal.decreases-spread
decreases-spread l = unmarked l.self.now.marks
