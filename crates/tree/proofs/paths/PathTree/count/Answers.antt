use Rattle.tree.proofs.Holding.{counted_starts}
use Rattle.tree.proofs.paths.PathTree.count.Goals as goal

pub returns-clause-counts : goal.returns-clause-counts
returns-clause-counts c = counted_starts c.args.self.now c.remaining_capacity.result c.remaining_capacity.ensures
