use Rattle.tree.proofs.Start.{started_as}
use Rattle.tree.proofs.Holding.{fresh_new}
use Rattle.tree.proofs.paths.PathTree.new.Goals as goal

pub invariant_of-result : goal.invariant_of-result
invariant_of-result c =
    record { sound = ∣ (started_as c.default-entries.result c.default.result c.with_child.result c.spares.result.items c.spares.ensures.size c.spares.ensures.slots c.default-entries.ensures c.default.ensures c.with_child.ensures).sound ∣₁ }

pub returns : goal.returns
returns c =
    fresh_new _ (started_as c.default-entries.result c.default.result c.with_child.result c.spares.result.items c.spares.ensures.size c.spares.ensures.slots c.default-entries.ensures c.default.ensures c.with_child.ensures)
