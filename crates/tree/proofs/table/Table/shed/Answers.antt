use Rattle.tree.proofs.Shedding.{shed_room, up_kept, parent_uses, parent_below, as_written}
use Rattle.tree.proofs.table.Table.shed.Goals as goal

pub vacate-p-requires-clause-room : goal.vacate-p-requires-clause-room
vacate-p-requires-clause-room c = shed_room c.requires

pub without_child-requires-clause-uses : goal.without_child-requires-clause-uses
without_child-requires-clause-uses c = rw (up_kept c.requires _ _ c.vacate-p.ensures.value c.vacate-p.ensures.after) (parent_uses c.requires)

pub without_child-requires-clause-below : goal.without_child-requires-clause-below
without_child-requires-clause-below c = rw (up_kept c.requires _ _ c.vacate-p.ensures.value c.vacate-p.ensures.after) (parent_below c.requires)

pub returns-clause-after : goal.returns-clause-after
returns-clause-after c = as_written c.requires _ _ _ c.vacate-p.ensures.value c.vacate-p.ensures.after c.without_child.ensures
