use Rattle.std.proofs.Common.{subst}
use Rattle.tree.specs.declared.table.Entry.{Entry}
use Rattle.tree.specs.Next.{Stands}
use Rattle.tree.proofs.Holding.{sound_of}
use Rattle.tree.proofs.Children.{root_uses, root_below, leads_root, leads_inner}
use Rattle.tree.proofs.paths.PathTree.next.Goals as goal

pub without_child-requires-clause-uses : goal.without_child-requires-clause-uses
without_child-requires-clause-uses c = let t = c.args.self.now in root_uses t.table (sound_of t) c.args.p c.requires c.if-p-self.true

pub without_child-requires-clause-below : goal.without_child-requires-clause-below
without_child-requires-clause-below c = let t = c.args.self.now in root_below t.table (sound_of t) c.args.p c.requires c.if-p-self.true

pub returns-then-p-self-clause-leads : goal.returns-then-p-self-clause-leads
returns-then-p-self-clause-leads c =
    let t = c.args.self.now in
    leads_root t.table (sound_of t) c.args.p c.requires c.if-p-self.true c.next.result
    (subst (λ (e : Entry). Stands e.uses e.below c.next.result) c.without_child.ensures c.next.ensures)

pub returns-clause-leads : goal.returns-clause-leads
returns-clause-leads c =
    let t = c.args.self.now in
    leads_inner t.table (sound_of t) c.args.p c.requires c.if-p-self.false c.next-2.result c.next-2.ensures
