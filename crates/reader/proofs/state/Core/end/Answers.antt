use Rattle.std.proofs.Common.{◌+◌, [], drop, refl, sym, ap, subst, ◌∙◌, arith}
use Rattle.std.proofs.lemmas.List.{drop_all}
use Rattle.walk.proofs.Order.{never_both}
use Rattle.tree.specs.declared.paths.PathTree.{PathTree}
use Rattle.tree.specs.Held.{room}
use Rattle.tree.proofs.Holding.{room_bound}
use Rattle.reader.specs.Calls.{held_in}
use Rattle.reader.specs.Seen.{every}
use Rattle.std.specs.Prelude.{is_some, not}
use Rattle.reader.proofs.Basics.{found_on, missed}
use Rattle.reader.proofs.Ending.{Picking, picking_first, to_next, kept_on, passed_on, next_held, ends_no, ends_yes}
use Rattle.reader.proofs.state.Core.end.Goals as goal
use Rattle.reader.proofs.state.Core.end.Goals.{then-walk-end, else-walk-end}

pub returns-then-is_none-clause-ends : goal.returns-then-is_none-clause-ends
returns-then-is_none-clause-ends g c = ends_no (g.A.Alphabet.meaning c.args.grammar.now.alphabet.now) c.args.grammar.now.pattern.now c.args.self.now c.count-end.result c.count-end.ensures (missed c.count-end.result c.args.self.now.live.items (ap is_some (sym c.walk_to.ensures) ∙ (c.is_none.ensures ∙ ap not c.if-is_none.true))) []

pub returns-then-is_none-clause-seen : goal.returns-then-is_none-clause-seen
returns-then-is_none-clause-seen g c = ends_no every c.args.grammar.now.pattern.now c.args.self.now c.count-end.result c.count-end.ensures (missed c.count-end.result c.args.self.now.live.items (ap is_some (sym c.walk_to.ensures) ∙ (c.is_none.ensures ∙ ap not c.if-is_none.true))) []

pub loop-walk-init : goal.loop-walk-init
loop-walk-init g c = record { picks = λ ls S. picking_first c.deref-walk-items.ensures.0 S; space = c.requires.space }

pub dismiss-requires : goal.dismiss-requires
dismiss-requires g c = next_held (to_next c.deref-walk-items.result.now c.loop-walk.walk-index (record { point = 0; slot = 0 }) c.loop-walk-test.true (c.loop-walk.invariant.picks c.requires.walks c.requires.standing))

pub loop-walk-preserved : goal.loop-walk-preserved
loop-walk-preserved g c = record {
  picks = λ ls S.
      let P = to_next c.deref-walk-items.result.now c.loop-walk.walk-index (record { point = 0; slot = 0 }) c.loop-walk-test.true (c.loop-walk.invariant.picks ls S) in
      elim c.if-walk-end.branch [
        | then-walk-end w ↦ subst (λ (t : PathTree). Picking c.count-end.result t (drop (c.loop-walk.walk-index + 1) c.deref-walk-items.result.now) ls) (sym w.tree-is) (passed_on P w.if-walk-end.true w.dismiss.ensures)
        | else-walk-end w ↦ subst (λ (t : PathTree). Picking c.count-end.result t (drop (c.loop-walk.walk-index + 1) c.deref-walk-items.result.now) ls) (sym w.tree-is) (kept_on P w.if-walk-end.false)
      ];
  space = elim c.if-walk-end.branch [
    | then-walk-end w ↦ let e = ap room w.tree-is in let m = w.dismiss.ensures.left in omega (arith, e, m, c.loop-walk.invariant.space)
    | else-walk-end w ↦ let e = ap room w.tree-is in omega (arith, e, c.loop-walk.invariant.space)
  ];
}

pub returns : goal.returns
returns g c =
    let over = drop_all c.loop-walk.walk-index c.deref-walk-items.result.now (omega arith) in
    let on = found_on c.count-end.result c.args.self.now.live.items (ap is_some (sym c.walk_to.ensures) ∙ (c.is_none.ensures ∙ ap not c.if-is_none.false)) in
    record {
      none = λ e. absurd (never_both refl e);
      few = let b = room_bound c.gather.new.tree in omega (arith, b, c.gather.ensures.came, c.loop-walk.invariant.space);
      ends = ends_yes (g.A.Alphabet.meaning c.args.grammar.now.alphabet.now) c.args.grammar.now.pattern.now c.args.self.now c.count-end.result c.count-end.ensures c.loop-walk.tree (drop c.loop-walk.walk-index c.deref-walk-items.result.now) over c.loop-walk.invariant.picks on (held_in c.gather.new.self) c.gather.new.tree c.gather.ensures.all c.gather.ensures.parted;
      seen = ends_yes every c.args.grammar.now.pattern.now c.args.self.now c.count-end.result c.count-end.ensures c.loop-walk.tree (drop c.loop-walk.walk-index c.deref-walk-items.result.now) over c.loop-walk.invariant.picks on (held_in c.gather.new.self) c.gather.new.tree c.gather.ensures.all c.gather.ensures.parted;
    }
