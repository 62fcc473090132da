use Rattle.std.proofs.Common.{arith}
use Rattle.std.proofs.lemmas.List.{drop_all}
use Rattle.reader.proofs.Sweeping.{begun, to_next, swept}
use Rattle.reader.proofs.state.traversal.Traversal.sweep.Goals as goal

pub loop-walk-init : goal.loop-walk-init
loop-walk-init g c ls S = begun (g.A.Alphabet.meaning c.args.grammar.now.alphabet.now) c.args.symbol.now c.args.grammar.now.pattern.now c.clear.ensures c.clear-2.ensures c.deref-walk-items.ensures.0 c.deref-walk-items.ensures.1 c.requires.space S

pub step-requires : goal.step-requires
step-requires g c = (_, (_, to_next (g.A.Alphabet.meaning c.args.grammar.now.alphabet.now) c.args.symbol.now c.args.grammar.now.pattern.now c.deref-walk-items.result.now c.loop-walk.walk-index (record { point = 0; slot = 0 }) c.loop-walk-test.true (c.loop-walk.invariant c.requires.walks c.requires.standing)))

pub returns : goal.returns
returns g c ls S = swept (g.A.Alphabet.meaning c.args.grammar.now.alphabet.now) c.args.symbol.now c.args.grammar.now.pattern.now (drop_all c.loop-walk.walk-index c.deref-walk-items.result.now (omega arith)) (c.loop-walk.invariant ls S)
