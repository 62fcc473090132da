use Rattle.std.proofs.Common.{arith, below_more}
use Rattle.walk.specs.Graphs.{ReadsBelow, graph_of}
use Rattle.walk.proofs.PatternGraphs.{reads_here}
use Rattle.walk.proofs.grammar.Grammar.reads_below.Goals as goal

pub loop-point-init : goal.loop-point-init
loop-point-init g c q h = absurd (omega arith)

pub loop-point-preserved : goal.loop-point-preserved
loop-point-preserved g c =
    below_more (ReadsBelow c.args.count (graph_of c.args.self.now.pattern.now)) c.loop-point.point c.loop-point.invariant (c.reads_beyond.ensures.below c.if-reads_beyond.false)

pub returns-clause-below : goal.returns-clause-below
returns-clause-below g c _ q class k e =
    let h = reads_here c.args.self.now.pattern.now q class k e in
    (c.loop-point.invariant q (omega (arith, h, c.loop-point-test.false, c.count-point-end.ensures)) class k e).0

pub returns-clause-numbered : goal.returns-clause-numbered
returns-clause-numbered g c _ q class k e =
    let h = reads_here c.args.self.now.pattern.now q class k e in
    (c.loop-point.invariant q (omega (arith, h, c.loop-point-test.false, c.count-point-end.ensures)) class k e).1
