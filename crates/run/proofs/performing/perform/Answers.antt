use Rattle.std.proofs.Common.{ap, ◌∙◌}
use Rattle.run.proofs.Making.{reads_all, ends_closed, ends_open, all_as, closes_as}
use Rattle.run.proofs.performing.perform.Goals as goal

pub returns-then-finish : goal.returns-then-finish
returns-then-finish g c =
    let K = g.K.Sink.meaning in
    let L = g.A.Alphabet.meaning c.args.alphabet.now in
    let q = c.args.pattern.now in
    let o = c.open-run.ensures in
    let m = c.make_all.ensures in
    reads_all L q K _ _ _ _ _ _ _ _ _ _ _ _ _ _ o.opens (all_as K (ap g.A.Alphabet.meaning o.alphabet) o.pattern _ _ _ _ _ _ _ _ _ m.makes)
    (ends_closed L q K _ _ _ _ _ c.if-finish.true (closes_as K (ap g.A.Alphabet.meaning (m.alphabet ∙ o.alphabet)) (m.pattern ∙ o.pattern) _ _ _ _ c.finish.ensures.closes))

pub returns-else-finish : goal.returns-else-finish
returns-else-finish g c =
    let K = g.K.Sink.meaning in
    let L = g.A.Alphabet.meaning c.args.alphabet.now in
    let q = c.args.pattern.now in
    let o = c.open-run.ensures in
    let m = c.make_all.ensures in
    reads_all L q K _ _ _ _ _ _ _ _ _ _ _ _ _ _ o.opens (all_as K (ap g.A.Alphabet.meaning o.alphabet) o.pattern _ _ _ _ _ _ _ _ _ m.makes)
    (ends_open L q K _ _ _ c.if-finish.false)
