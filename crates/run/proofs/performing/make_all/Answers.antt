use Rattle.std.proofs.Common.{◌≡◌, set, sym, refl, ap, ◌∙◌, take_all}
use lib.Seq.{set_out}
use Rattle.run.proofs.Making.{makes_none, makes_next, makes_whole}
use Rattle.run.proofs.performing.make_all.Goals as goal
use Rattle.run.proofs.performing.make_all.Goals.{then-i-log, else-i-log}

pub loop-i-init : goal.loop-i-init
loop-i-init g c = (refl, refl, makes_none _ _ g.K.Sink.meaning _ _ _ _)

pub loop-i-preserved : goal.loop-i-preserved
loop-i-preserved g c =
    let v = c.loop-i.invariant in
    let lg : c.if-i-log.log ≡ set c.loop-i.log c.loop-i.i c.make-answer.result =
    elim c.if-i-log.branch [ then-i-log w ↦ w.log-is | else-i-log w ↦ w.log-is ∙ sym (set_out _ _ _ w.if-i-log.false) ] in (
      c.make-answer.ensures.pattern ∙ v.0,
      c.make-answer.ensures.alphabet ∙ v.1,
      makes_next g.K.Sink.meaning (ap g.A.Alphabet.meaning v.1) v.0 _ _ _ _ _ _ _ _ _ _ _ _ _ _ _ _ c.index-calls-i.is c.loop-i-test.true v.2 c.make-answer.ensures.makes lg,
    )

pub returns : goal.returns
returns g c =
    let v = c.loop-i.invariant in
    record {
      pattern = v.0;
      alphabet = v.1;
      makes = makes_whole _ _ g.K.Sink.meaning _ _ _ _ _ _ _ _ _ _ (take_all c.loop-i.i c.args.calls.now c.loop-i-test.false) v.2;
    }
