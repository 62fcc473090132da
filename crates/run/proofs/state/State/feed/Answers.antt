use Rattle.std.proofs.Common.{map, sym, refl, ap, ◌∙◌, arith, take_all}
use Rattle.std.proofs.lemmas.Result.{err_from_is_err_and}
use Rattle.reader.specs.Seen.{see, every}
use Rattle.run.proofs.Steps.{told_err}
use Rattle.run.proofs.Feeds.{feeds_none, feeds_failed, feeds_whole, feeds_as, turn, stopped, whole, front_more, front_mapped, cut_at, cut_mapped, told_back, told_none, told_since, feeds_seen}
use Rattle.run.proofs.state.State.feed.Goals as goal

pub returns-in-Some : goal.returns-in-Some
returns-in-Some g c =
    let K = g.K.Sink.meaning in
    record { pattern = refl; alphabet = refl; feeds = feeds_failed _ _ K _ _ _ _ c.in-Some.is; seen = feeds_failed _ _ K _ _ _ _ c.in-Some.is }

pub loop-symbol-init : goal.loop-symbol-init
loop-symbol-init g c = let K = g.K.Sink.meaning in (refl, refl, c.in_default.is, omega arith, feeds_none _ _ K _ _, feeds_none _ _ K _ _)

pub returns-in_err-step : goal.returns-in_err-step
returns-in_err-step g c =
    let K = g.K.Sink.meaning in
    let a = c.args.self.now.reader.grammar.alphabet.now in
    let L = g.A.Alphabet.meaning a in
    let q = c.args.self.now.reader.grammar.pattern.now in
    let v = c.loop-symbol.invariant in
    let p = err_from_is_err_and c.from_residual.result c.from_residual.ensures.1 in
    let ef = told_back _ _ tt (sym c.in_err-step.was ∙ c.step.ensures.answer) in
    let me = ap g.A.Alphabet.meaning v.1 in
    record {
      pattern = c.step.ensures.pattern ∙ v.0;
      alphabet = c.step.ensures.alphabet ∙ v.1;
      feeds =
          feeds_whole L q K _ _ _ _ _ _
          (stopped L q K _ _ _ _ _ _ _ _ _ _ _ (cut_at _ _ _ c.loop-symbol-test.true c.symbol-item.is) v.4 v.2 (feeds_as K _ _ _ _ _ me v.0 c.step.ensures.feeds) ef)
          c.in_default.is
          (p.1 ∙ told_err _ _ _ _ p.2 ef);
      seen =
          feeds_whole every q K _ _ _ _ _ _
          (stopped every q K _ _ _ _ _ _ _ _ _ _ _ (cut_mapped _ _ _ c.loop-symbol-test.true c.symbol-item.is (see L)) v.5 v.2 (feeds_seen K _ _ _ _ _ me v.0 c.step.ensures.seen) ef)
          c.in_default.is
          (p.1 ∙ told_err _ _ _ _ p.2 ef);
    }

pub loop-symbol-preserved : goal.loop-symbol-preserved
loop-symbol-preserved g c =
    let K = g.K.Sink.meaning in
    let a = c.args.self.now.reader.grammar.alphabet.now in
    let L = g.A.Alphabet.meaning a in
    let q = c.args.self.now.reader.grammar.pattern.now in
    let v = c.loop-symbol.invariant in
    let dn = told_none _ _ tt (sym c.in_ok-step.was ∙ c.step.ensures.answer) in
    let me = ap g.A.Alphabet.meaning v.1 in (
      c.step.ensures.pattern ∙ v.0,
      c.step.ensures.alphabet ∙ v.1,
      dn,
      omega (arith, c.step.ensures.more, v.3),
      turn L q K _ _ _ _ _ _ _ _ _ (front_more _ _ _ c.loop-symbol-test.true c.symbol-item.is) v.4 v.2 (feeds_as K _ _ _ _ _ me v.0 c.step.ensures.feeds),
      turn every q K _ _ _ _ _ _ _ _ _ (front_mapped _ _ _ c.loop-symbol-test.true c.symbol-item.is (see L)) v.5 v.2 (feeds_seen K _ _ _ _ _ me v.0 c.step.ensures.seen),
    )

pub returns : goal.returns
returns g c =
    let K = g.K.Sink.meaning in
    let a = c.args.self.now.reader.grammar.alphabet.now in
    let L = g.A.Alphabet.meaning a in
    let q = c.args.self.now.reader.grammar.pattern.now in
    let v = c.loop-symbol.invariant in
    let all = take_all c.loop-symbol.symbol-index c.args.piece.now c.loop-symbol-test.false in
    record {
      pattern = v.0;
      alphabet = v.1;
      feeds = feeds_whole L q K _ _ _ _ _ _ (whole L q K _ _ _ _ _ _ all v.4) c.in_default.is (told_since _ _ _ v.2 c.since.ensures);
      seen = feeds_whole every q K _ _ _ _ _ _ (whole every q K _ _ _ _ _ _ (ap (map (see L)) all) v.5) c.in_default.is (told_since _ _ _ v.2 c.since.ensures);
    }
