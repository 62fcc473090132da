use Rattle.std.proofs.Common.{Some, refl, ap, ◌∙◌, arith}
use Rattle.reader.specs.Seen.{every}
use Rattle.run.specs.Stages.{fault_at}
use Rattle.run.proofs.Steps.{at_limit, stopped_by, symbol_read, told_err, told_fault}
use Rattle.run.proofs.Kept.{every_inhabited}
use Rattle.run.proofs.Handing.{gives_as}
use Rattle.run.proofs.state.State.step.Goals as goal

pub returns-then-full : goal.returns-then-full
returns-then-full g c =
    let K = g.K.Sink.meaning in
    let L = g.A.Alphabet.meaning c.args.self.now.reader.grammar.alphabet.now in
    let n = c.refuse.ensures.noted in
    record {
      pattern = refl;
      alphabet = refl;
      answer = told_err _ _ _ tt c.refuse.ensures.value n.fault;
      more = omega (arith, n.handed);
      feeds = at_limit L _ K _ _ _ _ n.read n.handed n.fault (c.full.ensures.reached c.if-full.true);
      seen = at_limit every _ K _ _ _ _ n.read n.handed n.fault (c.full.ensures.reached c.if-full.true);
    }

pub returns-in-Err : goal.returns-in-Err
returns-in-Err g c =
    let K = g.K.Sink.meaning in
    let a = c.args.self.now.reader.grammar.alphabet.now in
    let L = g.A.Alphabet.meaning a in
    let n = c.refuse-in-Err.ensures.noted in
    let f = n.fault ∙ ap (λ k. Some (fault_at k c.args.self.now.book.read)) c.into.ensures in
    let few = c.full.ensures.below c.if-full.false in
    record {
      pattern = c.read.ensures.pattern;
      alphabet = c.read.ensures.alphabet;
      answer = told_err _ _ _ tt c.refuse-in-Err.ensures.value n.fault;
      more = omega (arith, n.handed);
      feeds = stopped_by L _ K (g.met.A.Alphabet.lawful a).inhabited _ _ _ _ c.in-Err.stop _ _ n.read n.handed f few c.in-Err.ensures.reads;
      seen = stopped_by every _ K every_inhabited _ _ _ _ c.in-Err.stop _ _ n.read n.handed f few c.in-Err.ensures.seen;
    }

pub returns : goal.returns
returns g c =
    let K = g.K.Sink.meaning in
    let a = c.args.self.now.reader.grammar.alphabet.now in
    let L = g.A.Alphabet.meaning a in
    let G = gives_as K _ _ _ _ _ _ _ c.items.ensures.value c.give-given.ensures in
    let few = c.full.ensures.below c.if-full.false in
    let b = c.count.ensures in
    record {
      pattern = c.read.ensures.pattern;
      alphabet = c.read.ensures.alphabet;
      answer = told_fault _ _ b.fault;
      more = omega (arith, b.handed);
      feeds =
          symbol_read L _ K (g.met.A.Alphabet.lawful a).inhabited _ _ _ _ _ _ _ _ c.in_default.field-0 c.in_default.ensures.reads
          c.in_default.ensures.stop b.read b.handed b.fault few G;
      seen =
          symbol_read every _ K every_inhabited _ _ _ _ _ _ _ _ c.in_default.field-0 c.in_default.ensures.seen
          c.in_default.ensures.stop b.read b.handed b.fault few G;
    }
