use Rattle.std.proofs.Common.{Err, sym, ap, ◌∙◌}
use Rattle.std.proofs.lemmas.Result.{err_from_is_err_and}
use Rattle.reader.specs.Seen.{every}
use Rattle.reader.specs.Calls.{held_in}
use Rattle.run.specs.Inner.{inner}
use Rattle.run.proofs.Ends.{finish_failed, finish_denied, finish_all, finish_stopped, closes_so}
use Rattle.run.proofs.Handing.{gives_as, gives_so}
use Rattle.run.proofs.state.State.finish.Goals as goal

pub returns-in-Some : goal.returns-in-Some
returns-in-Some g c =
    record { closes = finish_failed _ _ g.K.Sink.meaning _ _ _ c.in-Some.is; seen = finish_failed _ _ g.K.Sink.meaning _ _ _ c.in-Some.is }

pub returns-then-not-unwrap_or : goal.returns-then-not-unwrap_or
returns-then-not-unwrap_or g c =
    let K = g.K.Sink.meaning in
    let L = g.A.Alphabet.meaning c.args.self.reader.grammar.alphabet.now in
    let q = c.args.self.reader.grammar.pattern.now in
    let i = inner c.args.self.reader.core c.args.self.reader.stop c.args.self.book in
    let not = sym c.unwrap_or.ensures ∙ c.if-not-unwrap_or.true in
    record {
      closes = finish_denied L q K i _ c.end.result (held_in c.end.new.out) _ c.in_default.is not c.end.ensures.ends c.new.ensures;
      seen = finish_denied every q K i _ c.end.result (held_in c.end.new.out) _ c.in_default.is not c.end.ensures.seen c.new.ensures;
    }

pub returns-in_err-given : goal.returns-in_err-given
returns-in_err-given g c =
    let K = g.K.Sink.meaning in
    let L = g.A.Alphabet.meaning c.args.self.reader.grammar.alphabet.now in
    let q = c.args.self.reader.grammar.pattern.now in
    let i = inner c.args.self.reader.core c.args.self.reader.stop c.args.self.book in
    let p = err_from_is_err_and c.from_residual.result c.from_residual.ensures.1 in
    let e = p.1 ∙ ap (λ f. Err f) p.2 in
    let so = sym c.unwrap_or.ensures ∙ c.if-not-unwrap_or.false in
    let G = gives_so K _ _ _ _ _ _ _ c.in_err-given.was (gives_as K _ _ _ _ _ _ _ c.items.ensures.value c.give-given.ensures) in
    record {
      closes = closes_so L q K i _ _ _ _ e (finish_stopped L q K i _ _ c.end.result (held_in c.end.new.out) _ _ c.in_default.is so c.end.ensures.ends G);
      seen = closes_so every q K i _ _ _ _ e (finish_stopped every q K i _ _ c.end.result (held_in c.end.new.out) _ _ c.in_default.is so c.end.ensures.seen G);
    }

pub returns : goal.returns
returns g c =
    let K = g.K.Sink.meaning in
    let L = g.A.Alphabet.meaning c.args.self.reader.grammar.alphabet.now in
    let q = c.args.self.reader.grammar.pattern.now in
    let i = inner c.args.self.reader.core c.args.self.reader.stop c.args.self.book in
    let so = sym c.unwrap_or.ensures ∙ c.if-not-unwrap_or.false in
    let G = gives_so K _ _ _ _ _ _ _ c.in_ok-given.was (gives_as K _ _ _ _ _ _ _ c.items.ensures.value c.give-given.ensures) in
    record {
      closes = finish_all L q K i _ _ c.end.result (held_in c.end.new.out) _ _ _ c.in_default.is so c.end.ensures.ends G c.finished.ensures.items c.finished.ensures.symbols;
      seen = finish_all every q K i _ _ c.end.result (held_in c.end.new.out) _ _ _ c.in_default.is so c.end.ensures.seen G c.finished.ensures.items c.finished.ensures.symbols;
    }
