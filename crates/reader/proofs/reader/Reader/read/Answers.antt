use Rattle.std.proofs.Common.{sym, ◌∙◌}
use Rattle.reader.specs.Calls.{held_in}
use Rattle.reader.specs.Seen.{see}
use Rattle.reader.proofs.Out.{fit_of}
use Rattle.reader.proofs.Keeping.{keeps_reading}
use Rattle.reader.proofs.reader.Reader.read.Goals as goal

pub advance-answer-requires : goal.advance-answer-requires
advance-answer-requires g c = fit_of c.args.self.now.grammar.pattern.now c.args.self.now.core (c.args.self.now.stands c.in_default.is)

pub invariant_of-self : goal.invariant_of-self
invariant_of-self g c = record {
  stands = λ e. keeps_reading c.args.self.now.grammar.pattern.now (see (g.A.Alphabet.meaning c.args.self.now.grammar.alphabet.now) c.args.symbol.now) c.args.self.now.core c.advance-answer.new.self c.advance-answer.result (held_in c.advance-answer.new.out)
      (c.args.self.now.stands c.in_default.is) c.advance-answer.ensures.seen (sym c.err-self.ensures.value ∙ e);
}
