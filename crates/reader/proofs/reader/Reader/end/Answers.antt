use Rattle.reader.specs.Calls.{held_in}
use Rattle.reader.specs.Seen.{every}
use Rattle.reader.proofs.Out.{fit_of}
use Rattle.reader.proofs.Keeping.{finishes_no, finishes_yes}
use Rattle.reader.proofs.reader.Reader.end.Goals as goal

pub end-requires : goal.end-requires
end-requires g c = fit_of c.args.self.grammar.pattern.now c.args.self.core (c.args.self.stands c.in_default.is)

pub returns-then-not-end-clause-ends : goal.returns-then-not-end-clause-ends
returns-then-not-end-clause-ends g c _ = finishes_no (g.A.Alphabet.meaning c.args.self.grammar.alphabet.now) c.args.self.grammar.pattern.now c.args.self.core c.end.result (held_in c.end.new.out) c.if-not-end.true c.end.ensures.none c.end.ensures.ends

pub returns-then-not-end-clause-seen : goal.returns-then-not-end-clause-seen
returns-then-not-end-clause-seen g c _ = finishes_no every c.args.self.grammar.pattern.now c.args.self.core c.end.result (held_in c.end.new.out) c.if-not-end.true c.end.ensures.none c.end.ensures.seen

pub returns-clause-ends : goal.returns-clause-ends
returns-clause-ends g c _ = finishes_yes (g.A.Alphabet.meaning c.args.self.grammar.alphabet.now) c.args.self.grammar.pattern.now c.args.self.core c.end.result (held_in c.end.new.out) c.push.new.self.items c.if-not-end.false c.push.ensures.items c.end.ensures.ends

pub returns-clause-seen : goal.returns-clause-seen
returns-clause-seen g c _ = finishes_yes every c.args.self.grammar.pattern.now c.args.self.core c.end.result (held_in c.end.new.out) c.push.new.self.items c.if-not-end.false c.push.ensures.items c.end.ensures.seen
