use Rattle.std.proofs.Common.{arith}
use Rattle.reader.proofs.Carrying.{addable, ready}
use Rattle.reader.proofs.Sweeping.{next_of, next_spare, goes_on, stays_back}
use Rattle.reader.proofs.state.traversal.Traversal.step.Goals as goal

pub returns-in_default : goal.returns-in_default
returns-in_default g c = stays_back (g.A.Alphabet.meaning c.args.grammar.now.alphabet.now) c.args.symbol.now c.args.grammar.now.pattern.now c.in_default.ensures c.dismiss.ensures

pub extend-read-requires : goal.extend-read-requires
extend-read-requires g c = addable (next_of (g.A.Alphabet.meaning c.args.grammar.now.alphabet.now) c.args.symbol.now c.args.grammar.now.pattern.now c.requires).state c.args.self.now.marks (next_spare (g.A.Alphabet.meaning c.args.grammar.now.alphabet.now) c.args.symbol.now c.args.grammar.now.pattern.now c.requires) c.in-Some.onward.item

pub spread-requires : goal.spread-requires
spread-requires g c = ready (next_of (g.A.Alphabet.meaning c.args.grammar.now.alphabet.now) c.args.symbol.now c.args.grammar.now.pattern.now c.requires).state c.args.self.now.marks c.extend-read.ensures c.dismiss-2.ensures (next_spare (g.A.Alphabet.meaning c.args.grammar.now.alphabet.now) c.args.symbol.now c.args.grammar.now.pattern.now c.requires) (omega arith)

pub returns : goal.returns
returns g c = goes_on (g.A.Alphabet.meaning c.args.grammar.now.alphabet.now) c.args.symbol.now c.args.grammar.now.pattern.now c.in-Some.ensures c.extend-read.ensures c.dismiss-2.ensures c.spread.ensures
