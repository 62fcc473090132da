use Rattle.std.proofs.Common.{[]}
use Rattle.reader.specs.Seen.{every}
use Rattle.reader.specs.Calls.{held_in}
use Rattle.reader.proofs.Opening.{starts}
use Rattle.reader.proofs.reader.Reader.open.Goals as goal

pub invariant_of-result : goal.invariant_of-result
invariant_of-result g c = record { stands = λ _. ∣ ([], (held_in c.open-core.new.out, starts c.args.pattern.now c.open-core.result (held_in c.open-core.new.out) c.open-core.ensures every)) ∣₁ }

pub returns-clause-starts : goal.returns-clause-starts
returns-clause-starts g c = starts c.args.pattern.now c.open-core.result (held_in c.open-core.new.out) c.open-core.ensures (g.A.Alphabet.meaning c.args.alphabet.now)

pub returns-clause-seen : goal.returns-clause-seen
returns-clause-seen g c = starts c.args.pattern.now c.open-core.result (held_in c.open-core.new.out) c.open-core.ensures every
