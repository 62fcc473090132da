use Rattle.reader.specs.Seen.{every}
use Rattle.reader.proofs.Keeping.{shows}
use Rattle.reader.proofs.reader.Reader.live_points.Goals as goal

pub returns-in-None-clause-live : goal.returns-in-None-clause-live
returns-in-None-clause-live g c _ = shows (g.A.Alphabet.meaning c.args.self.now.grammar.alphabet.now) c.args.self.now.grammar.pattern.now c.args.self.now.core c.live_points.result c.live_points.ensures

pub returns-in-None-clause-seen : goal.returns-in-None-clause-seen
returns-in-None-clause-seen g c _ = shows every c.args.self.now.grammar.pattern.now c.args.self.now.core c.live_points.result c.live_points.ensures
