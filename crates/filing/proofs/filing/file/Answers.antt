use Rattle.filing.proofs.Replaying.{files_greedy}
use Rattle.filing.proofs.filing.file.Goals as goal

pub returns-clause-files : goal.returns-clause-files
returns-clause-files g c = files_greedy (g.A.Alphabet.meaning c.args.alphabet.now) c.args.pattern.now c.args.manner _ _ _ _ _ _ _ _
