use Rattle.filing.proofs.Replaying.{cut_free}
use Rattle.filing.proofs.laws.cutting_is_free.Goals as goal

pub returns : goal.returns
returns g c = λ alphabet pattern. cut_free (g.A.Alphabet.meaning alphabet) pattern
