use Rattle.filing.proofs.Kept.{nothing_lost}
use Rattle.filing.proofs.laws.nothing_is_lost.Goals as goal

pub returns : goal.returns
returns g c = λ alphabet pattern. nothing_lost (g.A.Alphabet.meaning alphabet) pattern g.K.Sink.meaning
