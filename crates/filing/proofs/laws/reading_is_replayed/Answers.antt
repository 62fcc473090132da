use Rattle.filing.proofs.Replaying.{reading_replayed}
use Rattle.filing.proofs.laws.reading_is_replayed.Goals as goal

pub returns : goal.returns
returns g c = λ alphabet pattern. reading_replayed (g.A.Alphabet.meaning alphabet) pattern g.K.Sink.meaning
