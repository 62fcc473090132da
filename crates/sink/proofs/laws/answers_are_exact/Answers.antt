use Rattle.sink.proofs.Exactness.{exact}
use Rattle.sink.proofs.laws.answers_are_exact.Goals as goal

pub returns : goal.returns
returns g c = exact g.S.Sink.meaning
