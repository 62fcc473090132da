use Rattle.sink.proofs.Turning.{order_free}
use Rattle.sink.proofs.laws.order_is_free.Goals as goal

pub returns : goal.returns
returns g c = order_free g.S.Sink.meaning g.T.Sink.meaning
