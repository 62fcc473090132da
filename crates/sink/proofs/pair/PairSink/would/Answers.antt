use Rattle.sink.proofs.PairLaws.{first_takes, second_takes, first_full}
use Rattle.sink.proofs.pair.PairSink.would.Goals as goal

pub returns-in-Ok-default : goal.returns-in-Ok-default
returns-in-Ok-default g c =
    let s = c.args.self.now in
    first_takes g.S.Sink.meaning g.T.Sink.meaning (g.S.Sink.position s.first) (g.T.Sink.position s.second)
    (g.S.Sink.stock s.first) (g.T.Sink.stock s.second) c.args.item
    c.in-Ok-default.field-0-0 c.would.result c.would-answer.result c.would.ensures c.in-Ok-default.is-0 c.would-answer.ensures

pub returns-in-Err-Ok : goal.returns-in-Err-Ok
returns-in-Err-Ok g c =
    let s = c.args.self.now in
    second_takes g.S.Sink.meaning g.T.Sink.meaning (g.S.Sink.position s.first) (g.T.Sink.position s.second)
    (g.S.Sink.stock s.first) (g.T.Sink.stock s.second) c.args.item
    _ c.in-Err-Ok.one c.in-Err-Ok.ensures c.in-Err-Ok.ensures'

pub returns-in_default : goal.returns-in_default
returns-in_default g c =
    let s = c.args.self.now in
    first_full g.S.Sink.meaning g.T.Sink.meaning (g.S.Sink.position s.first) (g.T.Sink.position s.second)
    (g.S.Sink.stock s.first) (g.T.Sink.stock s.second) c.args.item
    c.in-Err-Err.one c.in-Err-Err.other c.in-Err-Err.ensures c.in_default.not-NotExpected c.in-Err-Err.ensures'
