use Rattle.std.proofs.Common.{◌≡◌, Ok, ◌∙◌}
use Rattle.sink.proofs.PairLaws.{first_not_refused, takes_second, pair_moved, pair_stocked}
use Rattle.sink.proofs.pair.PairSink.take.Goals as goal

-- the pair would take it, so the first takes it
pub returns-in_err-take : goal.returns-in_err-take
returns-in_err-take g c =
    let s = c.args.self.now in
    absurd
    (first_not_refused g.S.Sink.meaning g.T.Sink.meaning (g.S.Sink.position s.first) (g.T.Sink.position s.second)
    (g.S.Sink.stock s.first) (g.T.Sink.stock s.second) c.args.item
    _ c.in_err-take.field-0.0 c.in_ok-would.ensures c.in_err-take.ensures.answer)

pub returns : goal.returns
returns g c =
    let s = c.args.self.now in
    let e : c.take-2.result ≡ Ok tt =
    c.take-2.ensures.answer
    ∙ takes_second g.S.Sink.meaning g.T.Sink.meaning (g.S.Sink.position s.first) (g.T.Sink.position s.second)
    (g.S.Sink.stock s.first) (g.T.Sink.stock s.second) c.args.item
    _ c.in_ok-would.ensures in
    record {
      answer = e ∙ c.in_ok-would.ensures;
      moved =
          pair_moved g.S.Sink.meaning g.T.Sink.meaning (g.S.Sink.position s.first) (g.T.Sink.position s.second)
          (g.S.Sink.stock s.first) (g.T.Sink.stock s.second) c.args.item
          c.take-2.result e c.in_ok-take.ensures.moved c.take-2.ensures.moved;
      stocked =
          pair_stocked g.S.Sink.meaning g.T.Sink.meaning (g.S.Sink.position s.first) (g.T.Sink.position s.second)
          (g.S.Sink.stock s.first) (g.T.Sink.stock s.second) c.args.item
          c.take-2.result e c.in_ok-take.ensures.stocked c.take-2.ensures.stocked;
    }
