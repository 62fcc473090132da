use Rattle.std.proofs.Common.{sym, rules}
use Rattle.run.proofs.Handing.{placed_mapped, gives_so, gives}
use Rattle.run.proofs.giving.give.Goals as goal

pub returns : goal.returns
returns g c =
    let h = c.hand_over-count.ensures in
    let K = g.K.Sink.meaning in
    gives_so K _ _ _ _ _ _ _ (sym (placed_mapped c.args.place _ _ _ (λ _ _ k. search rules) c.map_err.ensures.cases)) (gives K _ _ _ c.args.place _ _ _ _ h.count h.answer h.moved h.stocked)
