use Rattle.sink.proofs.Handings.{Sofar}
use Rattle.sink.proofs.handing.hand_over.Given as goal

abbrev pub invariant-loop-count : goal.invariant-loop-count
invariant-loop-count g l =
    Sofar g.S.Sink.meaning (g.S.Sink.position l.initial.sink) (g.S.Sink.stock l.initial.sink) l.items l.count
    (g.S.Sink.position l.sink) (g.S.Sink.stock l.sink)
