use Rattle.run.proofs.Kept.{held_fed}
use Rattle.run.proofs.run.Run.feed.Goals as goal

pub invariant_of-self : goal.invariant_of-self
invariant_of-self g c = record { stage = held_fed _ _ g.K.Sink.meaning _ _ _ _ _ _ c.feed.ensures.pattern c.feed.ensures.seen c.args.self.now.stage }
