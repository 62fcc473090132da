use Rattle.run.proofs.Kept.{held_at}
use Rattle.run.proofs.run.Run.open.Goals as goal

pub invariant_of-result : goal.invariant_of-result
invariant_of-result g c = record { stage = ∣ held_at _ _ _ c.open-state.ensures.pattern c.open-state.ensures.held ∣₁ }
