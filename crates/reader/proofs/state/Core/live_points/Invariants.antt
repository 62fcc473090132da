use Rattle.std.proofs.Common.{◌≡◌, ℕ, true, ◌↔◌, take}
use Rattle.reader.specs.Marks.{marked}
use Rattle.reader.specs.Spread.{On}
use Rattle.reader.proofs.state.Core.live_points.Given as goal

abbrev pub invariant-loop-walk : goal.invariant-loop-walk
invariant-loop-walk l = (q : ℕ) → (marked l.points q ≡ true) ↔ On q (take l.walk-index l.walk-items)
