use Rattle.std.proofs.Common.{refl}
use Rattle.point_set.specs.Flags.{digits, flags}
use Rattle.point_set.proofs.set.PointSet.clear.Goals as goal

pub returns : goal.returns
unfolding flags digits
returns c = refl
