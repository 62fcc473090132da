use Rattle.std.proofs.Common.{refl, arith}
use Rattle.pattern.proofs.Links.{entry_within, count_points}
use Rattle.pattern.proofs.pattern.Pattern.entry.Goals as goal

pub returns : goal.returns
returns c =
    let p = c.args.self.now in
    record { value = refl; within = omega (arith, entry_within p, count_points p) }
