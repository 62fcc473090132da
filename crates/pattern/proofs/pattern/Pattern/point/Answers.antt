use Rattle.std.proofs.Common.{arith}
use Rattle.pattern.proofs.Links.{count_points, point_at, none_at, leads_at}
use Rattle.pattern.proofs.pattern.Pattern.point.Goals as goal

pub returns-then-at-self : goal.returns-then-at-self
returns-then-at-self c =
    let p = c.args.self.now in
    record { value = point_at p c.args.at _ c.if-at-self.true; leads = leads_at p c.args.at _ c.if-at-self.true }

pub returns-else-at-self : goal.returns-else-at-self
returns-else-at-self c =
    let p = c.args.self.now in
    record { value = none_at p c.args.at c.if-at-self.false; leads = omega (arith, count_points p) }
