use Rattle.std.proofs.Common.{◌≡◌, ◌+◌, ◌-◌, ◌<◌, length, ap, ◌∙◌, arith}
use Rattle.std.proofs.lemmas.Grind.{common_steps}
use Rattle.pattern.specs.Files.{operations}
use Rattle.pattern.proofs.Operating.{operations_on}
use Rattle.pattern.proofs.pattern.Pattern.load.Goals as goal

pub loop-loader-smaller : goal.loop-loader-smaller
loop-loader-smaller c =
    let i = c.loop-loader.invariant in
    let some : 0 < length c.loop-loader.loader.rest.now = grind (arith, common_steps) in
    omega (arith, (operations_on _ c.operate.new.self i.0 some (c.in_ok-operate.ensures i.0 i.1)).2)

pub loop-loader-preserved : goal.loop-loader-preserved
loop-loader-preserved c =
    let i = c.loop-loader.invariant in
    let some : 0 < length c.loop-loader.loader.rest.now = grind (arith, common_steps) in
    let all = length c.args.file.now in
    let was = length c.loop-loader.loader.rest.now in
    let new = c.operate.new.self.rest.now in
    let g = operations_on _ c.operate.new.self i.0 some (c.in_ok-operate.ensures i.0 i.1) in
    let place : all - length new ≡ all - was + (was - length new) = omega (arith, g.2, i.2) in
    (g.0, g.1, omega (arith, g.2, i.2), ap (λ p. operations new 0 p g.0) place ∙ g.3 ∙ i.3)
