use Rattle.std.proofs.Common.{arith}
use Rattle.text.proofs.Rising.{few}
use Rattle.text.proofs.passing.Texts.pass.Goals as goal

pub overflow_add-bytes : goal.overflow_add-bytes
overflow_add-bytes c = let on = c.in-Some.ensures.steps in omega (arith, on.up, on.within, on.short, few c.loop-text.self.pattern.now)
