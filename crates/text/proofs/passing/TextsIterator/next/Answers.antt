use Rattle.std.proofs.Common.{◌∙◌, sym, arith, rules}
use Rattle.text.proofs.Rising.{passes_on, stays_there}
use Rattle.text.proofs.passing.TextsIterator.next.Goals as goal

pub returns-in_default : goal.returns-in_default
returns-in_default c = record {
  steps = stays_there c.args.self.now (λ n e. c.in_default.not-Pass n (c.step.ensures ∙ e));
  goes = search rules;
}

pub returns-clause-steps : goal.returns-clause-steps
returns-clause-steps c = passes_on c.args.self.now c.in-Pass.next c.text-text.result.now (sym c.in-Pass.ensures) c.text-text.ensures

pub returns-clause-goes : goal.returns-clause-goes
returns-clause-goes c =
    let on = passes_on c.args.self.now c.in-Pass.next c.text-text.result.now (sym c.in-Pass.ensures) c.text-text.ensures in
    omega (arith, on.up, on.within)
