use Rattle.std.proofs.Common.{List, ℕ, get_or, ap, ◌∙◌, rules}
use Rattle.tree.proofs.paths.spares.Goals as goal

pub returns-clause-slots : goal.returns-clause-slots
returns-clause-slots c = λ k h. let called = c.from_fn.ensures.items.at k 0 h in ap (λ (l : List ℕ). get_or l k 0) c.from.ensures.0 ∙ search rules
