use Rattle.std.proofs.Common.{◌≡◌, ◌++◌}
use Rattle.sink.specs.Held.{held}
use Rattle.text.specs.Texts.{bytes_left}
use Rattle.text.proofs.passing.Texts.append_to.Given as goal

abbrev pub invariant-loop-text : goal.invariant-loop-text
invariant-loop-text l =
    (goal.iterator-loop-text).can_next l.text-iterator
    × (goal.iterator-loop-text).is_finite l.text-iterator
    × (held l.stock ++ bytes_left l.text-iterator ≡ held l.initial.stock ++ bytes_left l.fn.self)
