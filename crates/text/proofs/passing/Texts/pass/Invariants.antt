use Rattle.std.proofs.Common.{◌≡◌, ◌+◌, ◌*◌, ◌≤◌, length}
use Rattle.pattern.specs.Limits.{most_text}
use Rattle.text.specs.Texts.{points_left, bytes_left, kind_past}
use Rattle.text.proofs.passing.Texts.pass.Given as goal

abbrev pub invariant-loop-text : goal.invariant-loop-text
invariant-loop-text l = record {
  few : l.bytes ≤ most_text * l.self.at;
  kind : kind_past l.self ≡ kind_past l.initial.self;
  bytes : l.bytes + length (bytes_left l.self) ≡ length (bytes_left l.initial.self);
}

-- a text goes on to a larger number, so what is left of the points gets fewer
abbrev pub decreases-loop-text : goal.decreases-loop-text
decreases-loop-text l = points_left l.self
