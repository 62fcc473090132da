use Rattle.walk.proofs.Fixing.{code_fixes, choices_fix, bytes_fix}
use Rattle.walk.proofs.laws.walk_is_fixed.Goals as goal

pub returns : goal.returns
returns g c = record {
  code = λ a. code_fixes (g.L.Alphabet.meaning a);
  choices = λ a. choices_fix (g.L.Alphabet.meaning a);
  bytes = λ a. bytes_fix (g.L.Alphabet.meaning a);
}
