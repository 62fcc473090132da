use Rattle.walk.proofs.Theorems.{shared_only_grows, shared_certain, shared_computed}
use Rattle.walk.proofs.laws.shared_beginning_is_certain.Goals as goal

pub returns : goal.returns
returns g c = record {
  grows = λ a. shared_only_grows (g.L.Alphabet.meaning a);
  certain = λ a. shared_certain (g.L.Alphabet.meaning a);
  computed = λ a. shared_computed (g.L.Alphabet.meaning a);
}
