use Rattle.walk.proofs.Fixing.{walks_part, order}
use Rattle.walk.proofs.laws.walks_are_ordered.Goals as goal

pub returns : goal.returns
returns g c = record {
  part = λ a. walks_part (g.L.Alphabet.meaning a);
  order = order;
}
