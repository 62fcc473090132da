use Rattle.walk.proofs.Theorems.{tree_counted}
use Rattle.walk.proofs.laws.tree_is_counted.Goals as goal

pub returns : goal.returns
returns g c a = tree_counted (g.L.Alphabet.meaning a)
