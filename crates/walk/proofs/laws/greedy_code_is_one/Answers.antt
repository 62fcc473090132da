use Rattle.walk.proofs.Theorems.{greedy_one}
use Rattle.walk.proofs.laws.greedy_code_is_one.Goals as goal

pub returns : goal.returns
returns g c a = greedy_one (g.L.Alphabet.meaning a)
