use Rattle.walk.proofs.Theorems.{live_listed}
use Rattle.walk.proofs.laws.live_walks_are_listed.Goals as goal

pub returns : goal.returns
returns g c a = live_listed (g.L.Alphabet.meaning a)
