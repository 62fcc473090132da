use Rattle.walk.proofs.Theorems.{dead_exactly, some_input}
use Rattle.walk.proofs.laws.dead_is_exact.Goals as goal

pub returns : goal.returns
returns g c = record {
  dead = λ a. dead_exactly (g.L.Alphabet.meaning a) (g.met.L.Alphabet.lawful a);
  alive = λ a. some_input (g.L.Alphabet.meaning a) (g.met.L.Alphabet.lawful a);
}
