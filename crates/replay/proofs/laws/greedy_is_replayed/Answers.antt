use Rattle.replay.proofs.Refiled.{refiles_greedy, refiles_text}
use Rattle.replay.proofs.laws.greedy_is_replayed.Goals as goal

pub returns : goal.returns
returns g c = record {
  beside = λ alphabet pattern. refiles_greedy (g.L.Alphabet.meaning alphabet) pattern g.S.Sink.meaning;
  text = λ alphabet pattern. refiles_text (g.L.Alphabet.meaning alphabet) pattern;
}
