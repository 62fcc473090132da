use Rattle.replay.proofs.Refiled.{refiles, refiles_beside}
use Rattle.replay.proofs.laws.bits_are_refiled.Goals as goal

pub returns : goal.returns
returns g c = record {
  alone = λ alphabet pattern. refiles (g.L.Alphabet.meaning alphabet) pattern;
  beside = λ alphabet pattern. refiles_beside (g.L.Alphabet.meaning alphabet) pattern g.S.Sink.meaning;
}
