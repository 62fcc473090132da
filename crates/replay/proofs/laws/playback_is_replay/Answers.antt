use Rattle.replay.proofs.Courses.{playback_agrees, breaks_for_good, item_stays}
use Rattle.replay.proofs.Looping.{playback_comes_alike}
use Rattle.replay.proofs.laws.playback_is_replay.Goals as goal

pub returns : goal.returns
returns g c = record {
  agrees = λ alphabet pattern. playback_agrees (g.L.Alphabet.meaning alphabet) (g.met.L.Alphabet.lawful alphabet) pattern g.S.Sink.meaning;
  alike = λ alphabet pattern. playback_comes_alike (g.L.Alphabet.meaning alphabet) (g.met.L.Alphabet.lawful alphabet) pattern g.S.Sink.meaning;
  broken = λ alphabet pattern. breaks_for_good (g.L.Alphabet.meaning alphabet) (g.met.L.Alphabet.lawful alphabet) pattern g.S.Sink.meaning;
  item = λ alphabet pattern. item_stays (g.L.Alphabet.meaning alphabet) (g.met.L.Alphabet.lawful alphabet) pattern g.S.Sink.meaning;
}
