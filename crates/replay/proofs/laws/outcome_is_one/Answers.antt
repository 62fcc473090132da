use Rattle.replay.proofs.Follow.{traces_some, trace_computed, replay_one}
use Rattle.replay.proofs.laws.outcome_is_one.Goals as goal

pub returns : goal.returns
returns g c = record {
  some = λ alphabet pattern. traces_some (g.L.Alphabet.meaning alphabet) pattern;
  computed = λ alphabet. trace_computed (g.L.Alphabet.meaning alphabet);
  one = λ alphabet pattern. replay_one (g.L.Alphabet.meaning alphabet) pattern g.S.Sink.meaning;
}
