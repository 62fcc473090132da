use Rattle.std.proofs.Common.{◌≡◌}
use Rattle.replay.specs.Playing.{stand, ahead}
use Rattle.replay.proofs.Looping.{Going}
use Rattle.replay.proofs.replaying.replay.Given as goal

-- the items counted are handed over, by a playback of the same pattern and alphabet
abbrev pub invariant-loop-items : goal.invariant-loop-items
invariant-loop-items g l =
    Going (g.L.Alphabet.meaning l.alphabet) l.pattern l.filed l.symbols g.S.Sink.meaning
    (g.S.Sink.position l.initial.sink) (g.S.Sink.stock l.initial.sink) l.items (stand l.playback.grammar.pattern.now l.playback.cursor l.playback.symbols.now) (g.S.Sink.position l.sink) (g.S.Sink.stock l.sink)
    × (l.playback.grammar.alphabet.now ≡ l.alphabet)
    × (l.playback.grammar.pattern.now ≡ l.pattern)

abbrev pub decreases-loop-items : goal.decreases-loop-items
decreases-loop-items g l = ahead (stand l.playback.grammar.pattern.now l.playback.cursor l.playback.symbols.now)
