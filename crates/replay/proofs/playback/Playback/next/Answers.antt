use Rattle.replay.specs.Playing.{stand}
use Rattle.replay.proofs.Playing.{some_in, stands_within}
use Rattle.replay.proofs.Looping.{plays_falls}
use Rattle.replay.proofs.playback.Playback.next.Goals as goal

pub returns-clause-some : goal.returns-clause-some
returns-clause-some g c =
    let b = c.args.self.now in
    let P = b.grammar.pattern.now in
    some_in (g.A.Alphabet.meaning b.grammar.alphabet.now) P (stand P b.cursor b.symbols.now) (stands_within P b.cursor.at b.here)

pub returns-clause-falls : goal.returns-clause-falls
returns-clause-falls g c =
    let b = c.args.self.now in
    let P = b.grammar.pattern.now in
    plays_falls P (g.A.Alphabet.meaning b.grammar.alphabet.now) g.K.Sink.meaning (stand P b.cursor b.symbols.now) (stand P c.play_on.new.self b.symbols.now) _ _ _ _ _
    (stands_within P b.cursor.at b.here) c.play_on.ensures.plays
