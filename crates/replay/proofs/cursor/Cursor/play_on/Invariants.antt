use Rattle.std.proofs.Common.{◌≡◌, ◌≤◌}
use Rattle.std.specs.Option.{unwrap_or}
use Rattle.point_set.specs.Members.{point_count}
use Rattle.walk.specs.Graphs.{graph_of}
use Rattle.walk.proofs.Fuel.{left}
use Rattle.replay.specs.Unread.{bytes_in}
use Rattle.replay.specs.Stepping.{met_of}
use Rattle.replay.specs.Playing.{stand}
use Rattle.replay.proofs.Graphs.{end_of}
use Rattle.replay.proofs.Playing.{Sought}
use Rattle.replay.proofs.cursor.Cursor.play_on.Given as goal

-- so far points were passed freely, over the same bytes
abbrev pub invariant-loop-self : goal.invariant-loop-self
invariant-loop-self g l =
    let P = l.grammar.pattern.now in
    Sought (g.L.Alphabet.meaning l.grammar.alphabet.now) (graph_of P) g.S.Sink.meaning
    (stand P l.initial.self l.symbols) (g.S.Sink.position l.initial.sink) (g.S.Sink.stock l.initial.sink)
    (stand P l.self l.symbols) (g.S.Sink.position l.sink) (g.S.Sink.stock l.sink)
    × (unwrap_or l.self.at 0 ≤ end_of P)
    × (bytes_in l.self.bits ≡ bytes_in l.initial.self.bits)

abbrev pub decreases-loop-self : goal.decreases-loop-self
decreases-loop-self g l = left point_count (met_of l.self.met)
