use Rattle.std.proofs.Common.{◌≡◌, take}
use Rattle.run.specs.Sinks.{standing}
use Rattle.run.specs.Run.{pattern_of, alphabet_of, meaning_of, held_by}
use Rattle.run.specs.Calls.{MakesAll}
use Rattle.run.proofs.performing.make_all.Given as goal

-- the calls so far were made
abbrev pub invariant-loop-i : goal.invariant-loop-i
invariant-loop-i g l =
    let first = l.initial.run in
    (pattern_of l.run ≡ pattern_of first)
    × (alphabet_of l.run ≡ alphabet_of first)
    × MakesAll (meaning_of first) (pattern_of first) g.K.Sink.meaning (take l.i l.calls) l.initial.log l.initial.buffer
    (held_by first) (standing g.K.Sink l.initial.sink) (held_by l.run) (standing g.K.Sink l.sink) l.log l.buffer
