use Rattle.std.proofs.Common.{◌≡◌, ◌≤◌, map, take, None}
use Rattle.reader.specs.Seen.{see, every}
use Rattle.run.specs.Sinks.{standing}
use Rattle.run.specs.State.{state_pattern, state_alphabet, state_meaning, state_held}
use Rattle.run.specs.Inner.{FeedsOpen}
use Rattle.run.proofs.state.State.feed.Given as goal

-- the part of the piece so far was fed
abbrev pub invariant-loop-symbol : goal.invariant-loop-symbol
invariant-loop-symbol g l =
    let first = l.initial.self in
    let fed = take l.symbol-index l.piece in
    (state_pattern l.self ≡ state_pattern first)
    × (state_alphabet l.self ≡ state_alphabet first)
    × (l.self.book.fault ≡ None)
    × (first.book.handed ≤ l.self.book.handed)
    × FeedsOpen (state_meaning first) (state_pattern first) g.K.Sink.meaning fed
    (state_held first) (standing g.K.Sink l.initial.sink) (state_held l.self) (standing g.K.Sink l.sink)
    × FeedsOpen every (state_pattern first) g.K.Sink.meaning (map (see (state_meaning first)) fed)
    (state_held first) (standing g.K.Sink l.initial.sink) (state_held l.self) (standing g.K.Sink l.sink)
