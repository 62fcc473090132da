use Rattle.std.proofs.Common.{Err, sym, ap, ◌∙◌}
use Rattle.std.proofs.lemmas.Result.{err_from_is_err_and}
use Rattle.walk.specs.Graphs.{graph_of}
use Rattle.replay.proofs.Turning.{reading}
use Rattle.replay.proofs.Playing.{steps_refused, turn_met, turn_dry, turn_outside, turn_left, turn_skip, turn_fork, turn_read, turn_end, bars_fork, bars_read, bars_end, fork_within, read_within, pass_within}
use Rattle.replay.proofs.cursor.Cursor.step.Goals as goal

pub returns-then-contains-clause-steps : goal.returns-then-contains-clause-steps
returns-then-contains-clause-steps g c =
    turn_met (g.L.Alphabet.meaning c.args.grammar.now.alphabet.now) c.args.grammar.now.pattern.now g.S.Sink.meaning c.args.self.now c.args.symbols.now c.args.here
    (g.S.Sink.position c.args.sink.now) (g.S.Sink.stock c.args.sink.now) c.requires.at c.requires.here _ (sym c.contains.ensures ∙ c.if-contains.true) c.broken.ensures

pub returns-in_default-clause-steps : goal.returns-in_default-clause-steps
returns-in_default-clause-steps g c =
    turn_dry (g.L.Alphabet.meaning c.args.grammar.now.alphabet.now) c.args.grammar.now.pattern.now g.S.Sink.meaning c.args.self.now c.args.symbols.now c.args.here
    (g.S.Sink.position c.args.sink.now) (g.S.Sink.stock c.args.sink.now) c.requires.at c.requires.here (sym c.contains.ensures ∙ c.if-contains.false)
    _ c.in-Fork.first c.in-Fork.second (sym c.in-Fork.ensures) c.in_default.ensures.steps.0 c.broken-in_default.ensures

pub returns-in_err-hand-in-Fork-clause-steps : goal.returns-in_err-hand-in-Fork-clause-steps
returns-in_err-hand-in-Fork-clause-steps g c =
    let p = err_from_is_err_and c.from_residual.result c.from_residual.ensures.1 in
    steps_refused (g.L.Alphabet.meaning c.args.grammar.now.alphabet.now) (graph_of c.args.grammar.now.pattern.now) g.S.Sink.meaning _ _ _ _ _ _ _ _ (p.1 ∙ ap Err p.2)
    (bars_fork (g.L.Alphabet.meaning c.args.grammar.now.alphabet.now) c.args.grammar.now.pattern.now g.S.Sink.meaning c.args.self.now c.args.symbols.now c.args.here
    (g.S.Sink.position c.args.sink.now) (g.S.Sink.stock c.args.sink.now) c.requires.at c.requires.here (sym c.contains.ensures ∙ c.if-contains.false)
    _ _ c.in-Some.bit c.in-Fork.first c.in-Fork.second _ _ _ (sym c.in-Fork.ensures) c.in-Some.ensures.steps c.branch_item.ensures c.in_err-hand-in-Fork.ensures)

pub returns-in_err-item-in-Read-clause-steps : goal.returns-in_err-item-in-Read-clause-steps
returns-in_err-item-in-Read-clause-steps g c =
    let p = err_from_is_err_and c.from_residual-in_err-item-in-Read.result c.from_residual-in_err-item-in-Read.ensures.1 in
    steps_refused (g.L.Alphabet.meaning c.args.grammar.now.alphabet.now) (graph_of c.args.grammar.now.pattern.now) g.S.Sink.meaning _ _ _ _ _ _ _ _ (p.1 ∙ ap Err p.2)
    (turn_outside (g.L.Alphabet.meaning c.args.grammar.now.alphabet.now) c.args.grammar.now.pattern.now g.S.Sink.meaning c.args.self.now c.args.symbols.now c.args.here
    (g.S.Sink.position c.args.sink.now) (g.S.Sink.stock c.args.sink.now) c.requires.at c.requires.here (sym c.contains.ensures ∙ c.if-contains.false)
    _ c.in-Read.class c.in-Read.next (sym c.in-Read.ensures) c.in_err-item-in-Read.ensures)

pub returns-in_err-hand-in-Read-clause-steps : goal.returns-in_err-hand-in-Read-clause-steps
returns-in_err-hand-in-Read-clause-steps g c =
    let p = err_from_is_err_and c.from_residual-in_err-hand-in-Read.result c.from_residual-in_err-hand-in-Read.ensures.1 in
    steps_refused (g.L.Alphabet.meaning c.args.grammar.now.alphabet.now) (graph_of c.args.grammar.now.pattern.now) g.S.Sink.meaning _ _ _ _ _ _ _ _ (p.1 ∙ ap Err p.2)
    (bars_read (g.L.Alphabet.meaning c.args.grammar.now.alphabet.now) c.args.grammar.now.pattern.now g.S.Sink.meaning c.args.self.now c.args.symbols.now c.args.here
    (g.S.Sink.position c.args.sink.now) (g.S.Sink.stock c.args.sink.now) c.requires.at c.requires.here (sym c.contains.ensures ∙ c.if-contains.false)
    _ _ c.in-Read.next c.in-Read.class _ _ (sym c.in-Read.ensures) (reading (g.L.Alphabet.meaning c.args.grammar.now.alphabet.now) c.in-Read.class _ _ _ c.in_ok-item-in-Read.ensures) c.in_err-hand-in-Read.ensures)

pub returns-then-not-has_nothing_left-clause-steps : goal.returns-then-not-has_nothing_left-clause-steps
returns-then-not-has_nothing_left-clause-steps g c =
    turn_left (g.L.Alphabet.meaning c.args.grammar.now.alphabet.now) c.args.grammar.now.pattern.now g.S.Sink.meaning c.args.self.now c.args.symbols.now c.args.here
    (g.S.Sink.position c.args.sink.now) (g.S.Sink.stock c.args.sink.now) c.requires.at c.requires.here (sym c.contains.ensures ∙ c.if-contains.false)
    _ c.has_nothing_left.result (sym c.in-End.ensures) c.has_nothing_left.ensures c.if-not-has_nothing_left.true c.broken-then-not-has_nothing_left.ensures

pub returns-in_err-hand-in-End-clause-steps : goal.returns-in_err-hand-in-End-clause-steps
returns-in_err-hand-in-End-clause-steps g c =
    let p = err_from_is_err_and c.from_residual-in_err-hand-in-End.result c.from_residual-in_err-hand-in-End.ensures.1 in
    steps_refused (g.L.Alphabet.meaning c.args.grammar.now.alphabet.now) (graph_of c.args.grammar.now.pattern.now) g.S.Sink.meaning _ _ _ _ _ _ _ _ (p.1 ∙ ap Err p.2)
    (bars_end (g.L.Alphabet.meaning c.args.grammar.now.alphabet.now) c.args.grammar.now.pattern.now g.S.Sink.meaning c.args.self.now c.args.symbols.now c.args.here
    (g.S.Sink.position c.args.sink.now) (g.S.Sink.stock c.args.sink.now) c.requires.at c.requires.here (sym c.contains.ensures ∙ c.if-contains.false)
    _ _ _ (sym c.in-End.ensures) (c.has_nothing_left.ensures.0 c.if-not-has_nothing_left.false) c.in_err-hand-in-End.ensures)

pub returns-in-Pass-clause-steps : goal.returns-in-Pass-clause-steps
returns-in-Pass-clause-steps g c =
    turn_skip (g.L.Alphabet.meaning c.args.grammar.now.alphabet.now) c.args.grammar.now.pattern.now g.S.Sink.meaning c.args.self.now c.args.symbols.now c.args.here
    (g.S.Sink.position c.args.sink.now) (g.S.Sink.stock c.args.sink.now) c.requires.at c.requires.here (sym c.contains.ensures ∙ c.if-contains.false)
    c.insert.new.self c.in-Pass.next (sym c.in-Pass.ensures) c.insert.ensures

pub returns-in_ok-hand-in-Fork-clause-steps : goal.returns-in_ok-hand-in-Fork-clause-steps
returns-in_ok-hand-in-Fork-clause-steps g c =
    turn_fork (g.L.Alphabet.meaning c.args.grammar.now.alphabet.now) c.args.grammar.now.pattern.now g.S.Sink.meaning c.args.self.now c.args.symbols.now c.args.here
    (g.S.Sink.position c.args.sink.now) (g.S.Sink.stock c.args.sink.now) c.requires.at c.requires.here (sym c.contains.ensures ∙ c.if-contains.false)
    c.insert-in-Fork.new.self _ c.in-Some.bit c.in-Fork.first c.in-Fork.second _ _ _ _ _ (sym c.in-Fork.ensures) c.insert-in-Fork.ensures c.in-Some.ensures.steps c.branch_item.ensures c.branch-bit.ensures c.in_ok-hand-in-Fork.ensures

pub returns-in_ok-hand-in-Read-clause-steps : goal.returns-in_ok-hand-in-Read-clause-steps
returns-in_ok-hand-in-Read-clause-steps g c =
    turn_read (g.L.Alphabet.meaning c.args.grammar.now.alphabet.now) c.args.grammar.now.pattern.now g.S.Sink.meaning c.args.self.now c.args.symbols.now c.args.here
    (g.S.Sink.position c.args.sink.now) (g.S.Sink.stock c.args.sink.now) c.requires.at c.requires.here (sym c.contains.ensures ∙ c.if-contains.false)
    c.clear.new.self _ c.in-Read.next c.in-Read.class _ _ _ (sym c.in-Read.ensures) c.clear.ensures (reading (g.L.Alphabet.meaning c.args.grammar.now.alphabet.now) c.in-Read.class _ _ _ c.in_ok-item-in-Read.ensures) c.in_ok-hand-in-Read.ensures

pub returns-in_ok-hand-in-End-clause-steps : goal.returns-in_ok-hand-in-End-clause-steps
returns-in_ok-hand-in-End-clause-steps g c =
    turn_end (g.L.Alphabet.meaning c.args.grammar.now.alphabet.now) c.args.grammar.now.pattern.now g.S.Sink.meaning c.args.self.now c.args.symbols.now c.args.here
    (g.S.Sink.position c.args.sink.now) (g.S.Sink.stock c.args.sink.now) c.requires.at c.requires.here (sym c.contains.ensures ∙ c.if-contains.false)
    _ _ _ (sym c.in-End.ensures) (c.has_nothing_left.ensures.0 c.if-not-has_nothing_left.false) c.in_ok-hand-in-End.ensures

pub returns-in-Pass-clause-here : goal.returns-in-Pass-clause-here
returns-in-Pass-clause-here g c = pass_within c.args.grammar.now.pattern.now c.args.here _ (sym c.in-Pass.ensures)

pub returns-in_ok-hand-in-Fork-clause-here : goal.returns-in_ok-hand-in-Fork-clause-here
returns-in_ok-hand-in-Fork-clause-here g c = rw c.branch-bit.ensures (fork_within c.args.grammar.now.pattern.now c.args.here c.in-Some.bit _ _ (sym c.in-Fork.ensures))

pub returns-in_ok-hand-in-Read-clause-here : goal.returns-in_ok-hand-in-Read-clause-here
returns-in_ok-hand-in-Read-clause-here g c = read_within c.args.grammar.now.pattern.now c.args.here c.in-Read.class _ (sym c.in-Read.ensures)
