use Rattle.std.proofs.Common.{Err, refl, ap, ◌∙◌}
use Rattle.std.proofs.lemmas.Result.{err_from_is_err_and}
use Rattle.walk.specs.Graphs.{graph_of}
use Rattle.replay.specs.Playing.{Stand, stand}
use Rattle.replay.proofs.Playing.{stands_at, sought_first, sought_on, sought_hands, sought_halts, steps_skips, steps_hands, next_refused}
use Rattle.replay.proofs.cursor.Cursor.play_on.Goals as goal

pub loop-self-init : goal.loop-self-init
loop-self-init g c = (sought_first (g.L.Alphabet.meaning c.args.grammar.now.alphabet.now) (graph_of c.args.grammar.now.pattern.now) g.S.Sink.meaning _ _ _, c.requires.here, refl)

pub returns-in_err-played-clause-plays : goal.returns-in_err-played-clause-plays
returns-in_err-played-clause-plays g c =
    let L = g.L.Alphabet.meaning c.args.grammar.now.alphabet.now in
    let P = c.args.grammar.now.pattern.now in
    let w = c.args.symbols.now in
    let m = g.S.Sink.meaning in
    let t = stand P c.args.self.now w in
    let u = stand P c.loop-self.self w in
    let t' = stand P c.step.new.self w in
    let p = err_from_is_err_and c.from_residual.result c.from_residual.ensures.1 in
    next_refused L (graph_of P) m t t' _ _ _ _ _ _ (p.1 ∙ ap Err p.2) (sought_halts L (graph_of P) m t u t' _ _ _ _ _ _ c.loop-self.invariant.0 _ c.in_err-played.ensures.steps)

pub returns-in-Some-2-clause-plays : goal.returns-in-Some-2-clause-plays
returns-in-Some-2-clause-plays g c =
    let L = g.L.Alphabet.meaning c.args.grammar.now.alphabet.now in
    let P = c.args.grammar.now.pattern.now in
    let w = c.args.symbols.now in
    let m = g.S.Sink.meaning in
    let t = stand P c.args.self.now w in
    let u = stand P c.loop-self.self w in
    let t' = stand P c.step.new.self w in
    sought_hands L (graph_of P) m t u t' _ _ _ _ _ _ c.loop-self.invariant.0 c.in-Some-2.played
    (steps_hands L (graph_of P) m u t' _ _ _ _ c.in_ok-played.field-0 c.in-Some-2.played c.in-Some-2.is c.in_ok-played.ensures.steps)

pub loop-self-preserved : goal.loop-self-preserved
loop-self-preserved g c =
    let L = g.L.Alphabet.meaning c.args.grammar.now.alphabet.now in
    let P = c.args.grammar.now.pattern.now in
    let w = c.args.symbols.now in
    let m = g.S.Sink.meaning in
    let t = stand P c.args.self.now w in
    let u = stand P c.loop-self.self w in
    let t' = stand P c.step.new.self w in (
      sought_on L (graph_of P) m t u t' _ _ _ _ _ _ c.loop-self.invariant.0 (ap (λ (x : Stand _). x.ended) (stands_at P c.loop-self.self w c.in-Some.here c.in-Some.is))
          (steps_skips L (graph_of P) m u t' _ _ _ _ c.in_ok-played.field-0 c.in_default-2.is c.in_ok-played.ensures.steps),
      c.in_ok-played.ensures.here,
      c.in_ok-played.ensures.bytes ∙ c.loop-self.invariant.2,
    )

pub returns-in_err-played-clause-bytes : goal.returns-in_err-played-clause-bytes
returns-in_err-played-clause-bytes g c = c.in_err-played.ensures.bytes ∙ c.loop-self.invariant.2

pub returns-in-Some-2-clause-bytes : goal.returns-in-Some-2-clause-bytes
returns-in-Some-2-clause-bytes g c = c.in_ok-played.ensures.bytes ∙ c.loop-self.invariant.2
