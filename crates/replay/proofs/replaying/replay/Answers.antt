use Rattle.std.proofs.Common.{inl, Err, refl, sym, ap, ◌∙◌, arith}
use Rattle.walk.specs.declared.grammar.Grammar.{Grammar}
use Rattle.std.proofs.lemmas.Result.{err_from_is_err_and}
use Rattle.replay.proofs.Packing.{all_fit}
use Rattle.replay.proofs.Looping.{falls_some, going_first, going_next, going_ends, going_halts}
use Rattle.replay.proofs.Follow.{replay_walks}
use Rattle.replay.proofs.replaying.replay.Goals as goal

pub returns-in_err-playback-clause-walks : goal.returns-in_err-playback-clause-walks
returns-in_err-playback-clause-walks g c =
    let p = err_from_is_err_and c.from_residual.result c.from_residual.ensures.1 in
    let o = c.in_err-playback.ensures in
    replay_walks (g.L.Alphabet.meaning c.args.alphabet.now) c.args.pattern.now c.args.filed.now c.args.symbols.now g.S.Sink.meaning _ _ _ _ _ (all_fit _ c.type_inv.filed)
    (inl (record { unknown = o.unknown; answers = p.1 ∙ ap Err (p.2 ∙ o.fault); stays = refl; keeps = refl }))

pub loop-items-init : goal.loop-items-init
loop-items-init g c =
    let o = c.in_ok-playback.ensures in
    (going_first (g.L.Alphabet.meaning c.args.alphabet.now) c.args.pattern.now c.args.filed.now c.args.symbols.now g.S.Sink.meaning _ _ _ o.stands, o.alphabet_is, o.pattern_is)

pub returns-in_err-next-clause-outcome : goal.returns-in_err-next-clause-outcome
returns-in_err-next-clause-outcome g c =
    let i = c.loop-items.invariant in
    let p = err_from_is_err_and c.from_residual-in_err-next.result c.from_residual-in_err-next.ensures.1 in
    let known = c.in_ok-playback.ensures.known in
    going_halts (g.L.Alphabet.meaning c.args.alphabet.now) c.args.pattern.now c.args.filed.now c.args.symbols.now g.S.Sink.meaning _ _ _ _ (ap g.L.Alphabet.meaning i.1) i.2 _ _ _ _ _ _ _ i.0
    (g.met.L.Alphabet.lawful c.args.alphabet.now) known _ _ (p.1 ∙ ap Err p.2) c.in_err-next.ensures.plays

pub returns-in_err-next-clause-walks : goal.returns-in_err-next-clause-walks
returns-in_err-next-clause-walks g c =
    replay_walks (g.L.Alphabet.meaning c.args.alphabet.now) c.args.pattern.now c.args.filed.now c.args.symbols.now g.S.Sink.meaning _ _ _ _ _ (all_fit _ c.type_inv.filed)
    (returns-in_err-next-clause-outcome g c)

pub overflow_add-items : goal.overflow_add-items
overflow_add-items g c = omega (arith, c.loop-items.invariant.0.bound)

pub loop-items-smaller : goal.loop-items-smaller
loop-items-smaller g c = falls_some _ _ _ (sym c.is_some.ensures ∙ c.if-is_some.true) c.in_ok-next.ensures.falls

pub loop-items-preserved : goal.loop-items-preserved
loop-items-preserved g c =
    let i = c.loop-items.invariant in
    let e = c.in_ok-next.ensures in (
      going_next (g.L.Alphabet.meaning c.args.alphabet.now) c.args.pattern.now c.args.filed.now c.args.symbols.now g.S.Sink.meaning _ _ _ _ (ap g.L.Alphabet.meaning i.1) i.2 _ _ _ _ _ _ _ i.0
          _ (sym c.is_some.ensures ∙ c.if-is_some.true) e.plays e.falls,
      ap (λ (x : Grammar _). x.alphabet.now) e.grammar ∙ i.1,
      ap (λ (x : Grammar _). x.pattern.now) e.grammar ∙ i.2,
    )

pub returns-clause-outcome : goal.returns-clause-outcome
returns-clause-outcome g c =
    let i = c.loop-items.invariant in
    let known = c.in_ok-playback.ensures.known in
    going_ends (g.L.Alphabet.meaning c.args.alphabet.now) c.args.pattern.now c.args.filed.now c.args.symbols.now g.S.Sink.meaning _ _ _ _ (ap g.L.Alphabet.meaning i.1) i.2 _ _ _ _ _ _ _ i.0
    (g.met.L.Alphabet.lawful c.args.alphabet.now) known _ (sym c.is_some.ensures ∙ c.if-is_some.false) c.in_ok-next.ensures.plays

pub returns-clause-walks : goal.returns-clause-walks
returns-clause-walks g c =
    replay_walks (g.L.Alphabet.meaning c.args.alphabet.now) c.args.pattern.now c.args.filed.now c.args.symbols.now g.S.Sink.meaning _ _ _ _ _ (all_fit _ c.type_inv.filed)
    (returns-clause-outcome g c)
