use Rattle.std.proofs.Common.{Some, refl, sym, ap}
use Rattle.reader.specs.Seen.{every}
use Rattle.run.proofs.Ends.{state_refused, open_refused, open_given}
use Rattle.run.proofs.Kept.{nowhere, every_inhabited, held_led}
use Rattle.run.proofs.Handing.{gives_as}
use Rattle.run.proofs.state.State.open.Goals as goal

pub returns-then-not-reads_below : goal.returns-then-not-reads_below
returns-then-not-reads_below g c =
    let L = g.A.Alphabet.meaning c.args.grammar.alphabet.now in
    record {
      pattern = c.open-reader.ensures.pattern;
      alphabet = c.open-reader.ensures.alphabet;
      opens = open_refused L c.args.grammar.pattern.now g.K.Sink.meaning _ _ (rw (sym c.class_count.ensures) (c.reads_below.ensures.beyond c.if-not-reads_below.true)) refl refl (ap Some c.new.ensures);
      held = (_, state_refused every c.args.grammar.pattern.now nowhere _ refl refl (ap Some c.new.ensures));
    }

pub returns : goal.returns
returns g c =
    let L = g.A.Alphabet.meaning c.args.grammar.alphabet.now in
    let K = g.K.Sink.meaning in
    let G = gives_as K _ _ _ _ _ _ _ c.items.ensures.value c.give-given.ensures in
    record {
      pattern = c.open-reader.ensures.pattern;
      alphabet = c.open-reader.ensures.alphabet;
      opens =
          open_given L c.args.grammar.pattern.now K (g.met.A.Alphabet.lawful c.args.grammar.alphabet.now).inhabited _ _ _ _ _ _ (rw (sym c.class_count.ensures) (c.reads_below.ensures.below c.if-not-reads_below.false))
          c.open-reader.ensures.starts c.open-reader.ensures.fresh refl refl c.err.ensures.value G;
      held =
          held_led c.args.grammar.pattern.now K _ _ _
          (open_given every c.args.grammar.pattern.now K every_inhabited _ _ _ _ _ _ (c.reads_below.ensures.numbered c.if-not-reads_below.false)
          c.open-reader.ensures.seen c.open-reader.ensures.fresh refl refl c.err.ensures.value G);
    }
