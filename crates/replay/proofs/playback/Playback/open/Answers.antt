use Rattle.std.proofs.Common.{refl, ap, sym, Some, ◌∙◌}
use Rattle.replay.proofs.Turning.{cleared}
use Rattle.replay.proofs.Playing.{stands_open}
use Rattle.replay.proofs.playback.Playback.open.Goals as goal

pub returns : goal.returns
returns g c =
    let h = c.new-2.result in
    let e = c.new-2.ensures in
    record {
      known = rw (sym c.class_count.ensures) (c.reads_below.ensures.below c.if-not-reads_below.false);
      stands = stands_open c.args.pattern.now c.args.filed.now c.args.symbols.now h e.bits (cleared h.met e.met) (e.at ∙ ap Some c.entry.ensures.value) e.read;
      bytes_are = e.bytes;
      pattern_is = refl;
      symbols_are = refl;
      alphabet_is = refl;
    }
