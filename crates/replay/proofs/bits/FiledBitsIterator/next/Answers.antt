use Rattle.std.proofs.Common.{◌≡◌, ◌<◌, length, drop, ap, refl, arith, ◌∙◌}
use Rattle.replay.specs.declared.bits.FiledBits.{FiledBits}
use Rattle.replay.specs.Bits.{bits_of}
use Rattle.replay.specs.Unread.{unread}
use Rattle.replay.proofs.Unreading.{next_bit, next_byte, none_left}
use Rattle.replay.proofs.bits.FiledBitsIterator.next.Goals as goal
use Rattle.replay.proofs.bits.FiledBitsIterator.next.Goals.{then-self-eq0+in_ok-self, else-self-eq0}

pub returns-in_err-self-clause-steps : goal.returns-in_err-self-clause-steps
returns-in_err-self-clause-steps c =
    let s = c.args.self.now in
    let e = none_left s.left s.current s.next s.bytes.now c.if-self-eq0.true c.in_err-self.ensures.lookup.3 in rw c.from_residual.ensures (e, e)

pub returns-clause-steps : goal.returns-clause-steps
returns-clause-steps c =
    let old = c.args.self.now in
    let new = c.if-self-eq0.self in
    let same : unread old ≡ unread new = elim c.if-self-eq0.branch [
      | then-self-eq0+in_ok-self w ↦ next_byte old.left old.current old.next w.in_ok-self.field-0.now old.bytes.now w.if-self-eq0.true w.in_ok-self.ensures.lookup.3.0 w.in_ok-self.ensures.lookup.1 ∙ rw w.self-is refl
      | else-self-eq0 w ↦ rw w.self-is refl
    ] in
    let some : 0 < new.left = elim c.if-self-eq0.branch [
      | then-self-eq0+in_ok-self w ↦ omega (arith, ap (λ (x : FiledBits). x.left) w.self-is)
      | else-self-eq0 w ↦ omega (arith, ap (λ (x : FiledBits). x.left) w.self-is)
    ] in
    same ∙ next_bit new.left new.current (bits_of (drop new.next new.bytes.now)) some

pub returns-clause-goes : goal.returns-clause-goes
returns-clause-goes c = let e = ap length (returns-clause-steps c) in record { on = λ _. (tt, tt, omega (arith, e)); keeps = tt; rests = λ _. tt }
