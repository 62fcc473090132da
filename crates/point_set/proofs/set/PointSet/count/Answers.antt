use Rattle.std.proofs.Common.{◌+◌, ◌^◌, ◌<◌, length, get_or, sym, refl, ap, ◌∙◌, arith, take_all}
use lib.Count.{ones, ones-le}
use Rattle.point_set.specs.Flags.{flags, tally}
use Rattle.point_set.proofs.Digits.{tally_more}
use Rattle.point_set.proofs.set.PointSet.count.Goals as goal

pub loop-word-init : goal.loop-word-init
unfolding flags
loop-word-init c = (omega arith, refl)

pub overflow_add-n : goal.overflow_add-n
overflow_add-n c =
    let w : get_or c.args.self.now.words c.loop-word.word-index 0 < 2 ^ 64 = omega arith in
    omega (arith, ones-le 64 _ w, c.loop-word.invariant.0)

pub loop-word-preserved : goal.loop-word-preserved
loop-word-preserved c =
    let w : get_or c.args.self.now.words c.loop-word.word-index 0 < 2 ^ 64 = omega arith in
    let l : c.loop-word.word-index < length c.args.self.now.words = omega arith in (
      omega (arith, ones-le 64 _ w, c.loop-word.invariant.0),
      ap (λ n. n + ones (get_or c.args.self.now.words c.loop-word.word-index 0)) c.loop-word.invariant.1 ∙ sym (tally_more _ _ l w),
    )

pub returns : goal.returns
returns c = c.loop-word.invariant.1 ∙ ap (λ u. tally (flags u)) (take_all c.loop-word.word-index c.args.self.now.words (omega arith))
