use Rattle.std.proofs.Common.{◌≡◌, ℕ, ◌<◌, length, ◌∙◌, subst, arith}
use Rattle.sink.proofs.Handings.{Sofar, sofar_none, sofar_more, refused_count, refused_answer, all_count, all_answer}
use Rattle.sink.proofs.handing.hand_over.Goals as goal

pub loop-count-init : goal.loop-count-init
loop-count-init g c =
    let s = c.args.sink.now in
    sofar_none g.S.Sink.meaning (g.S.Sink.position s) (g.S.Sink.stock s) c.args.items.now

pub loop-count-preserved : goal.loop-count-preserved
loop-count-preserved g c =
    let s = c.args.sink.now in
    let at = c.loop-count.sink in
    let to = c.take.new.self in
    sofar_more g.S.Sink.meaning (g.S.Sink.position s) (g.S.Sink.stock s) c.args.items.now c.loop-count.count
    (g.S.Sink.position at) (g.S.Sink.stock at) c.loop-count.invariant
    c.in_default.field-0 (g.S.Sink.position to) (g.S.Sink.stock to) (omega arith)
    c.in_default.ensures.answer c.in_default.ensures.moved c.in_default.ensures.stocked

pub returns-in-Err : goal.returns-in-Err
returns-in-Err g c =
    let m = g.S.Sink.meaning in
    let p = g.S.Sink.position c.args.sink.now in
    let t = g.S.Sink.stock c.args.sink.now in
    let xs = c.args.items.now in
    let k = c.loop-count.count in
    let at = c.loop-count.sink in
    let left : k < length xs = omega arith in
    record {
      count = refused_count m p t xs k (g.S.Sink.position at) (g.S.Sink.stock at) c.loop-count.invariant c.in-Err.fault left c.in-Err.ensures.answer;
      answer = refused_answer m p t xs k (g.S.Sink.position at) (g.S.Sink.stock at) c.loop-count.invariant c.in-Err.fault left c.in-Err.ensures.answer;
      moved = c.in-Err.ensures.moved ∙ c.loop-count.invariant.moved;
      stocked = c.in-Err.ensures.stocked ∙ c.loop-count.invariant.stocked;
    }

pub returns : goal.returns
returns g c =
    let m = g.S.Sink.meaning in
    let p = g.S.Sink.position c.args.sink.now in
    let t = g.S.Sink.stock c.args.sink.now in
    let xs = c.args.items.now in
    let to = c.loop-count.sink in
    let all : c.loop-count.count ≡ length xs = omega arith in
    let sofar = subst (λ (k : ℕ). Sofar m p t xs k (g.S.Sink.position to) (g.S.Sink.stock to)) all c.loop-count.invariant in
    record {
      count = all_count m p t xs (length xs) (g.S.Sink.position to) (g.S.Sink.stock to) sofar (omega arith);
      answer = all_answer m p t xs (length xs) (g.S.Sink.position to) (g.S.Sink.stock to) sofar (omega arith) tt;
      moved = sofar.moved;
      stocked = sofar.stocked;
    }
