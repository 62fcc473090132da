use Rattle.std.proofs.Common.{◌≡◌, ◌%◌, length, is_ok, sym, ap, ◌∙◌, arith}
use Rattle.std.proofs.lemmas.Bool.{eqb-true, eqb-false}
use Rattle.sink.proofs.PairLaws.{even_answer, even_stocked, even_written, odd_answer, odd_stocked, odd_written}
use Rattle.sink.proofs.pair.PairSink.pour.Goals as goal

pub returns-then-of_first : goal.returns-then-of_first
returns-then-of_first g c =
    let s = c.args.self.now in
    let k = c.args.channel in
    let r = c.pour.result in
    let even : k % 2 ≡ 0 = eqb-true (k % 2) 0 (sym c.of_first.ensures ∙ c.if-of_first.true) in
    record {
      answer = c.pour.ensures.answer ∙ even_answer k even g.S.Sink.meaning g.T.Sink.meaning (g.S.Sink.stock s.first) (g.T.Sink.stock s.second) (length c.args.buffer.now);
      unmoved = ap (λ p. (p, g.T.Sink.position s.second)) c.pour.ensures.unmoved;
      stocked = even_stocked k even (is_ok r) (g.S.Sink.stock s.first) (g.T.Sink.stock s.second) (g.S.Sink.stock c.pour.new.self) c.pour.ensures.stocked;
      written = even_written k even (is_ok r) (g.S.Sink.stock s.first) (g.T.Sink.stock s.second) c.args.buffer.now c.pour.new.buffer c.pour.ensures.written;
    }

pub returns-else-of_first : goal.returns-else-of_first
returns-else-of_first g c =
    let s = c.args.self.now in
    let k = c.args.channel in
    let r = c.pour-else-of_first.result in
    let ne : k % 2 ≡ 0 → ⊥ = eqb-false (k % 2) 0 (sym c.of_first.ensures ∙ c.if-of_first.false) in
    let odd : k % 2 ≡ 1 = omega arith in
    record {
      answer = c.pour-else-of_first.ensures.answer ∙ odd_answer k odd g.S.Sink.meaning g.T.Sink.meaning (g.S.Sink.stock s.first) (g.T.Sink.stock s.second) (length c.args.buffer.now);
      unmoved = ap (λ p. (g.S.Sink.position s.first, p)) c.pour-else-of_first.ensures.unmoved;
      stocked = odd_stocked k odd (is_ok r) (g.S.Sink.stock s.first) (g.T.Sink.stock s.second) (g.T.Sink.stock c.pour-else-of_first.new.self) c.pour-else-of_first.ensures.stocked;
      written = odd_written k odd (is_ok r) (g.S.Sink.stock s.first) (g.T.Sink.stock s.second) c.args.buffer.now c.pour-else-of_first.new.buffer c.pour-else-of_first.ensures.written;
    }
