use Rattle.std.proofs.Common.{◌≡◌, ℕ, true, ◌↔◌, List, get_or, take, sym, subst, arith}
use Rattle.std.proofs.lemmas.List.{take_more}
use Rattle.reader.specs.declared.state.Walk.{Walk}
use Rattle.reader.specs.Marks.{marked}
use Rattle.reader.specs.Spread.{On}
use Rattle.reader.proofs.Keeping.{on_none, on_more}
use Rattle.reader.proofs.state.Core.live_points.Goals as goal

pub loop-walk-init : goal.loop-walk-init
loop-walk-init c = on_none c.new-points.result c.new-points.ensures

pub loop-walk-preserved : goal.loop-walk-preserved
loop-walk-preserved c =
    let i = c.loop-walk.walk-index in
    let d : Walk = record { point = 0; slot = 0 } in
    let ws = c.deref-walk-items.result.now in
    subst (λ (vs : List Walk). (q : ℕ) → (marked c.insert.new.self q ≡ true) ↔ On q vs) (sym (take_more ws i d c.loop-walk-test.true))
    (on_more (take i ws) (get_or ws i d) c.loop-walk.points c.insert.new.self (omega arith) c.insert.ensures c.loop-walk.invariant)
