use Rattle.std.proofs.Common.{◌≡◌, ℕ, cond, List, [], ◌++◌, length, is_ok, Result, ap, ◌∙◌, ap₂, append_assoc, arith, length-append}
use Rattle.fault.specs.declared.refusal.Fault.{Fault}
use Rattle.sink.specs.Held.{held}
use Rattle.sink.specs.Meaning.{alone}
use Rattle.text.specs.TextMeaning.{text_added}
use Rattle.text.specs.TextState.{text_position}
use Rattle.text.specs.Texts.{bytes_left}
use Rattle.text.proofs.Taking.{taken_in, alone_grown}
use Rattle.text.proofs.text.TextSink.take.Goals as goal

pub append_to-requires : goal.append_to-requires
append_to-requires c =
    let plan = c.in_ok-texts.ensures in
    omega (arith, plan.fits, simp length-append at (ap length plan.adds))

pub unwrap-requires : goal.unwrap-requires
unwrap-requires c =
    let plan = c.in_ok-texts.ensures in
    taken_in (held c.append_to.new.stock) c.deref.result.now c.append.result
    (omega (
      arith,
      plan.fits,
      simp length-append at (ap length plan.adds),
      simp length-append at (ap length c.append_to.ensures),
      ap length c.deref.ensures.0,
    ))
    c.append.ensures.answer

pub returns-clause-stocked : goal.returns-clause-stocked
returns-clause-stocked c =
    let plan = c.in_ok-texts.ensures in
    let h = held c.args.self.now.stock in
    let both : held c.append_to.new.stock ++ c.deref.result.now ≡ h ++ text_added (text_position c.args.self.now) c.args.item =
    ap₂ (λ (x y : List ℕ). x ++ y) c.append_to.ensures c.deref.ensures.0
    ∙ append_assoc h (bytes_left c.in_ok-texts.field-0.texts) c.in_ok-texts.field-0.then.tail.items
    ∙ ap (λ (x : List ℕ). h ++ x) plan.adds in
    let after : held c.append.new.self ≡ h ++ text_added (text_position c.args.self.now) c.args.item =
    c.append.ensures.after
    ∙ ap (λ (r : Result (Unit {0}) Fault). cond (is_ok r) (held c.append_to.new.stock ++ c.deref.result.now) (held c.append_to.new.stock)) c.unwrap.ensures
    ∙ both in
    ap (λ (x : List ℕ). alone x []) after ∙ alone_grown h (text_added (text_position c.args.self.now) c.args.item)
