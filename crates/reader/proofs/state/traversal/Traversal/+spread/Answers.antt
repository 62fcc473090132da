use Rattle.std.proofs.Common.{◌≡◌, true, sym, ap, ◌∙◌, inl, inr, lit<, arith}
use Rattle.walk.specs.Graphs.{rests}
use Rattle.reader.proofs.Spreading.{falls, again_spread, leaf_room, leaf_spread, pass_ready, pass_spread, first_addable, first_ready, second_addable, second_ready, holder4, fork_spread}
use Rattle.reader.proofs.state.traversal.Traversal.+spread.Goals as goal

pub returns-then-contains : goal.returns-then-contains
returns-then-contains t c = again_spread c.requires (sym c.contains.ensures ∙ c.if-contains.true) c.dismiss.ensures

pub push-requires : goal.push-requires
push-requires t c = (lit< tt, leaf_room c.requires (sym c.contains.ensures ∙ c.if-contains.false) c.insert.new.self c.insert.ensures)

pub spread-requires : goal.spread-requires
spread-requires t c =
    let u = falls c.requires (sym c.contains.ensures ∙ c.if-contains.false) c.insert.new.self c.insert.ensures in
    (omega (arith, u, c.decreases), pass_ready c.requires (sym c.contains.ensures ∙ c.if-contains.false) c.insert.new.self c.insert.ensures (omega arith))

pub extend-one-requires : goal.extend-one-requires
extend-one-requires t c = first_addable c.requires (sym c.contains.ensures ∙ c.if-contains.false) c.insert.new.self c.insert.ensures

pub spread-requires-in-Fork : goal.spread-requires-in-Fork
spread-requires-in-Fork t c =
    let u = falls c.requires (sym c.contains.ensures ∙ c.if-contains.false) c.insert.new.self c.insert.ensures in
    (omega (arith, u, c.decreases), first_ready c.requires (sym c.contains.ensures ∙ c.if-contains.false) c.insert.new.self c.insert.ensures c.extend-one.ensures (omega arith))

pub extend-other-requires : goal.extend-other-requires
extend-other-requires t c = second_addable c.requires (sym c.contains.ensures ∙ c.if-contains.false) c.insert.new.self c.insert.ensures c.extend-one.ensures c.spread-in-Fork.ensures

pub spread-requires-in-Fork-2 : goal.spread-requires-in-Fork-2
spread-requires-in-Fork-2 t c =
    let u = falls c.requires (sym c.contains.ensures ∙ c.if-contains.false) c.insert.new.self c.insert.ensures in
    (omega (arith, u, c.spread-in-Fork.ensures.fewer, c.decreases), second_ready c.requires (sym c.contains.ensures ∙ c.if-contains.false) c.insert.new.self c.insert.ensures c.extend-one.ensures c.spread-in-Fork.ensures c.extend-other.ensures (omega arith))

pub dismiss-requires-in-Fork : goal.dismiss-requires-in-Fork
dismiss-requires-in-Fork t c = holder4 c.requires (sym c.contains.ensures ∙ c.if-contains.false) c.insert.new.self c.insert.ensures c.extend-one.ensures c.spread-in-Fork.ensures c.extend-other.ensures c.spread-in-Fork-2.ensures

pub returns-in-End : goal.returns-in-End
returns-in-End t c =
    let q : rests c.step.result ≡ true = elim c.in-End.is [ inl e ↦ ap rests e | inr e ↦ ap rests e.2 ] in
    leaf_spread c.requires (sym c.contains.ensures ∙ c.if-contains.false) c.insert.new.self c.insert.ensures (ap rests (sym c.step.ensures) ∙ q) c.push.ensures.items

pub returns-in-Pass : goal.returns-in-Pass
returns-in-Pass t c = pass_spread c.requires (sym c.contains.ensures ∙ c.if-contains.false) c.insert.new.self c.insert.ensures (sym c.step.ensures ∙ c.in-Pass.is) c.spread.ensures

pub returns-in-Fork : goal.returns-in-Fork
returns-in-Fork t c = fork_spread c.requires (sym c.contains.ensures ∙ c.if-contains.false) c.insert.new.self c.insert.ensures c.extend-one.ensures c.spread-in-Fork.ensures c.extend-other.ensures c.spread-in-Fork-2.ensures (sym c.step.ensures ∙ c.in-Fork.is) c.dismiss-in-Fork.ensures
