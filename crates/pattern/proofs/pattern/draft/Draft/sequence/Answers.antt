use Rattle.std.proofs.Common.{◌-◌, ◌≤◌, List, ◌∷◌, length, Ok, ap, arith}
use borrow.Rule.Slice.PartMut.{put_mid}
use Rattle.std.specs.List.{refill}
use Rattle.pattern.specs.Expressions.{Expr, seq}
use Rattle.pattern.specs.Held.{Hold}
use Rattle.pattern.specs.Files.{on_two}
use Rattle.pattern.specs.Drafts.{Holds, Done}
use Rattle.pattern.proofs.Drafting.{done_in, newest, prior, two_stand, two_held, newest_within, prior_within, joined}
use Rattle.pattern.proofs.pattern.draft.Draft.sequence.Goals as goal
use Rattle.pattern.proofs.pattern.draft.Draft.sequence.Goals.{After-push}

pub offset_bounds-deref_mut-older : goal.offset_bounds-deref_mut-older
offset_bounds-deref_mut-older c =
    let same = c.as_slice.ensures.value in
    let held = c.args.self.now.held in
    let ps = c.args.self.now.points.items in
    omega (arith, prior_within ps _ _ _ same held c.in-len2-up.len_at_least, newest_within ps _ _ _ same held (omega arith), ap length c.deref_mut.ensures.value, c.deref_mut.ensures.fits)

pub slice_bounds-fill_all-count : goal.slice_bounds-fill_all-count
slice_bounds-fill_all-count c = prior_within _ _ _ _ c.as_slice.ensures.value c.args.self.now.held c.in-len2-up.len_at_least

pub slice_bounds-fill_all-start : goal.slice_bounds-fill_all-start
slice_bounds-fill_all-start c = prior_within _ _ _ _ c.as_slice.ensures.value c.args.self.now.held c.in-len2-up.len_at_least

pub slice_bounds-fill_all-end : goal.slice_bounds-fill_all-end
slice_bounds-fill_all-end c =
    let fits : (newest c.as_slice.result.now).start ≤ length c.deref_mut.result.now =
    omega (arith, newest_within c.args.self.now.points.items _ _ _ c.as_slice.ensures.value c.args.self.now.held (omega arith), ap length c.deref_mut.ensures.value) in
    fits

next : (c : After-push) (e f : Expr) (es : List Expr) → Holds c.args.self.now (f ∷ e ∷ es)
    → Hold (refill (length c.args.self.now.points.items) c.args.self.now.points.items
    (put_mid (prior c.as_slice.result.now).start ((newest c.as_slice.result.now).start - (prior c.as_slice.result.now).start)
    c.deref_mut.result.now c.fill_all.new.points))
    c.args.self.now.text.items c.push.new.self.items (seq e f ∷ es)
next c e f es h =
    let d = c.args.self.now in
    joined d.points.items d.text.items d.parts.items c.as_slice.result.now c.pop.new.self.items c.pop-2.new.self.items c.push.new.self.items
    c.known.result c.as_slice.ensures.value c.pop.ensures.rest c.pop-2.ensures.rest c.push.ensures.items e f es h
    c.deref_mut.result.now c.fill_all.new.points c.deref_mut.ensures.value c.fill_all.ensures c.known.ensures

pub invariant_of-self : goal.invariant_of-self
invariant_of-self c =
    record { held = two_held _ _ _ _ c.as_slice.ensures.value _ _ _ seq c.args.self.now.held c.in-len2-up.len_at_least (next c) }

pub returns : goal.returns
returns c n =
    two_stand _ _ _ _ c.as_slice.ensures.value (λ es. Done (on_two seq n es) c.args.place (Ok tt) _) c.in-len2-up.len_at_least
    (λ e f es h. done_in n c.args.place (seq e f ∷ es) _ tt (next c.before e f es h))
