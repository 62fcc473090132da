use Rattle.std.proofs.Common.{List, ◌++◌, sym, refl, ap, ◌∙◌}
use Rattle.reader.specs.declared.state.Walk.{Walk}
use Rattle.reader.specs.Calls.{held_in}
use Rattle.reader.proofs.Answering.{is_none, is_some, tells_dead, tells_full, tells_read}
use Rattle.reader.proofs.state.Core.advance.Goals as goal

pub returns-then-is_empty : goal.returns-then-is_empty
returns-then-is_empty g c =
    let T = tells_dead (g.A.Alphabet.meaning c.args.grammar.now.alphabet.now) c.args.symbol.now c.args.grammar.now.pattern.now c.args.self.now c.sweep.new.self c.sweep.ensures (is_none c.sweep.new.self.found.items (sym c.is_empty.ensures ∙ c.if-is_empty.true)) c.args.self.now c.clear.new.self.items c.clear.ensures in
    record { reads = T.reads; seen = T.seen; exact = T.exact }

pub returns-then-is_over : goal.returns-then-is_over
returns-then-is_over g c =
    let T = tells_full (g.A.Alphabet.meaning c.args.grammar.now.alphabet.now) c.args.symbol.now c.args.grammar.now.pattern.now c.args.self.now c.sweep.new.self c.sweep.ensures (held_in c.gather.new.self) (record { traversal = record { tree = c.gather.new.tree; marks = c.sweep.new.self.marks; found = c.sweep.new.self.found }; live = c.sweep.new.self.found }) c.gather.ensures.all c.gather.ensures.parted refl (is_some c.sweep.new.self.found.items (sym c.is_empty.ensures ∙ c.if-is_empty.false)) c.count.result c.count.ensures.counts (c.is_over.ensures.over c.if-is_over.true) c.args.self.now c.clear-then-is_over.new.self.items c.clear-then-is_over.ensures in
    record { reads = T.reads; seen = T.seen; exact = T.exact }

pub returns : goal.returns
returns g c =
    let ran = rw c.unwrap.ensures at c.try_extend_from_slice.ensures.ok in
    let same = ran ∙ ap (λ (ws : List Walk). ws ++ c.deref.result.now) c.clear-2.ensures ∙ c.deref.ensures.0 in
    let T = tells_read (g.A.Alphabet.meaning c.args.grammar.now.alphabet.now) c.args.symbol.now c.args.grammar.now.pattern.now c.args.self.now c.sweep.new.self c.sweep.ensures (held_in c.gather.new.self) _ c.gather.ensures.all c.gather.ensures.parted same (is_some c.sweep.new.self.found.items (sym c.is_empty.ensures ∙ c.if-is_empty.false)) c.count.result c.count.ensures.counts c.count.ensures.room (c.is_over.ensures.within c.if-is_over.false) in
    record { reads = T.reads; seen = T.seen; exact = T.exact }
