use Rattle.std.proofs.Common.{◌+◌, sym, subst, rules}
use Rattle.pattern.specs.Drafts.{Holds}
use Rattle.pattern.proofs.Operating.{took, text_works}
use Rattle.pattern.proofs.pattern.load.Loader.text.Goals as goal

pub returns : goal.returns
returns c n es h =
    let old = c.args.self.now in
    let mid = c.number.new.self in
    let a = took old mid c.in-Some.length c.in-Some.ensures in
    text_works old mid _ c.in-Some.length n a c.in-Some-split_at_checked.bytes.now es c.text.result (search rules) (search rules) (search rules)
    (c.text.ensures (n + a.long.bytes + a.long.value) es (subst (λ d. Holds d es) (sym a.draft) h))
