use Rattle.std.proofs.Common.{◌+◌, ◌-◌, ◌≤◌, take, drop, Some, sym, ap, ◌∙◌, arith}
use Rattle.pattern.proofs.Links.{text_inside, text_bytes}
use Rattle.pattern.proofs.pattern.Pattern.text.Goals as goal

pub slice_bounds-result-end-2 : goal.slice_bounds-result-end-2
slice_bounds-result-end-2 c =
    let p = c.args.self.now in
    let t = text_inside p c.args.at c.in-Some-Text.start c.in-Some-Text.len _ (sym c.point.ensures.value ∙ c.in-Some-Text.is ∙ ap Some c.in-Some-Text.field-0-is) in
    let fits : c.from-start.result + c.from.result ≤ 1024 = omega (arith, t, p.little, c.from-start.ensures, c.from.ensures) in
    fits

pub returns : goal.returns
returns c =
    let p = c.args.self.now in
    let same = text_bytes p c.args.at c.in-Some-Text.start c.in-Some-Text.len _ (sym c.point.ensures.value ∙ c.in-Some-Text.is ∙ ap Some c.in-Some-Text.field-0-is) in
    ap (λ n. take (n + c.from.result - n) (drop n p.text)) c.from-start.ensures
    ∙ ap (λ n. take (c.in-Some-Text.start + n - c.in-Some-Text.start) (drop c.in-Some-Text.start p.text)) c.from.ensures ∙ same
