-- The graph of a pattern.
use Rattle.std.proofs.Common.{◌≡◌, ℕ, ◌<◌, length, sym, ap, ◌∙◌, arith, inl, inr}
use Rattle.std.proofs.lemmas.Bool.{cases_lt}
use Rattle.std.proofs.lemmas.Option.{slice_get_past}
use Rattle.pattern.specs.Points.{step_of}
use Rattle.pattern.specs.Patterns.{points_of}
use Rattle.pattern.specs.declared.pattern.Pattern.{Pattern}
use Rattle.pattern.specs.declared.step.Step.TheVariants.{Read}
use Rattle.walk.specs.Graphs.{graph_of}

-- a point that reads is one of the pattern's
pub reads_here : (p : Pattern) (q class k : ℕ) → graph_of p q ≡ Read class k → q < length (points_of p)
reads_here p q class k e =
    elim (cases_lt q (length (points_of p))) [
      | inl l ↦ l
      | inr l ↦ let f = ap step_of (sym (slice_get_past (points_of p) q l)) ∙ e in let z : ◌≡◌ {A = ℕ} 0 1 = cc in absurd (omega arith)
    ]
