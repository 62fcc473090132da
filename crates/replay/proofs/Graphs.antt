-- The points of a pattern lead to points of it or to its end point.
use Rattle.std.proofs.Common.{◌≡◌, ℕ, ◌≤◌, length, get_or, Some, ap, ◌∙◌, subst, inl, inr, arith}
use mathlib.Core.Logic.{∥∥₁_elim}
use native.Mathlib.Bridge.{le_prop}
use Rattle.std.proofs.lemmas.Option.{slice_get_past}
use Rattle.std.proofs.lemmas.Bool.{cases_lt}
use Rattle.pattern.specs.declared.step.Step.{Step}
use Rattle.pattern.specs.declared.step.Step.TheVariants.{Read, Pass, Fork, End}
use Rattle.pattern.specs.declared.point.Point.{Point}
use Rattle.pattern.specs.declared.point.Point.TheVariants as point
use Rattle.pattern.specs.declared.pattern.Pattern.{Pattern}
use Rattle.pattern.specs.Points.{step_of}
use Rattle.pattern.specs.Patterns.{points_of, entry_of, Leads}
use Rattle.pattern.specs.Expressions.{size}
use Rattle.pattern.proofs.Tables.{length_table}
use Rattle.pattern.proofs.Links.{count_points, entry_within, point_at, none_at, leads_at}
use Rattle.walk.specs.Graphs.{graph_of}

-- each link of what a point is to a walk is at most n
abbrev pub LeadsWithin : ℕ → Step → Type 0
LeadsWithin n (Read class k) = k ≤ n
LeadsWithin n (Pass k) = k ≤ n
LeadsWithin n (Fork a b) = (a ≤ n) × (b ≤ n)
LeadsWithin n End = Unit {0}

step_leads : (x : Point) (n i : ℕ) → Leads n i x → LeadsWithin n (step_of (Some x))
step_leads (point.Read keep class k) n i h = h
step_leads (point.Text start len k) n i h = h.0
step_leads (point.Choice a b) n i h = h
step_leads (point.Star a b) n i h = h

-- the number of the end point
abbrev pub end_of : Pattern → ℕ
end_of P = length (points_of P)

abbrev blank : Point
blank = point.Choice 0 0

-- there are at most 255 points besides the end
pub end_small : (P : Pattern) → end_of P ≤ 255
end_small P = ∥∥₁_elim P.made le_prop (λ x. omega (arith, ap length x.1.points, length_table x.0 0 (size x.0) 0, x.1.few))

module _ (P : Pattern) where
  pub start_within : entry_of P ≤ end_of P
  start_within = omega (arith, count_points P, entry_within P)

  pub leads_within : (i : ℕ) → LeadsWithin (end_of P) (graph_of P i)
  leads_within i =
      elim (cases_lt i P.count) [
        | inl l ↦
            subst (λ x. LeadsWithin (end_of P) (step_of x)) (point_at P i blank l)
            (step_leads (get_or P.points i blank) (end_of P) i (leads_at P i blank l).1)
        | inr l ↦ subst (λ x. LeadsWithin (end_of P) (step_of x)) (none_at P i l) tt
      ]

not_end : (x : Point) → step_of (Some x) ≡ End → ⊥
not_end (point.Read keep class k) e = let z : ◌≡◌ {A = ℕ} 0 1 = cc in omega arith
not_end (point.Text start len k) e = let z : ◌≡◌ {A = ℕ} 0 1 = cc in omega arith
not_end (point.Choice a b) e = let z : ◌≡◌ {A = ℕ} 0 1 = cc in omega arith
not_end (point.Star a b) e = let z : ◌≡◌ {A = ℕ} 0 1 = cc in omega arith

-- there is one end point
pub only_end : (P : Pattern) (q : ℕ) → q ≤ end_of P → graph_of P q ≡ End → q ≡ end_of P
only_end P q l e =
    elim (cases_lt q P.count) [
      | inl k ↦ absurd (not_end (get_or P.points q blank) (ap step_of (point_at P q blank k) ∙ e))
      | inr k ↦ omega (arith, count_points P)
    ]

pub is_end : (P : Pattern) → graph_of P (end_of P) ≡ End
is_end P = ap step_of (slice_get_past (points_of P) (end_of P) (omega arith))
