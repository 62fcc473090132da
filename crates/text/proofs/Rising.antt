-- What the texts of every pattern keep, and the way past them.
use Rattle.std.proofs.Common.{◌≡◌, ℕ, suc, ◌+◌, ◌<◌, ◌≤◌, List, [], ◌∷◌, ◌++◌, length, Some, None, Option, sym, refl, ap, ◌∙◌, subst, inl, inr, arith, length-drop, length-take}
use mathlib.Core.Logic.{∥∥₁_elim}
use native.Mathlib.Bridge.{le_prop}
use Rattle.std.proofs.lemmas.Bool.{cases_lt}
use Rattle.std.specs.List.{slice_get}
use Rattle.pattern.specs.declared.point.Point.{Point}
use Rattle.pattern.specs.declared.point.Point.TheVariants.{Read, Text, Choice, Star}
use Rattle.pattern.specs.declared.step.Step.TheVariants as step
use Rattle.pattern.specs.declared.pattern.Pattern.{Pattern}
use Rattle.pattern.specs.Limits.{most_points, most_text}
use Rattle.pattern.specs.Expressions.{size}
use Rattle.pattern.specs.Points.{step_of, step_at}
use Rattle.pattern.specs.Patterns.{points_of, text_of, bytes_at, Leads, LeadsIf}
use Rattle.pattern.proofs.Tables.{length_table}
use Rattle.pattern.proofs.Links.{count_points, point_at, none_at, leads_at}
use Rattle.text.specs.Passing.{settled, passed, NoText}
use Rattle.text.specs.declared.passing.Texts.{Texts}
use Rattle.text.specs.Laws.{TextsEnd}
use Rattle.text.specs.TextMeaning.{kind_of}
use Rattle.text.specs.Texts.{Passes, Stays}
use Rattle.text.proofs.Settling.{Up, Rises, ends_from, settled_stays, passed_silent, settled_goes, passed_writes}

up_if : (n i : ℕ) (p : Point) → Leads n i p → Up i p
up_if n i (Read keep class next) h = tt
up_if n i (Text start len next) h = h.1
up_if n i (Choice a b) h = tt
up_if n i (Star a b) h = tt

rises_from : (n : ℕ) (ps : List Point) (i : ℕ) → ((j : ℕ) → LeadsIf n (i + j) (slice_get ps j)) → Rises i ps
rises_from n [] i h = tt
rises_from n (p ∷ ps) i h =
    let here : i + 0 ≡ i = omega arith in (
      up_if n i p (subst (λ (k : ℕ). Leads n k p) here (h 0).1),
      rises_from n ps (suc i) (λ j. let e : i + suc j ≡ suc i + j = omega arith in subst (λ (k : ℕ). LeadsIf n k (slice_get ps j)) e (h (suc j))),
    )

-- a point that steps on freely is a text, and any other is none
text_at : (o : Option Point) (n : ℕ) → step_of o ≡ step.Pass n → (start : ℕ) × (len : ℕ) × (o ≡ Some (Text start len n))
text_at None n h = cc
text_at (Some (Read keep class next)) n h = cc
text_at (Some (Text start len next)) n h = (start, len, let e : next ≡ n = cc in ap (λ (k : ℕ). Some (Text start len k)) e)
text_at (Some (Choice a b)) n h = cc
text_at (Some (Star a b)) n h = cc

no_text_at : (o : Option Point) → ((n : ℕ) → step_of o ≡ step.Pass n → ⊥) → NoText o
no_text_at None h = tt
no_text_at (Some (Read keep class next)) h = tt
no_text_at (Some (Text start len next)) h = h next refl
no_text_at (Some (Choice a b)) h = tt
no_text_at (Some (Star a b)) h = tt

short_at : (ts : List ℕ) (o : Option Point) → length (bytes_at ts o) ≤ length ts
short_at ts None = omega arith
short_at ts (Some (Read keep class next)) = omega arith
short_at ts (Some (Text start len next)) = simp (length-take, length-drop) (omega arith)
short_at ts (Some (Choice a b)) = omega arith
short_at ts (Some (Star a b)) = omega arith

module _ (p : Pattern) where
  leads_all : (j : ℕ) → LeadsIf (length (points_of p)) j (slice_get (points_of p) j)
  leads_all j =
      elim (cases_lt j p.count) [
        | inl l ↦ subst (LeadsIf (length (points_of p)) j) (point_at p j (Choice 0 0) l) (leads_at p j (Choice 0 0) l)
        | inr l ↦ subst (LeadsIf (length (points_of p)) j) (none_at p j l) (let n = count_points p in omega arith)
      ]

  rises : Rises 0 (points_of p)
  rises = rises_from (length (points_of p)) (points_of p) 0 (λ j. let e : j ≡ 0 + j = omega arith in subst (λ (k : ℕ). LeadsIf (length (points_of p)) k (slice_get (points_of p) j)) e (leads_all j))

  text_leads : (k start len next : ℕ) → slice_get (points_of p) k ≡ Some (Text start len next) → (next ≤ length (points_of p)) × (k < next)
  text_leads k start len next e = (subst (LeadsIf (length (points_of p)) k) e (leads_all k)).1

  pub texts_end : TextsEnd p
  texts_end = record {
    ends = λ k.
        let e = ends_from (points_of p) 0 k rises (omega arith) in
        subst (λ (n : ℕ). NoText (slice_get (points_of p) n)) (let i : e.index ≡ settled (points_of p) k = omega (arith, e.is) in i) e.plain;
    stays = λ k h. settled_stays (points_of p) 0 k k (omega arith) h;
    silent = λ k h. passed_silent (text_of p) (points_of p) 0 k k (omega arith) h;
    goes_on = λ k start len next e. settled_goes (points_of p) 0 k k start len next (omega arith) (text_leads k start len next e).1 e;
    writes = λ k start len next e. passed_writes (text_of p) (points_of p) 0 k k start len next (omega arith) (text_leads k start len next e).1 e;
  }

  pub few : length (points_of p) ≤ most_points
  few = ∥∥₁_elim p.made le_prop (λ w. omega (arith, w.1.few, ap length w.1.points, length_table w.0 0 (size w.0) 0))

  little : length (text_of p) ≤ most_text
  little = ∥∥₁_elim p.made le_prop (λ w. omega (arith, w.1.little, ap length w.1.text))

  pub short_text : (k : ℕ) → length (bytes_at (text_of p) (slice_get (points_of p) k)) ≤ most_text
  short_text k = omega (arith, little, short_at (text_of p) (slice_get (points_of p) k))

-- one text is passed
pub passes_on : (s : Texts) (n : ℕ) (x : List ℕ) → step_at (points_of s.pattern.now) s.at ≡ step.Pass n
    → x ≡ bytes_at (text_of s.pattern.now) (slice_get (points_of s.pattern.now) s.at) → Passes s x record { pattern = s.pattern; at = n }
passes_on s n x h e =
    let p = s.pattern.now in
    let t = text_at (slice_get (points_of p) s.at) n h in
    let l = text_leads p s.at t.0 t.1 n t.2 in
    record {
      pattern = refl;
      up = l.1;
      within = l.0;
      short = omega (arith, ap length e, short_text p s.at);
      kind = ap (λ (k : ℕ). kind_of (slice_get (points_of p) k)) ((texts_end p).goes_on s.at t.0 t.1 n t.2);
      bytes =
          (texts_end p).writes s.at t.0 t.1 n t.2
          ∙ ap (λ (o : Option Point). bytes_at (text_of p) o ++ passed (points_of p) (text_of p) n) (sym t.2)
          ∙ ap (λ (y : List ℕ). y ++ passed (points_of p) (text_of p) n) (sym e);
    }

-- no text is there
pub stays_there : (s : Texts) → ((n : ℕ) → step_at (points_of s.pattern.now) s.at ≡ step.Pass n → ⊥) → Stays s s
stays_there s h =
    let q = no_text_at (slice_get (points_of s.pattern.now) s.at) h in
    record {
      same = refl;
      kind = ap (λ (k : ℕ). kind_of (slice_get (points_of s.pattern.now) k)) ((texts_end s.pattern.now).stays s.at q);
      bytes = (texts_end s.pattern.now).silent s.at q;
    }
