-- What walks say at the points of a pattern, which come from some expression.
use Rattle.std.proofs.Common.{◌≡◌, ℕ, suc, ◌<◌, true, List, [], ◌∷◌, ◌++◌, length, sym, refl, ap, subst, arith}
use native.Mathlib.Bridge.{le_prop}
use mathlib.Core.Logic.{∥∥₁_elim, ∥∥₁_map}
use mathlib.Core.HLevel.{Π_prop}
use Rattle.std.proofs.lemmas.Option.{slice_get_past}
use Rattle.alphabet.specs.Meaning.{Meaning}
use Rattle.alphabet.specs.Items.{end_mark}
use Rattle.pattern.specs.Expressions.{Expr, size}
use Rattle.pattern.specs.Points.{points, start, step_at, step_of}
use Rattle.pattern.specs.Patterns.{points_of, entry_of}
use Rattle.pattern.specs.declared.pattern.Pattern.{Pattern}
use Rattle.pattern.specs.declared.point.Point.{Point}
use Rattle.pattern.proofs.Tables.{length_table}
use Rattle.walk.specs.Graphs.{graph_of, rests, steps, ClassesBelow}
use Rattle.walk.specs.Codes.{Code}
use Rattle.walk.specs.Walks.{Live, NoLive, Accepted}
use Rattle.walk.proofs.Laying.{To}
use Rattle.walk.proofs.Routes.{allowed_live, dead_none, live_goes_on, steps_inside, start_inside}
use Rattle.run.specs.Words.{end_of, Known, Lives, Accepts, CodesAs, Hopeless, Hopeful}

-- the expression's number of points
long : (e : Expr) → length (points e) ≡ size e
long e = length_table e 0 (size e) 0

module _ (p : Pattern) where
  inside : (q l : ℕ) → To (graph_of p q) l → l < suc (end_of p)
  inside =
      ∥∥₁_elim p.made (Π_prop (λ q. Π_prop (λ l. Π_prop (λ t. le_prop)))) (λ m.
      let P : List Point → Type 0 = λ ps. (q l : ℕ) → To (step_at ps q) l → l < suc (length ps) in
      subst P (sym m.1.points) (λ q l t. let i = steps_inside m.0 q l t in let k = long m.0 in omega (arith, i, k)))

  entry_inside : entry_of p < suc (end_of p)
  entry_inside =
      ∥∥₁_elim p.made le_prop (λ m.
      let i = start_inside m.0 in let k = long m.0 in let a = ap length m.1.points in let e = m.1.entry in omega (arith, i, k, a, e))

  end_stays : rests (graph_of p (end_of p)) ≡ true
  end_stays = ap (λ o. rests (step_of o)) (slice_get_past (points_of p) (end_of p) (omega arith))

  module _ {S : Type 0} (L : Meaning S) where
    -- an accepted input has a greedy code
    pub greedy_of : (w : List S) → Accepts L p w → (g : Code) × CodesAs L p w g
    greedy_of w a =
        let l = allowed_live L (graph_of p) (suc (end_of p)) inside (entry_of p) (end_of p) entry_inside end_stays w (end_of p) a.0 a.1 in
        (l.0 ++ (end_mark ∷ []), (l.0, l.1, refl))

    -- where no walk is live no accepted input begins so
    pub hopeless : (w : List S) → NoLive L (graph_of p) (entry_of p) w → Hopeless L p w
    hopeless w n = dead_none L (graph_of p) (suc (end_of p)) inside (entry_of p) (end_of p) entry_inside end_stays w n

    -- where a walk is live some accepted input begins so
    pub hopeful : (some : (class : ℕ) → class < L.classes → (s : S) × (L.belongs class s ≡ true)) → Known L p →
        (w : List S) (q : ℕ) (c : Code) → Lives L p w q c → Hopeful L p w
    hopeful some known w q c l =
        ∥∥₁_map p.made (λ m.
        let e = m.0 in
        let Q : List Point → ℕ → Type 0 = λ ps i. ClassesBelow L.classes (step_at ps) → Live L (step_at ps) i w q c → (u : List S) × Accepted L (step_at ps) i (length ps) (w ++ u) in
        let at_start : Q (points e) (start e) = λ below x.
        let g = live_goes_on L some e below w q c x in
        (g.0, subst (λ (n : ℕ). Accepted L (steps e) (start e) n (w ++ g.0)) (sym (long e)) g.1) in
        let at_points : Q (points_of p) (start e) = subst (λ (ps : List Point). Q ps (start e)) (sym m.1.points) at_start in
        let at_pattern : Q (points_of p) (entry_of p) = subst (λ (i : ℕ). Q (points_of p) i) (sym m.1.entry) at_points in
        at_pattern known l)
