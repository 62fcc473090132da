-- A pattern has a walk of no symbols.
use Rattle.std.proofs.Common.{◌≡◌, ℕ, zero, suc, ◌+◌, ◌<◌, true, List, [], ◌∷◌, Some, sym, refl, subst, inl, arith}
use mathlib.Core.Logic.{∥∥₁_elim}
use mathlib.Core.HLevel.{⊥_prop}
use Rattle.alphabet.specs.Meaning.{Meaning}
use Rattle.pattern.specs.Expressions.{Expr}
use Rattle.pattern.specs.Points.{points, start, step_at, step_of}
use Rattle.pattern.specs.Patterns.{entry_of}
use Rattle.pattern.specs.declared.pattern.Pattern.{Pattern}
use Rattle.pattern.specs.declared.point.Point.{Point}
use Rattle.pattern.specs.declared.point.Point.TheVariants as point
use Rattle.pattern.specs.declared.step.Step.TheVariants.{Read}
use Rattle.walk.specs.Graphs.{graph_of, steps, ClassesBelow}
use Rattle.walk.specs.Codes.{Code}
use Rattle.walk.specs.Walks.{Live, NoLive}
use Rattle.walk.specs.Search.{Reached, In, after}
use Rattle.walk.proofs.Routes.{dead_iff, some_accepted}
use Rattle.reader.specs.declared.state.Core.{Core}
use Rattle.reader.specs.Reading.{Opened, StateOf}
use Rattle.reader.proofs.Reading.{all_listed}
use Rattle.reader.proofs.Starting.{lists_start, state_of}

-- more than every class among the points
abbrev class_of : Point → ℕ
class_of (point.Read keep class k) = suc class
class_of (point.Text s n k) = 0
class_of (point.Choice a b) = 0
class_of (point.Star a b) = 0

abbrev classes : List Point → ℕ
classes [] = 0
classes (p ∷ ps) = class_of p + classes ps

class_step : (o : Point) (class k : ℕ) → step_of (Some o) ≡ Read class k → class < class_of o
class_step (point.Read keep c j) class k e = let z : c ≡ class = cc in omega (arith, z)
class_step (point.Text s n j) class k e = absurd (let z : ◌≡◌ {A = ℕ} 0 1 = cc in omega (arith, z))
class_step (point.Choice a b) class k e = absurd (let z : ◌≡◌ {A = ℕ} 0 1 = cc in omega (arith, z))
class_step (point.Star a b) class k e = absurd (let z : ◌≡◌ {A = ℕ} 0 1 = cc in omega (arith, z))

class_below : (ps : List Point) (i class k : ℕ) → step_at ps i ≡ Read class k → class < classes ps
class_below [] i class k e = absurd (let z : ◌≡◌ {A = ℕ} 0 1 = cc in omega (arith, z))
class_below (p ∷ ps) zero class k e = let h = class_step p class k e in omega (arith, h)
class_below (p ∷ ps) (suc i) class k e = let h = class_below ps i class k e in omega (arith, h)

-- an alphabet of one symbol that belongs to every class
abbrev lone : ℕ → Meaning (Unit {0})
lone n = record { classes = n; belongs = λ c s. true; number = λ s. 0 }

-- the walks of no symbols are not none
some_live : (e : Expr) → NoLive (lone (classes (points e))) (steps e) (start e) [] → ⊥
some_live e n =
    let L = lone (classes (points e)) in
    let some : (c : ℕ) → c < L.classes → (a : Unit {0}) × (L.belongs c a ≡ true) = λ c h. (tt, refl) in
    let below : ClassesBelow L.classes (steps e) = λ p c k z. class_below (points e) p c k z in
    let d = (dead_iff L some e below []).0 n in
    let u = some_accepted L some e below in
    d u.0 u.1

module _ (pattern : Pattern) (s : Core) (xs : Code) (O : Opened pattern s xs) where
  never_empty : O.walks ≡ [] → ⊥
  never_empty z = ∥∥₁_elim pattern.made ⊥_prop (λ m.
      let e = m.0 in
      let L = lone (classes (points e)) in
      some_live e (λ q c l.
      let l1 : Live L (graph_of pattern) (entry_of pattern) [] q c =
      subst (λ (i : ℕ). Live L (graph_of pattern) i [] q c) (sym m.1.entry) (subst (λ (ps : List Point). Live L (step_at ps) (start e) [] q c) (sym m.1.points) l) in
      subst (λ (rs : List Reached). In q c (after xs rs)) z (all_listed L pattern [] (after xs O.walks) (lists_start L pattern s xs O) q c l1)))

  some_one : (rs : List Reached) → (rs ≡ [] → ⊥) → (q : ℕ) × ((c : Code) × In q c rs)
  some_one [] n = absurd (n refl)
  some_one (r ∷ rs) n = (r.point, (r.code, inl (refl, refl)))

  -- it is the state of no symbols, for every alphabet
  pub starts : {Symbol : Type 0} (L : Meaning Symbol) → StateOf L pattern s [] xs
  starts L = let i = some_one O.walks never_empty in state_of L pattern s xs O i.0 i.1.0 i.1.1
