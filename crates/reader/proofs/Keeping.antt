-- A reader's core stays the state of some reading; and what its calls tell.
use Rattle.std.proofs.Common.{◌≡◌, ℕ, ◌<◌, Bool, true, false, ◌↔◌, List, [], ◌∷◌, ◌++◌, set, replicate, Some, None, Ok, Err, Option, Result, sym, refl, ap, ◌∙◌, subst, inl, inr, append_assoc, arith}
use mathlib.Core.Logic.{∥∥₁_map}
use Rattle.std.specs.Result.{result_err}
use Rattle.alphabet.specs.Meaning.{Meaning}
use Rattle.alphabet.specs.Items.{end_mark}
use Rattle.pattern.specs.declared.pattern.Pattern.{Pattern}
use Rattle.point_set.specs.declared.set.PointSet.{PointSet}
use Rattle.walk.specs.Codes.{Code}
use Rattle.walk.specs.Search.{after}
use Rattle.point_set.specs.Members.{members, point_count}
use Rattle.walk.specs.Graphs.{Points, add}
use Rattle.walk.proofs.Order.{in_after, in_before, add_same, add_keeps, add_cases, never_both}
use Rattle.reader.specs.declared.state.Walk.{Walk}
use Rattle.reader.specs.declared.state.Core.{Core}
use Rattle.reader.specs.declared.stop.Stop.{Stop}
use Rattle.reader.specs.Marks.{marked}
use Rattle.reader.specs.Spread.{On}
use Rattle.reader.specs.Reading.{Advances}
use Rattle.reader.specs.Ending.{end_of, Ends}
use Rattle.reader.specs.Calls.{Finishes, ShowsLive}
use Rattle.reader.specs.Seen.{Seen, every, SomeReading}
use Rattle.reader.proofs.Basics.{marks_more, no_marks, under_on, on_under, on_split}
use Rattle.reader.proofs.Reading.{all_listed}

pub some_none : {A : Type 0} {x : Option A} {a : A} → x ≡ Some a → x ≡ None → ⊥
some_none {A} {x} {a} e f = let z : Some a ≡ None = sym e ∙ f in let y : ◌≡◌ {A = ℕ} 0 1 = cc in omega (arith, y)

pub keeps_reading : (pattern : Pattern) (a : Seen) (s s' : Core) (r : Result (Unit {0}) Stop) (xs : Code) → ∥ SomeReading pattern s ∥₁ → Advances every pattern a s r s' xs → result_err r ≡ None → ∥ SomeReading pattern s' ∥₁
keeps_reading pattern a s s' (Ok u) xs z A e = ∥∥₁_map z (λ R. (R.0 ++ (a ∷ []), (R.1.0 ++ xs, (A R.0 R.1.0 R.1.1).state)))
keeps_reading pattern a s s' (Err f) xs z A e = absurd (some_none refl e)

-- the end
module _ {Symbol : Type 0} (L : Meaning Symbol) (pattern : Pattern) (s : Core) where
  pub finishes_no : (b : Bool) (xs : Code) → b ≡ false → (b ≡ false → xs ≡ []) → Ends L pattern s b xs → Finishes L pattern s (Ok false) xs
  finishes_no b xs e n E w h S =
      let E' : Ends L pattern s false xs = subst (λ (x : Bool). Ends L pattern s x xs) e E in
      ((λ A. let i = S.lists.complete (end_of pattern) A.0 A.1 in E' w h S i.0 (S.lists.sound (end_of pattern) i.0 i.1)), n e)

  pub finishes_yes : (b : Bool) (xs ys : Code) → b ≡ true → ys ≡ xs ++ (end_mark ∷ []) → Ends L pattern s b xs → Finishes L pattern s (Ok true) ys
  finishes_yes b xs ys t e E w h S =
      let E' : Ends L pattern s true xs = subst (λ (x : Bool). Ends L pattern s x xs) t E in
      (h ++ xs, E' w h S, ap (λ (z : Code). h ++ z) e ∙ sym (append_assoc h xs (end_mark ∷ [])))

-- the points of the live walks
pub shows : {Symbol : Type 0} (L : Meaning Symbol) (pattern : Pattern) (s : Core) (m : PointSet) → ((q : ℕ) → (marked m q ≡ true) ↔ On q s.live.items) → ShowsLive L pattern s m
shows L pattern s m f w h S q = (
  λ e. let i = under_on s.traversal.tree s.live.items S.walks S.standing.to_go q ((f q).0 e) in (h ++ i.0, S.lists.sound q (h ++ i.0) (in_after q i.0 h S.walks i.1)),
  λ l. let i = in_before q l.0 h S.walks (all_listed L pattern w (after h S.walks) S.lists q l.0 l.1) in (f q).1 (on_under s.traversal.tree s.live.items S.walks S.standing.to_go q i.0 i.2),
)

-- a point more
pub on_more : (ws : List Walk) (w : Walk) (m m' : PointSet) → w.point < point_count → members m' ≡ set (members m) w.point true → ((q : ℕ) → (marked m q ≡ true) ↔ On q ws) →
    (q : ℕ) → (marked m' q ≡ true) ↔ On q (ws ++ (w ∷ []))
on_more ws w m m' h e f q =
    let s = on_split ws w q in
    let k : marked m' q ≡ add w.point (marked m) q = ap (λ (M : Points). M q) (marks_more m m' w.point h e) in (
      λ y. elim (add_cases w.point q (marked m) (sym k ∙ y)) [ inl z ↦ s.1 (inl z) | inr z ↦ s.1 (inr ((f q).0 z)) ],
      λ o. elim (s.0 o) [
        | inl z ↦ k ∙ ap (add w.point (marked m)) z ∙ add_same w.point (marked m)
        | inr z ↦ k ∙ add_keeps w.point q (marked m) ((f q).1 z)
      ],
    )

pub on_none : (m : PointSet) → members m ≡ replicate point_count false → (q : ℕ) → (marked m q ≡ true) ↔ On q []
on_none m e q = (λ y. never_both y (ap (λ (M : Points). M q) (no_marks m e)), λ o. absurd o)
