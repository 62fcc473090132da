-- The theorems, at the graph of an expression.
use Rattle.std.proofs.Common.{◌≡◌, ℕ, suc, List, [], ◌∷◌, ◌++◌, sym, refl, ap, ◌∙◌, subst, inl, inr}
use Rattle.alphabet.specs.Meaning.{Meaning, Lawful}
use Rattle.alphabet.specs.Items.{end_mark}
use Rattle.pattern.specs.Expressions.{Expr, size}
use Rattle.pattern.specs.Points.{start}
use Rattle.walk.specs.Graphs.{steps}
use Rattle.walk.specs.Codes.{Code}
use Rattle.walk.specs.Search.{Reached, In, live_list, shared}
use Rattle.walk.specs.Theorems.{DeadIn, WithinClasses, LiveListed, GreedyOne, SharedIn, SharedGrows, SharedCertain, SharedComputed, DeadExactly, SomeAccepted, TreeCounted}
use Rattle.walk.proofs.Order.{earlier_longer, longer_earlier, once_of}
use Rattle.walk.proofs.Parting.{compare}
use Rattle.walk.proofs.Lists.{Lists, lists_all, live_one}
use Rattle.walk.proofs.Ends.{shared_begins, shared_grows}
use Rattle.walk.proofs.Trees.{tree_counts, counts_one}
use Rattle.walk.proofs.Fuel.{lives_list}
use Rattle.walk.proofs.Sharing.{shared_all, shared_most, begins_both}
use Rattle.walk.proofs.Routes.{some_accepted, dead_none, dead_iff, end_rests, steps_inside, start_inside, leads_inside, reads_inside}

module _ {Symbol : Type 0} (L : Meaning Symbol) where
  pub steps_list : (e : Expr) (w : List Symbol) → Lists L (steps e) (start e) w (live_list L e w)
  steps_list e w =
      lives_list L (steps e) (suc (size e)) (leads_inside L (steps e) (suc (size e)) (steps_inside e))
      (reads_inside L (steps e) (suc (size e)) (steps_inside e)) (start e) (start_inside e) w

  pub live_listed : LiveListed L
  live_listed e w =
      record {
        exactly = λ q c. ((steps_list e w).sound q c, lists_all L (steps e) (start e) w (live_list L e w) (steps_list e w) q c);
        found = (steps_list e w).complete;
        once = once_of (live_list L e w) (steps_list e w).ordered one;
        ordered = (steps_list e w).ordered;
        apart = λ q r c d i j b.
            elim (compare L (steps e) ((steps_list e w).sound q c i).0 ((steps_list e w).sound r d j).0) [
              | inl f ↦ absurd (earlier_longer c b.0 (rw b.1 at f))
              | inr (inl f) ↦ absurd (longer_earlier c b.0 (rw b.1 at f))
              | inr (inr f) ↦ f
            ];
      }
    where
      one : (q : ℕ) (c d : Code) → In q c (live_list L e w) → In q d (live_list L e w) → c ≡ d
      one q c d i j = live_one L (steps e) (start e) w q c d ((steps_list e w).sound q c i) ((steps_list e w).sound q d j)

  pub greedy_one : GreedyOne L
  greedy_one e w = (
    (
      λ a. let i = (steps_list e w).complete (size e) a.0 a.1 in
          (i.0 ++ (end_mark ∷ []), (i.0, (steps_list e w).sound (size e) i.0 i.1, refl)),
      λ g. (g.1.0, g.1.1.0),
    ),
    λ g h x y.
        let k = live_one L (steps e) (start e) w (size e) x.0 y.0 x.1 y.1 in
        x.2 ∙ ap (λ (c : Code). c ++ (end_mark ∷ [])) k ∙ sym y.2,
  )

  pub shared_only_grows : SharedGrows L
  shared_only_grows e w u s t h k = shared_grows L (steps e) (start e) w u s t h k

  pub shared_certain : SharedCertain L
  shared_certain e w u s h = ((greedy_one e (w ++ u)).0.0, λ g y. shared_begins L (steps e) (start e) (size e) w u s g h y)

  -- what is shared is one code
  pub shared_one : (e : Expr) (w : List Symbol) (s t : Code) → SharedIn L e w s → SharedIn L e w t → s ≡ t
  shared_one e w s t h k = begins_both s t (k.1 s h.0) (h.1 t k.0)

  pub shared_computed : SharedComputed L
  shared_computed e w q c x =
      let ls = live_list L e w in
      let l = (live_listed e w).exactly in
      let h : SharedIn L e w (shared ls) =
      (λ p d y. shared_all ls p d ((l p d).1 y), λ t f. shared_most ls t q c ((l q c).1 x) (λ p d i. f p d ((l p d).0 i))) in
      (h, λ s k. shared_one e w s (shared ls) k h)

  pub tree_counted : TreeCounted L
  tree_counted e w s h =
      let ls = live_list L e w in
      let l = steps_list e w in (
        tree_counts L (steps e) (start e) w ls s l (λ q c i. h.0 q c (l.sound q c i)),
        counts_one L (steps e) (start e) w s,
      )

  -- where the list is empty no accepted input begins so, whatever the classes
  pub dead_if_empty : (e : Expr) (w : List Symbol) → live_list L e w ≡ [] → DeadIn L e w
  dead_if_empty e w h =
      dead_none L (steps e) (suc (size e)) (steps_inside e) (start e) (size e) (start_inside e) (end_rests e) w
      (λ q c x. let i : In q c [] = subst (λ ls. In q c ls) h (((live_listed e w).exactly q c).1 x) in i)

  none_left : (ls : List Reached) → ((q : ℕ) (c : Code) → In q c ls → ⊥) → ls ≡ []
  none_left [] f = refl
  none_left (r ∷ ls) f = absurd (f r.point r.code (inl (refl, refl)))

  module _ (lawful : Lawful L) where
    pub dead_exactly : DeadExactly L
    dead_exactly e below w =
        let d = dead_iff L lawful.inhabited e below w in
        let l = (live_listed e w).exactly in (
          d,
          (
            dead_if_empty e w,
            λ h. none_left (live_list L e w) (λ q c i. d.1 h q c ((l q c).0 i)),
          ),
        )

    pub some_input : SomeAccepted L
    some_input e below = some_accepted L lawful.inhabited e below

    -- before any symbol some walk is live
    pub first_alive : (e : Expr) → WithinClasses L e → live_list L e [] ≡ [] → ⊥
    first_alive e below h = let a = some_input e below in dead_if_empty e [] h a.0 a.1
