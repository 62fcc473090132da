-- A search that writes its walks into the tree as it goes.
use Rattle.std.proofs.Common.{◌≡◌, ℕ, ◌+◌, ◌<◌, true, false, ◌≢◌, ◌⊎◌, List, [], ◌∷◌, ◌++◌, length, get_or, set, sym, refl, ap, ◌∙◌, subst, inl, inr, ⊎_elim, append_assoc, append-nil, length-append, arith}
use Rattle.std.proofs.lemmas.Bool.{cases_eq}
use Rattle.alphabet.specs.Items.{first_branch, second_branch}
use Rattle.pattern.specs.declared.pattern.Pattern.{Pattern}
use Rattle.pattern.specs.declared.step.Step.TheVariants.{Pass, Fork}
use Rattle.point_set.specs.declared.set.PointSet.{PointSet}
use Rattle.point_set.specs.Members.{members, point_count}
use Rattle.walk.specs.Graphs.{graph_of, Points, rests, add}
use Rattle.walk.specs.Codes.{Code}
use Rattle.walk.specs.Search.{Reached, In, after, Search, found, passed, forked}
use Rattle.walk.specs.Search as theory
use Rattle.walk.proofs.Order.{in_left, in_right, in_after}
use Rattle.tree.specs.declared.paths.PathTree.{PathTree}
use Rattle.tree.specs.Held.{Held, Holder, Addable, Added, Released, room}
use Rattle.tree.proofs.Holding.{held_same}
use Rattle.tree.proofs.Using.{addable_leaf, addable_beside}
use Rattle.reader.specs.declared.state.Walk.{Walk}
use Rattle.reader.specs.declared.state.traversal.Traversal.{Traversal}
use Rattle.reader.specs.Marks.{marked, unmarked}
use Rattle.reader.specs.Spread.{Under, Ready, Spread}
use Rattle.reader.proofs.Basics.{unmarked_less, marks_more, next_same, longer, under_moves, under_append, under_after}

-- a traversal with other marks, another tree, other walks found
abbrev pub noted : Traversal → PointSet → Traversal
noted s m = record { tree = s.tree; marks = m; found = s.found }

abbrev pub planted : Traversal → PathTree → Traversal
planted s t = record { tree = t; marks = s.marks; found = s.found }

abbrev pub lined : Traversal → List Walk → Traversal
lined s ws = record { tree = s.tree; marks = s.marks; found = record { items = ws } }

module _ {s : Traversal} {p h : ℕ} (R : Ready s p h) where
  -- the point is marked already
  pub again_spread : {pattern : Pattern} → get_or (members s.marks) p false ≡ true → {t' : PathTree} → Released s.tree h t' → Spread pattern s p h (planted s t')
  again_spread e {t'} D = record {
    path = R.path;
    had = R.held;
    walks = [];
    search = theory.marked e;
    news = [];
    line = sym (append-nil s.found.items);
    under = tt;
    fewer = omega arith;
    space = let r = D.left in omega (arith, r);
    spots = omega arith;
    old = λ k ys n w. D.old k ys n w;
    only = λ k ys w. inl ((λ z. D.gone ys (subst (λ (j : ℕ). Held t' j ys) z w)), D.only k ys w);
  }

  -- the point was not marked; m are the marks with it
  module _ (e : get_or (members s.marks) p false ≡ false) (m : PointSet) (M : members m ≡ set (members s.marks) p true) where
    pub falls : unmarked m + 1 ≡ unmarked s.marks
    falls = unmarked_less s.marks m p R.here e M

    marks : marked m ≡ add p (marked s.marks)
    marks = marks_more s.marks m p R.here M

    pub leaf_room : length s.found.items < point_count
    leaf_room = let u = falls in let v = R.spots in omega (arith, u, v)

    -- a walk ends there
    pub leaf_spread : {pattern : Pattern} → rests (graph_of pattern p) ≡ true → {ws : List Walk} → ws ≡ s.found.items ++ (record { point = p; slot = h } ∷ []) → Spread pattern s p h (lined (noted s m) ws)
    leaf_spread {pattern} q {ws} f = record {
      path = R.path;
      had = R.held;
      walks = record { point = p; code = [] } ∷ [];
      search = subst (λ (N : Points). Search (graph_of pattern) (marked s.marks) p (record { point = p; code = [] } ∷ []) N) (sym marks) (found e q);
      news = record { point = p; slot = h } ∷ [];
      line = f;
      under = (refl, subst (Held s.tree h) (sym (append-nil R.path)) R.held, tt);
      fewer = let u = falls in omega (arith, u);
      space = let u = falls in omega (arith, u);
      spots = let u = falls in let g = ap length f ∙ length-append s.found.items (record { point = p; slot = h } ∷ []) in omega (arith, u, g);
      old = λ k ys n w. w;
      only = λ k ys w. ⊎_elim
          (λ (z : k ≡ h). inr (p, ([], inl (refl, refl), held_same s.tree h ys R.path (subst (λ (j : ℕ). Held s.tree j ys) z w) R.held ∙ sym (append-nil R.path))))
          (λ (n : k ≢ h). inl (n, w)) (cases_eq k h);
    }

    -- it is passed freely
    pub pass_ready : {k : ℕ} → k < point_count → Ready (noted s m) k h
    pass_ready l = record {
      space = let u = falls in let v = R.space in omega (arith, u, v);
      spots = let u = falls in let v = R.spots in omega (arith, u, v);
      here = l;
      path = R.path;
      held = R.held;
      alone = R.alone;
    }

    pub pass_spread : {pattern : Pattern} {k : ℕ} → graph_of pattern p ≡ Pass k → {s' : Traversal} → Spread pattern (noted s m) k h s' → Spread pattern s p h s'
    pass_spread {pattern} {k} q {s'} X = record {
      path = X.path;
      had = X.had;
      walks = X.walks;
      search = passed e q (subst (λ (N : Points). Search (graph_of pattern) N k X.walks (marked s'.marks)) marks X.search);
      news = X.news;
      line = X.line;
      under = X.under;
      fewer = let u = falls in let v = X.fewer in omega (arith, u, v);
      space = let u = falls in let v = X.space in omega (arith, u, v);
      spots = let u = falls in let v = X.spots in omega (arith, u, v);
      old = X.old;
      only = X.only;
    }

    -- it forks: the first branch, then the second
    pub first_addable : Addable s.tree h first_branch
    first_addable = let u = falls in let v = R.space in addable_leaf s.tree h R.path R.held first_branch (omega (arith, u, v)) R.alone

    module _ {l : ℕ} {t1 : PathTree} (E : Added s.tree h first_branch l t1) where
      abbrev xs : Code
      xs = R.path

      no_more : (x i : ℕ) (ys : Code) → Held s.tree i (xs ++ (x ∷ ys)) → ⊥
      no_more x i ys w =
          let z = R.alone i (x ∷ ys) w in
          longer xs x ys (held_same s.tree h xs (xs ++ (x ∷ ys)) R.held (subst (λ (j : ℕ). Held s.tree j (xs ++ (x ∷ ys))) z w))

      h≢l : h ≢ l
      h≢l z = E.fresh xs (subst (λ (j : ℕ). Held s.tree j xs) z R.held)

      pub first_ready : {a : ℕ} → a < point_count → Ready (planted (noted s m) t1) a l
      first_ready la = record {
        space = let u = falls in let v = R.space in let w = E.left in omega (arith, u, v, w);
        spots = let u = falls in let v = R.spots in omega (arith, u, v);
        here = la;
        path = xs ++ (first_branch ∷ []);
        held = E.new xs R.held;
        alone = λ i ys w. ⊎_elim (λ z. z) (λ v. absurd (no_more first_branch i ys (subst (Held s.tree i) (append_assoc xs (first_branch ∷ []) ys) v))) (E.only i ((xs ++ (first_branch ∷ [])) ++ ys) w);
      }

      module _ {pattern : Pattern} {a : ℕ} {s2 : Traversal} (X : Spread pattern (planted (noted s m) t1) a l s2) where
        x_path : X.path ≡ xs ++ (first_branch ∷ [])
        x_path = held_same t1 l X.path (xs ++ (first_branch ∷ [])) X.had (E.new xs R.held)

        x_is : (ys c : Code) → ys ≡ X.path ++ c → ys ≡ xs ++ (first_branch ∷ c)
        x_is ys c q = q ∙ ap (λ (y : Code). y ++ c) x_path ∙ append_assoc xs (first_branch ∷ []) c

        pub h2 : Held s2.tree h xs
        h2 = X.old h xs h≢l (E.old h xs R.held)

        only_first : (i y : ℕ) (ys : Code) → Held s2.tree i (xs ++ (y ∷ ys)) → y ≡ first_branch
        only_first i y ys w =
            ⊎_elim (λ v. ⊎_elim (λ (z : i ≡ l). absurd (v.0 z)) (λ u. absurd (no_more y i ys u)) (E.only i (xs ++ (y ∷ ys)) v.1))
            (λ v. next_same xs y first_branch ys v.1.0 (x_is (xs ++ (y ∷ ys)) v.1.0 v.1.2))
            (X.only i (xs ++ (y ∷ ys)) w)

        no_second : (i : ℕ) (ys : Code) → Held s2.tree i (xs ++ (second_branch ∷ ys)) → ⊥
        no_second i ys w = let n = only_first i second_branch ys w in omega (arith, n)

        room2 : 0 < room s2.tree
        room2 = let u = falls in let v = R.space in let w = E.left in let x = X.space in let y = X.fewer in omega (arith, u, v, w, x, y)

        pub second_addable : Addable s2.tree h second_branch
        second_addable = addable_beside s2.tree h xs h2 second_branch first_branch room2 (λ (z : second_branch ≡ first_branch). omega (arith, z)) only_first

        module _ {r : ℕ} {t3 : PathTree} (F : Added s2.tree h second_branch r t3) where
          pub second_ready : {b : ℕ} → b < point_count → Ready (planted s2 t3) b r
          second_ready lb = record {
            space = let u = falls in let v = R.space in let w = E.left in let x = X.space in let y = X.fewer in let z = F.left in omega (arith, u, v, w, x, y, z);
            spots = let u = falls in let v = R.spots in let x = X.spots in omega (arith, u, v, x);
            here = lb;
            path = xs ++ (second_branch ∷ []);
            held = F.new xs h2;
            alone = λ i ys w. ⊎_elim (λ z. z) (λ v. absurd (no_second i ys (subst (Held s2.tree i) (append_assoc xs (second_branch ∷ []) ys) v))) (F.only i ((xs ++ (second_branch ∷ [])) ++ ys) w);
          }

          h≢r : h ≢ r
          h≢r z = F.fresh xs (subst (λ (j : ℕ). Held s2.tree j xs) z h2)

          module _ {b : ℕ} {s4 : Traversal} (Y : Spread pattern (planted s2 t3) b r s4) where
            y_path : Y.path ≡ xs ++ (second_branch ∷ [])
            y_path = held_same t3 r Y.path (xs ++ (second_branch ∷ [])) Y.had (F.new xs h2)

            pub h4 : Held s4.tree h xs
            h4 = Y.old h xs h≢r (F.old h xs h2)

            pub holder4 : Holder s4.tree h
            holder4 = record { path = xs; held = h4 }

            pub fork_spread : graph_of pattern p ≡ Fork a b → {t5 : PathTree} → Released s4.tree h t5 → Spread pattern s p h (planted s4 t5)
            fork_spread q {t5} D = record {
              path = xs;
              had = R.held;
              walks = after (first_branch ∷ []) X.walks ++ after (second_branch ∷ []) Y.walks;
              search = forked e q (subst (λ (N : Points). Search (graph_of pattern) N a X.walks (marked s2.marks)) marks X.search) Y.search;
              news = X.news ++ Y.news;
              line = Y.line ∙ ap (λ (z : List Walk). z ++ Y.news) X.line ∙ append_assoc (s.found.items) X.news Y.news;
              under = under_append t5 xs X.news Y.news (after (first_branch ∷ []) X.walks) (after (second_branch ∷ []) Y.walks) x_under y_under;
              fewer = let u = falls in let x = X.fewer in let y = Y.fewer in omega (arith, u, x, y);
              space = let u = falls in let w = E.left in let x = X.space in let z = F.left in let y = Y.space in let d = D.left in omega (arith, u, w, x, z, y, d);
              spots = let u = falls in let x = X.spots in let y = Y.spots in omega (arith, u, x, y);
              old = old;
              only = only;
            }
              where
                not_h : (k x : ℕ) (c : Code) → Held s4.tree k ((xs ++ (x ∷ [])) ++ c) → k ≢ h
                not_h k x c w z = longer xs x c (held_same s4.tree h xs ((xs ++ (x ∷ [])) ++ c) h4 (subst (λ (j : ℕ). Held s4.tree j ((xs ++ (x ∷ [])) ++ c)) z w) ∙ append_assoc xs (x ∷ []) c)

                x_kept : (k i : ℕ) (c : Code) → In i c X.walks → Held s2.tree k ((xs ++ (first_branch ∷ [])) ++ c) → Held t5 k ((xs ++ (first_branch ∷ [])) ++ c)
                x_kept k i c m w =
                    let d : Code = (xs ++ (first_branch ∷ [])) ++ c in
                    let nr : k ≢ r = λ z. F.fresh d (subst (λ (j : ℕ). Held s2.tree j d) z w) in
                    let v = Y.old k d nr (F.old k d w) in
                    D.old k d (not_h k first_branch c v) v

                x_under : Under t5 xs X.news (after (first_branch ∷ []) X.walks)
                x_under = under_after t5 xs (first_branch ∷ []) X.news X.walks
                    (under_moves s2.tree t5 (xs ++ (first_branch ∷ [])) X.news X.walks x_kept (subst (λ (d : Code). Under s2.tree d X.news X.walks) x_path X.under))

                y_under : Under t5 xs Y.news (after (second_branch ∷ []) Y.walks)
                y_under = under_after t5 xs (second_branch ∷ []) Y.news Y.walks
                    (under_moves s4.tree t5 (xs ++ (second_branch ∷ [])) Y.news Y.walks (λ k i c m w. D.old k ((xs ++ (second_branch ∷ [])) ++ c) (not_h k second_branch c w) w)
                    (subst (λ (d : Code). Under s4.tree d Y.news Y.walks) y_path Y.under))

                old : (k : ℕ) (ys : Code) → k ≢ h → Held s.tree k ys → Held t5 k ys
                old k ys n w =
                    let nl : k ≢ l = λ z. E.fresh ys (subst (λ (j : ℕ). Held s.tree j ys) z w) in
                    let w2 = X.old k ys nl (E.old k ys w) in
                    let nr : k ≢ r = λ z. F.fresh ys (subst (λ (j : ℕ). Held s2.tree j ys) z w2) in
                    D.old k ys n (Y.old k ys nr (F.old k ys w2))

                only : (k : ℕ) (ys : Code) → Held t5 k ys → ((k ≢ h) × Held s.tree k ys) ⊎ ((j : ℕ) × ((c : Code) × In j c (after (first_branch ∷ []) X.walks ++ after (second_branch ∷ []) Y.walks) × (ys ≡ xs ++ c)))
                only k ys w =
                    ⊎_elim (λ v. ⊎_elim (λ (z : k ≡ r). absurd (v.0 z))
                    (λ u. ⊎_elim (λ y. ⊎_elim (λ (z : k ≡ l). absurd (y.0 z)) (λ x. inl ((λ z. D.gone ys (subst (λ (j : ℕ). Held t5 j ys) z w)), x)) (E.only k ys y.1))
                    (λ y. inr (y.0, (first_branch ∷ y.1.0, in_left y.0 (first_branch ∷ y.1.0) (after (first_branch ∷ []) X.walks) (after (second_branch ∷ []) Y.walks) (in_after y.0 y.1.0 (first_branch ∷ []) X.walks y.1.1), x_is ys y.1.0 y.1.2))) (X.only k ys u))
                    (F.only k ys v.1))
                    (λ v. inr (
                      v.0,
                      (
                        second_branch ∷ v.1.0,
                        in_right v.0 (second_branch ∷ v.1.0) (after (first_branch ∷ []) X.walks) (after (second_branch ∷ []) Y.walks) (in_after v.0 v.1.0 (second_branch ∷ []) Y.walks v.1.1),
                        v.1.2 ∙ ap (λ (y : Code). y ++ v.1.0) y_path ∙ append_assoc xs (second_branch ∷ []) v.1.0,
                      ),
                    ))
                    (Y.only k ys (D.only k ys w))
