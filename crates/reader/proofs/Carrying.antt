-- One live walk goes on, or is let go.
use Rattle.std.proofs.Common.{◌≡◌, ℕ, suc, ◌<◌, ◌≢◌, List, [], ◌∷◌, ◌++◌, length, sym, refl, ap, ◌∙◌, subst, inl, inr, ⊎_elim, append_assoc, append-nil, arith}
use Rattle.walk.specs.Graphs.{graph_of}
use Rattle.walk.specs.Codes.{Code, Earlier}
use Rattle.walk.specs.Search.{Reached, In, after, Ordered}
use Rattle.walk.proofs.Order.{in_left, in_right, in_either, in_after, in_before, ordered_after, ordered_append, earlier_irrefl, earlier_grows, earlier_longer, longer_earlier}
use Rattle.walk.proofs.Stretches.{search_ordered}
use Rattle.tree.specs.declared.paths.PathTree.{PathTree}
use Rattle.pattern.specs.declared.pattern.Pattern.{Pattern}
use Rattle.point_set.specs.declared.set.PointSet.{PointSet}
use Rattle.point_set.specs.Members.{point_count}
use Rattle.tree.specs.Held.{Held, Holder, Addable, Added, Released}
use Rattle.tree.proofs.Using.{addable_leaf}
use Rattle.tree.proofs.Holding.{held_same, held_once}
use Rattle.reader.specs.declared.state.Walk.{Walk}
use Rattle.reader.specs.declared.state.traversal.Traversal.{Traversal}
use Rattle.reader.specs.Spread.{Under, Ready, Spread}
use Rattle.reader.specs.State.{State, Spare}
use Rattle.reader.proofs.Basics.{longer, under_moves, under_append, under_after}
use Rattle.reader.proofs.Spreading.{planted}

-- order in a list of two parts
pub ordered_parts : (us vs : List Reached) → Ordered (us ++ vs) → (q : ℕ) (c : Code) (p : ℕ) (d : Code) → In q c us → In p d vs → Earlier c d
ordered_parts [] vs o q c p d i j = absurd i
ordered_parts (u ∷ us) vs o q c p d (inl e) j = subst (λ (x : Code). Earlier x d) (sym e.1) (o.0 p d (in_right p d us vs j))
ordered_parts (u ∷ us) vs o q c p d (inr i) j = ordered_parts us vs o.1 q c p d i j

pub ordered_front : (us vs : List Reached) → Ordered (us ++ vs) → Ordered us
ordered_front [] vs o = tt
ordered_front (u ∷ us) vs o = (λ q c i. o.0 q c (in_left q c us vs i), ordered_front us vs o.1)

pub ordered_back : (us vs : List Reached) → Ordered (us ++ vs) → Ordered vs
ordered_back [] vs o = o
ordered_back (u ∷ us) vs o = ordered_back us vs o.1

-- the walk v is the first of those to go
pub record First (t : PathTree) (found : List Walk) (v : Walk) (live : List Walk) (news rest : List Reached) : Type 0 where
  pub head : Reached
  pub tail : List Reached
  pub is : rest ≡ head ∷ tail
  pub state : State t found (v ∷ live) news (head ∷ tail)

pub first : {t : PathTree} {found : List Walk} {v : Walk} {live : List Walk} {news rest : List Reached} → State t found (v ∷ live) news rest → First t found v live news rest
first {rest = []} S = absurd S.to_go
first {rest = r ∷ rest} S = record { head = r; tail = rest; is = refl; state = S }

module _ {t : PathTree} {found : List Walk} {v : Walk} {live : List Walk} {news : List Reached} {r : Reached} {rest : List Reached} (S : State t found (v ∷ live) news (r ∷ rest)) where
  abbrev slot : ℕ
  slot = v.slot

  pub point_is : v.point ≡ r.point
  point_is = S.to_go.0

  pub held : Held t slot r.code
  held = S.to_go.1

  later : (q : ℕ) (c : Code) → In q c rest → Earlier r.code c
  later q c j = (ordered_back news (r ∷ rest) S.ordered).0 q c j

  sooner : (q : ℕ) (c : Code) → In q c news → Earlier c r.code
  sooner q c j = ordered_parts news (r ∷ rest) S.ordered q c r.point r.code j (inl (refl, refl))

  -- no path goes on from that of r
  pub no_more : (x j : ℕ) (ys : Code) → Held t j (r.code ++ (x ∷ ys)) → ⊥
  no_more x j ys w =
      let o = S.only j (r.code ++ (x ∷ ys)) w in
      elim (in_either o.0 (r.code ++ (x ∷ ys)) news (r ∷ rest) o.1) [
        | inl m ↦ longer_earlier r.code (x ∷ ys) (sooner o.0 (r.code ++ (x ∷ ys)) m)
        | inr (inl e) ↦ longer r.code x ys (sym e.1)
        | inr (inr m) ↦ earlier_longer r.code (x ∷ ys) (later o.0 (r.code ++ (x ∷ ys)) m)
      ]

  pub holder : Holder t slot
  holder = record { path = r.code; held = held }

  only_slot : (j : ℕ) (ys : Code) → Held t j (r.code ++ ys) → j ≡ slot
  only_slot j [] w = held_once t j slot r.code (subst (Held t j) (append-nil r.code) w) held
  only_slot j (y ∷ ys) w = absurd (no_more y j ys w)

  -- the other walks are in other slots
  rest_apart : (k q : ℕ) (c : Code) → In q c rest → Held t k c → k ≢ slot
  rest_apart k q c m w z =
      earlier_irrefl r.code (subst (λ (d : Code). Earlier r.code d) (held_same t slot c r.code (subst (λ (j : ℕ). Held t j c) z w) held) (later q c m))

  news_apart : (k q : ℕ) (c : Code) → In q c news → Held t k c → k ≢ slot
  news_apart k q c m w z =
      earlier_irrefl r.code (subst (λ (d : Code). Earlier d r.code) (held_same t slot c r.code (subst (λ (j : ℕ). Held t j c) z w) held) (sooner q c m))

  -- a holder in another slot is of the rest or of the news
  others : (k : ℕ) (ys : Code) → k ≢ slot → Held t k ys → (q : ℕ) × In q ys (news ++ rest)
  others k ys n w =
      let o = S.only k ys w in
      elim (in_either o.0 ys news (r ∷ rest) o.1) [
        | inl m ↦ (o.0, in_left o.0 ys news rest m)
        | inr (inl e) ↦ absurd (n (held_once t k slot r.code (subst (Held t k) e.1 w) held))
        | inr (inr m) ↦ (o.0, in_right o.0 ys news rest m)
      ]

  ordered_less : Ordered (news ++ rest)
  ordered_less = ordered_append news rest (ordered_front news (r ∷ rest) S.ordered) (ordered_back news (r ∷ rest) S.ordered).1
      (λ q c p d j k. ordered_parts news (r ∷ rest) S.ordered q c p d j (inr k))

  -- let go
  pub let_go : {t' : PathTree} → Released t slot t' → State t' found live news rest
  let_go {t'} D = record {
    made = under_moves t t' [] found news (λ k q c m w. D.old k c (news_apart k q c m w) w) S.made;
    to_go = under_moves t t' [] live rest (λ k q c m w. D.old k c (rest_apart k q c m w) w) S.to_go.2;
    only = λ k ys w. others k ys (λ z. D.gone ys (subst (λ (j : ℕ). Held t' j ys) z w)) (D.only k ys w);
    ordered = ordered_less;
  }

  -- kept as it is
  pub keep : State t (found ++ (v ∷ [])) live (news ++ (r ∷ [])) rest
  keep = record {
    made = under_append t [] found (v ∷ []) news (r ∷ []) S.made (S.to_go.0, S.to_go.1, tt);
    to_go = S.to_go.2;
    only = λ j ys h. subst (λ (x : List Reached). (q : ℕ) × In q ys x) (sym (append_assoc news (r ∷ []) rest)) (S.only j ys h);
    ordered = subst Ordered (sym (append_assoc news (r ∷ []) rest)) S.ordered;
  }

  -- goes on, where m are the marks
  module _ (m : PointSet) where
    abbrev s : Traversal
    s = record { tree = t; marks = m; found = record { items = found } }

    pub addable : Spare s (suc (length rest)) → (item : ℕ) → Addable s.tree slot item
    addable Z item = let a = Z.space in addable_leaf s.tree slot r.code held item (omega (arith, a)) only_slot

    module _ {item h : ℕ} {t1 : PathTree} (E : Added s.tree slot item h t1) where
      pub held1 : Held t1 slot r.code
      held1 = E.old slot r.code held

      pub holder1 : Holder t1 slot
      holder1 = record { path = r.code; held = held1 }

      abbrev x : Code
      x = r.code ++ (item ∷ [])

      h≢slot : h ≢ slot
      h≢slot z = E.fresh r.code (subst (λ (j : ℕ). Held s.tree j r.code) (sym z) held)

      module _ {t2 : PathTree} (D : Released t1 slot t2) where
        pub ready : Spare s (suc (length rest)) → {k : ℕ} → k < point_count → Ready (planted s t2) k h
        ready Z l = record {
          space = let a = Z.space in let b = E.left in let c = D.left in omega (arith, a, b, c);
          spots = Z.spots;
          here = l;
          path = x;
          held = D.old h x h≢slot (E.new r.code held);
          alone = λ j ys w. ⊎_elim (λ z. z) (λ v. absurd (no_more item j ys (subst (Held s.tree j) (append_assoc r.code (item ∷ []) ys) v))) (E.only j (x ++ ys) (D.only j (x ++ ys) w));
        }

        module _ {pattern : Pattern} {k : ℕ} {s' : Traversal} (X : Spread pattern (planted s t2) k h s') where
          x_path : X.path ≡ x
          x_path = held_same t2 h X.path x X.had (D.old h x h≢slot (E.new r.code held))

          stays : (j : ℕ) (c : Code) → j ≢ slot → Held s.tree j c → Held s'.tree j c
          stays j c n w = X.old j c (λ z. E.fresh c (subst (λ (l : ℕ). Held s.tree l c) z w)) (D.old j c n (E.old j c w))

          abbrev more : List Reached
          more = after x X.walks

          only : (j : ℕ) (ys : Code) → Held s'.tree j ys → (q : ℕ) × In q ys ((news ++ more) ++ rest)
          only j ys w =
              ⊎_elim
              (λ v. ⊎_elim (λ (z : j ≡ h). absurd (v.0 z))
              (λ u.
              let o = others j ys (λ z. D.gone ys (subst (λ (l : ℕ). Held t2 l ys) z v.1)) u in
              elim (in_either o.0 ys news rest o.1) [
                | inl m ↦ (o.0, in_left o.0 ys (news ++ more) rest (in_left o.0 ys news more m))
                | inr m ↦ (o.0, in_right o.0 ys (news ++ more) rest m)
              ])
              (E.only j ys (D.only j ys v.1)))
              (λ v.
              let c = v.1.0 in (
                v.0,
                subst (λ (d : Code). In v.0 d ((news ++ more) ++ rest)) (sym (v.1.2 ∙ ap (λ (d : Code). d ++ c) x_path))
                    (in_left v.0 (x ++ c) (news ++ more) rest (in_right v.0 (x ++ c) news more (in_after v.0 c x X.walks v.1.1))),
              ))
              (X.only j ys w)

          ordered : Ordered ((news ++ more) ++ rest)
          ordered =
              ordered_append (news ++ more) rest
              (ordered_append news more (ordered_front news (r ∷ rest) S.ordered) (ordered_after x X.walks (search_ordered (graph_of pattern) X.search))
              (λ q c p d j l. let b = in_before p d x X.walks l in
              subst (λ (y : Code). Earlier c y) (sym (b.1 ∙ append_assoc r.code (item ∷ []) b.0))
              (subst (λ (y : Code). Earlier y (r.code ++ (item ∷ b.0))) (append-nil c) (earlier_grows c r.code [] (item ∷ b.0) (sooner q c j)))))
              (ordered_back news (r ∷ rest) S.ordered).1
              (λ q c p d j l. elim (in_either q c news more j) [
                | inl m ↦ ordered_parts news (r ∷ rest) S.ordered q c p d m (inr l)
                | inr m ↦ let b = in_before q c x X.walks m in
                    subst (λ (y : Code). Earlier y d) (sym (b.1 ∙ append_assoc r.code (item ∷ []) b.0))
                    (subst (λ (y : Code). Earlier (r.code ++ (item ∷ b.0)) y) (append-nil d) (earlier_grows r.code d (item ∷ b.0) [] (later p d l)))
              ])

          pub carried : State s'.tree s'.found.items live (news ++ more) rest
          carried = record {
            made = subst (λ (ws : List Walk). Under s'.tree [] ws (news ++ more)) (sym X.line)
                (under_append s'.tree [] s.found.items X.news news more
                (under_moves s.tree s'.tree [] s.found.items news (λ j q c m w. stays j c (news_apart j q c m w) w) S.made)
                (under_after s'.tree [] x X.news X.walks (subst (λ (d : Code). Under s'.tree d X.news X.walks) x_path X.under)));
            to_go = under_moves s.tree s'.tree [] live rest (λ j q c m w. stays j c (rest_apart j q c m w) w) S.to_go.2;
            only = only;
            ordered = ordered;
          }

          pub spared : Spare s (suc (length rest)) → Spare s' (length rest)
          spared Z = record {
            space = let a = Z.space in let b = E.left in let c = D.left in let d = X.space in let e = X.fewer in omega (arith, a, b, c, d, e);
            spots = let a = Z.spots in let b = X.spots in omega (arith, a, b);
          }
