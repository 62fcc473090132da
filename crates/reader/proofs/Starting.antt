-- The state after no symbol.
use Rattle.std.proofs.Common.{◌≡◌, ℕ, ◌+◌, ◌-◌, ◌<◌, List, [], ◌++◌, length, sym, ap, ◌∙◌, subst, ⊎_elim, append-nil, arith}
use Rattle.alphabet.specs.Meaning.{Meaning}
use Rattle.pattern.specs.declared.pattern.Pattern.{Pattern}
use Rattle.pattern.specs.Patterns.{entry_of}
use Rattle.point_set.specs.Members.{point_count}
use Rattle.walk.specs.Graphs.{graph_of, Points, none}
use Rattle.walk.specs.Codes.{Code}
use Rattle.walk.specs.Search.{Reached, In, after, Ordered, Search}
use Rattle.walk.proofs.Stretches.{search_ordered}
use Rattle.walk.proofs.Lists.{lists_first}
use Rattle.tree.specs.Limits.{capacity, first_slot}
use Rattle.tree.specs.Held.{room}
use Rattle.tree.proofs.Holding.{held_same, counted_starts, room_bound}
use Rattle.reader.specs.declared.state.Walk.{Walk}
use Rattle.reader.specs.declared.state.traversal.Traversal.{Traversal}
use Rattle.reader.specs.declared.state.Core.{Core}
use Rattle.reader.specs.Marks.{marked}
use Rattle.reader.specs.Spread.{Under, Blank, Ready, Spread}
use Rattle.reader.specs.State.{State}
use Rattle.reader.specs.Gather.{Gathered, Parted}
use Rattle.reader.specs.Reading.{ListsLive, StateOf, Opened}
use Rattle.reader.proofs.Basics.{unmarked_bound, no_marks}
use Rattle.reader.proofs.Reading.{turn, shared_is, counts_is, lists_from}

module _ {s : Traversal} (B : Blank s) where
  pub ready_first : {p : ℕ} → p < point_count → Ready s p first_slot
  ready_first h =
      let b = unmarked_bound s.marks in
      let a = B.tree.left in
      let f = ap length B.found in
      record {
        space = omega (arith, a, b);
        spots = omega (arith, b, f);
        here = h;
        path = [];
        held = B.tree.held;
        alone = λ i ys w. (B.tree.only i ys w).0;
      }

  module _ {pattern : Pattern} {p : ℕ} {s' : Traversal} (X : Spread pattern s p first_slot s') where
    no_path : X.path ≡ []
    no_path = held_same s.tree first_slot X.path [] X.had B.tree.held

    state_found : State s'.tree s'.found.items [] X.walks []
    state_found = record {
      made = subst (λ (ws : List Walk). Under s'.tree [] ws X.walks) (sym (X.line ∙ ap (λ (ws : List Walk). ws ++ X.news) B.found)) (subst (λ (d : Code). Under s'.tree d X.news X.walks) no_path X.under);
      to_go = tt;
      only = λ k ys w. ⊎_elim
          (λ v. absurd (v.0 (B.tree.only k ys v.1).0))
          (λ v. (v.0, subst (λ (d : Code). In v.0 d (X.walks ++ [])) (sym (v.1.2 ∙ ap (λ (d : Code). d ++ v.1.0) no_path)) (subst (In v.0 v.1.0) (sym (append-nil X.walks)) v.1.1)))
          (X.only k ys w);
      ordered = subst Ordered (sym (append-nil X.walks)) (search_ordered (graph_of pattern) X.search);
    }

    pub opened : p ≡ entry_of pattern → {xs : Code} {c : Core} → c.live.items ≡ s'.found.items → Gathered s'.tree xs c.traversal.tree → Parted c.traversal.tree → Opened pattern c xs
    opened from {xs} {c} e G P =
        let T = turn state_found G in
        let v = X.space in
        let b = unmarked_bound s.marks in
        let l = B.tree.left in
        let r = G.more in
        record {
          walks = T.walks;
          standing = subst (λ (ws : List Walk). State c.traversal.tree [] ws [] T.walks) (sym e) T.standing;
          marks = marked s'.marks;
          search = subst (λ (j : ℕ). Search (graph_of pattern) none j (after xs T.walks) (marked s'.marks)) from
              (subst (λ (x : List Reached). Search (graph_of pattern) none p x (marked s'.marks)) T.is (subst (λ (N : Points). Search (graph_of pattern) N p X.walks (marked s'.marks)) (no_marks s.marks B.marks) X.search));
          parted = P;
          space = omega (arith, v, b, l, r);
        }

-- it is the state of no symbols
module _ {Symbol : Type 0} (L : Meaning Symbol) (pattern : Pattern) (s : Core) (xs : Code) (O : Opened pattern s xs) where
  pub lists_start : ListsLive L pattern [] (after xs O.walks)
  lists_start = lists_from L pattern [] (after xs O.walks) (lists_first L (graph_of pattern) (entry_of pattern) (after xs O.walks) O.marks O.search)

  pub state_of : (q : ℕ) (c : Code) → In q c O.walks → StateOf L pattern s [] xs
  state_of q c i =
      let b = room_bound s.traversal.tree in
      let h = O.space in
      let e : (capacity - room s.traversal.tree) + room s.traversal.tree ≡ capacity = omega (arith, b) in
      record {
        walks = O.walks;
        standing = O.standing;
        lists = lists_start;
        shared = shared_is L pattern [] xs s.traversal.tree s.live.items O.walks O.standing lists_start O.parted q c i;
        size = capacity - room s.traversal.tree;
        counts = counts_is L pattern [] xs s.traversal.tree s.live.items O.walks O.standing lists_start (capacity - room s.traversal.tree) (counted_starts s.traversal.tree (capacity - room s.traversal.tree) e);
        count = e;
        within = omega (arith, h);
      }
