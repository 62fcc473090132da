-- What a core between symbols says of the live walks.
use Rattle.std.proofs.Common.{◌≡◌, ℕ, ◌+◌, ◌<◌, ◌≤◌, ◌≢◌, List, [], ◌∷◌, ◌++◌, sym, refl, ap, ◌∙◌, subst, inl, inr, ⊎_elim, append-nil}
use mathlib.Core.List.{append_cancel_left, Memᴰ}
use Rattle.alphabet.specs.Meaning.{Meaning}
use Rattle.pattern.specs.declared.pattern.Pattern.{Pattern}
use Rattle.pattern.specs.Patterns.{entry_of}
use Rattle.walk.specs.Graphs.{graph_of, Points, none}
use Rattle.walk.specs.Codes.{Code}
use Rattle.walk.specs.Search.{Reached, In, after, Ordered, Sweep}
use Rattle.walk.specs.Tree.{Member, Once, Node}
use Rattle.walk.proofs.Order.{in_after, in_before}
use Rattle.walk.proofs.Lists.{Lists, lists_all, lists_next}
use Rattle.tree.specs.declared.paths.PathTree.{PathTree}
use Rattle.tree.specs.Limits.{countable, capacity}
use Rattle.tree.specs.Held.{Held, Start, room}
use Rattle.tree.specs.Prefixes.{Once as OnceThere, Counts as Counted}
use Rattle.reader.specs.declared.state.Walk.{Walk}
use Rattle.reader.specs.declared.state.Core.{Core}
use Rattle.reader.specs.Spread.{Under}
use Rattle.reader.specs.State.{State, Standing}
use Rattle.reader.specs.Gather.{Gathered, Parted}
use Rattle.reader.specs.Reading.{LiveAt, SharedAt, NoLiveAt, CountsAt, ListsLive, TooBig, Went}
use Rattle.reader.proofs.Basics.{under_slot}
use Rattle.reader.proofs.Shifting.{after_after, ordered_before, sweep_after, begins_compared, rest_of}

-- the items that came off begin each code
stripped : (t t' : PathTree) (xs : Code) → Gathered t xs t' → (ws : List Walk) (rs : List Reached) → Under t [] ws rs → (ss : List Reached) × (rs ≡ after xs ss) × Under t' [] ws ss
stripped t t' xs G [] [] u = ([], refl, tt)
stripped t t' xs G [] (r ∷ rs) u = absurd u
stripped t t' xs G (w ∷ ws) [] u = absurd u
stripped t t' xs G (w ∷ ws) (r ∷ rs) u =
    let h = stripped t t' xs G ws rs u.2 in
    let b = G.began w.slot r.code u.1 in (
      record { point = r.point; code = b.0 } ∷ h.0,
      ap (λ (c : Code). record { point = r.point; code = c } ∷ rs) b.1 ∙ ap (λ (z : List Reached). record { point = r.point; code = xs ++ b.0 } ∷ z) h.1,
      (u.0, b.2, h.2),
    )

pub record Turned (t : PathTree) (live : List Walk) (news : List Reached) (xs : Code) : Type 0 where
  pub walks : List Reached
  pub is : news ≡ after xs walks
  pub standing : Standing t live walks

-- the walks found are the live ones now
pub turn : {t : PathTree} {found : List Walk} {news : List Reached} {xs : Code} {t' : PathTree} → State t found [] news [] → Gathered t xs t' → Turned t' found news xs
turn {t} {found} {news} {xs} {t'} S G =
    let h = stripped t t' xs G found news S.made in
    let o : Ordered news = subst Ordered (append-nil news) S.ordered in
    record {
      walks = h.0;
      is = h.1;
      standing = record {
        made = tt;
        to_go = h.2;
        only = λ k ys w.
            let z = S.only k (xs ++ ys) (G.only k ys w) in
            let m : In z.0 (xs ++ ys) (after xs h.0) = subst (λ (l : List Reached). In z.0 (xs ++ ys) l) (append-nil news ∙ h.1) z.1 in
            let b = in_before z.0 (xs ++ ys) xs h.0 m in
            (z.0, subst (λ (d : Code). In z.0 d h.0) (sym (append_cancel_left xs ys b.0 b.1)) b.2);
        ordered = ordered_before xs h.0 (subst Ordered h.1 o);
      };
    }

-- a walk is there if the line is not empty
pub some_walk : (t : PathTree) (ws : List Walk) (rs : List Reached) → Under t [] ws rs → ws ≢ [] → (q : ℕ) × ((c : Code) × In q c rs)
some_walk t [] rs u n = absurd (n refl)
some_walk t (w ∷ ws) [] u n = absurd u
some_walk t (w ∷ ws) (r ∷ rs) u n = (r.point, (r.code, inl (refl, refl)))

-- counts

mem_to : (t : Code) (ts : List Code) → Memᴰ t ts → Member t ts
mem_to t [] m = elim m [ ]
mem_to t (u ∷ ts) (Memᴰ.head e) = inl e
mem_to t (u ∷ ts) (Memᴰ.tail m) = inr (mem_to t ts m)

mem_from : (t : Code) (ts : List Code) → Member t ts → Memᴰ t ts
mem_from t [] m = absurd m
mem_from t (u ∷ ts) (inl e) = Memᴰ.head e
mem_from t (u ∷ ts) (inr m) = Memᴰ.tail (mem_from t ts m)

once_to : (ts : List Code) → OnceThere ts → Once ts
once_to [] o = tt
once_to (t ∷ ts) o = (λ m. o.0 (mem_from t ts m), once_to ts o.1)

-- lists of live walks, in the words of this crate and of the theory

module _ {Symbol : Type 0} (L : Meaning Symbol) (pattern : Pattern) (w : List Symbol) (ls : List Reached) where
  pub lists_to : ListsLive L pattern w ls → Lists L (graph_of pattern) (entry_of pattern) w ls
  lists_to H = record { sound = H.sound; complete = H.complete; ordered = H.ordered }

  pub lists_from : Lists L (graph_of pattern) (entry_of pattern) w ls → ListsLive L pattern w ls
  lists_from H = record { sound = H.sound; complete = H.complete; ordered = H.ordered }

  pub all_listed : ListsLive L pattern w ls → (q : ℕ) (c : Code) → LiveAt L pattern w q c → In q c ls
  all_listed H q c l = lists_all L (graph_of pattern) (entry_of pattern) w ls (lists_to H) q c l

module _ {Symbol : Type 0} (L : Meaning Symbol) (pattern : Pattern) (w : List Symbol) (g : Code)
    (tree : PathTree) (live : List Walk) (walks : List Reached) (S : Standing tree live walks) (H : ListsLive L pattern w (after g walks)) where
  live_in : (q : ℕ) (c : Code) → LiveAt L pattern w q c → (d : Code) × (c ≡ g ++ d) × In q d walks
  live_in q c l = in_before q c g walks (all_listed L pattern w (after g walks) H q c l)

  pub in_live : (q : ℕ) (d : Code) → In q d walks → LiveAt L pattern w q (g ++ d)
  in_live q d i = H.sound q (g ++ d) (in_after q d g walks i)

  pub shared_is : Parted tree → (q : ℕ) (c : Code) → In q c walks → SharedAt L pattern w g
  shared_is P q c i = (
    λ p d l. let h = live_in p d l in (h.0, h.1),
    λ t T.
        ⊎_elim (λ m. m)
        (λ m.
        let k = under_slot tree [] live walks S.to_go q c i in
        absurd (P m.0 (record {
          slot = k.0;
          holder = record { path = c; held = k.1 };
          all = λ j xs h.
              let o = S.only j xs h in
              let b = T o.0 (g ++ xs) (in_live o.0 xs o.1) in
              (m.1.0 ++ b.0, rest_of g xs t m.1.0 b.0 m.0 b.1 m.1.1);
        })))
        (begins_compared (g ++ c) g t (c, refl) (T q (g ++ c) (in_live q c i))),
  )

  pub counts_is : (n : ℕ) → Counted (Start tree) n → CountsAt L pattern w g n
  counts_is n C = (C.each, once_to C.each C.once, λ t. (to t, back t), C.many)
    where
      to : (t : Code) → Member t C.each → Node L (graph_of pattern) (entry_of pattern) w g t
      to t m =
          let b = C.those t (mem_from t C.each m) in
          let o = S.only b.entry (t ++ b.rest) b.held in
          (b.some, (o.0, (t ++ b.rest, in_live o.0 (t ++ b.rest) o.1, (b.rest, refl))))

      back : (t : Code) → Node L (graph_of pattern) (entry_of pattern) w g t → Member t C.each
      back t n =
          let rest = n.1.1.0 in
          let h = live_in n.1.0 (g ++ rest) n.1.1.1 in
          let e : rest ≡ h.0 = append_cancel_left g rest h.0 h.1 in
          let b = n.1.1.2 in
          let k = under_slot tree [] live walks S.to_go n.1.0 h.0 h.2 in
          mem_to t C.each (C.all t (record { some = n.0; entry = k.0; rest = b.0; held = subst (Held tree k.0) (sym e ∙ b.1) k.1 }))

-- one symbol more
module _ {Symbol : Type 0} (L : Meaning Symbol) (a : Symbol) (pattern : Pattern) (w : List Symbol) (h : Code) (walks news : List Reached) (N : Points)
    (H : ListsLive L pattern w (after h walks)) (W : Sweep L (graph_of pattern) a none walks news N) where
  abbrev w' : List Symbol
  w' = w ++ (a ∷ [])

  lists_news : ListsLive L pattern w' (after h news)
  lists_news = lists_from L pattern w' (after h news) (lists_next L (graph_of pattern) (entry_of pattern) w a (after h walks) (after h news) N (lists_to L pattern w (after h walks) H) (sweep_after h W))

  pub dead_now : news ≡ [] → NoLiveAt L pattern w'
  dead_now e q c l = subst (λ (x : List Reached). In q c (after h x)) e (all_listed L pattern w' (after h news) lists_news q c l)

  module _ (xs : Code) (s : Core) (T : Turned s.traversal.tree s.live.items news xs) where
    lists_now : ListsLive L pattern w' (after (h ++ xs) T.walks)
    lists_now = subst (λ (x : List Reached). ListsLive L pattern w' x) (ap (after h) T.is ∙ after_after h xs T.walks) lists_news

    module _ (P : Parted s.traversal.tree) (q : ℕ) (c : Code) (i : In q c T.walks) (n : ℕ) (C : Counted (Start s.traversal.tree) n) where
      pub full_now : countable < n → TooBig L pattern w'
      full_now o = record {
        common = h ++ xs;
        shared = shared_is L pattern w' (h ++ xs) s.traversal.tree s.live.items T.walks T.standing lists_now P q c i;
        size = n;
        counts = counts_is L pattern w' (h ++ xs) s.traversal.tree s.live.items T.walks T.standing lists_now n C;
        over = o;
      }

      pub read_now : n + room s.traversal.tree ≡ capacity → n ≤ countable → Went L pattern s w' (h ++ xs)
      read_now r o = record {
        point = q;
        code = (h ++ xs) ++ c;
        live = in_live L pattern w' (h ++ xs) s.traversal.tree s.live.items T.walks T.standing lists_now q c i;
        state = record {
          walks = T.walks;
          standing = T.standing;
          lists = lists_now;
          shared = shared_is L pattern w' (h ++ xs) s.traversal.tree s.live.items T.walks T.standing lists_now P q c i;
          size = n;
          counts = counts_is L pattern w' (h ++ xs) s.traversal.tree s.live.items T.walks T.standing lists_now n C;
          count = r;
          within = o;
        };
      }
