-- The walk on the end point.
use Rattle.std.proofs.Common.{◌≡◌, ℕ, ◌+◌, ◌<◌, true, false, ◌≢◌, List, [], ◌∷◌, ◌++◌, length, get_or, drop, sym, refl, ap, ◌∙◌, subst, inl, inr, append-nil}
use mathlib.Core.List.{append_cancel_left}
use Rattle.std.proofs.lemmas.List.{drop_more}
use Rattle.alphabet.specs.Meaning.{Meaning}
use Rattle.pattern.specs.declared.pattern.Pattern.{Pattern}
use Rattle.pattern.specs.Patterns.{entry_of}
use Rattle.walk.specs.Graphs.{graph_of}
use Rattle.walk.specs.Codes.{Code}
use Rattle.walk.specs.Search.{Reached, In, after}
use Rattle.walk.proofs.Order.{in_after, in_before}
use Rattle.walk.proofs.Lists.{live_one}
use Rattle.tree.specs.declared.paths.PathTree.{PathTree}
use Rattle.tree.specs.Held.{Held, Holder, Released}
use Rattle.reader.specs.declared.state.Walk.{Walk}
use Rattle.reader.specs.declared.state.Core.{Core}
use Rattle.reader.specs.Spread.{On}
use Rattle.reader.specs.State.{State, Standing}
use Rattle.reader.specs.Gather.{Gathered, Parted}
use Rattle.reader.specs.Reading.{LiveAt, StateOf}
use Rattle.reader.specs.Ending.{end_of, Ends}
use Rattle.reader.proofs.Basics.{under_slot, under_on, on_under}
use Rattle.reader.proofs.Reading.{all_listed}
use Rattle.reader.proofs.Carrying.{first, point_is, holder, let_go, keep}
use Rattle.reader.proofs.Sweeping.{none_left, more_done}

-- ks has the walks of ls that end on a point
pub data Picked (end : ℕ) : List Reached → List Reached → Type 0 where
  nothing : Picked end [] []
  picked : {r : Reached} {ls ks : List Reached} → r.point ≡ end → Picked end ls ks → Picked end (r ∷ ls) (r ∷ ks)
  passed : {r : Reached} {ls ks : List Reached} → r.point ≢ end → Picked end ls ks → Picked end (r ∷ ls) ks

-- of the live walks ls, those in `live` are still to go; of the others, those that do not end on the point are let go
pub record Picking (end : ℕ) (t : PathTree) (live : List Walk) (ls : List Reached) : Type 0 where
  pub kept : List Walk
  pub done : List Reached
  pub rest : List Reached
  pub news : List Reached
  pub all : ls ≡ done ++ rest
  pub picks : Picked end done news
  pub state : State t kept live news rest

picked_append : {end : ℕ} {ls ks ms ns : List Reached} → Picked end ls ks → Picked end ms ns → Picked end (ls ++ ms) (ks ++ ns)
picked_append nothing q = q
picked_append (picked e p) q = picked e (picked_append p q)
picked_append (passed n p) q = passed n (picked_append p q)

-- what is picked is there and ends on the point, and the other way round
picked_in : {end : ℕ} {ls ks : List Reached} → Picked end ls ks → (q : ℕ) (c : Code) → In q c ks → In end c ls
picked_in nothing q c i = absurd i
picked_in (picked e p) q c (inl i) = inl (sym e, i.1)
picked_in (picked e p) q c (inr i) = inr (picked_in p q c i)
picked_in (passed n p) q c i = inr (picked_in p q c i)

picked_all : {end : ℕ} {ls ks : List Reached} → Picked end ls ks → (c : Code) → In end c ls → In end c ks
picked_all nothing c i = absurd i
picked_all (picked e p) c (inl i) = inl i
picked_all (picked e p) c (inr i) = inr (picked_all p c i)
picked_all (passed n p) c (inl i) = absurd (n (sym i.0))
picked_all (passed n p) c (inr i) = picked_all p c i

pub picking_first : {end : ℕ} {t : PathTree} {live to_go : List Walk} {walks : List Reached} → to_go ≡ live → Standing t live walks → Picking end t to_go walks
picking_first {t = t} {walks = walks} e S = record { kept = []; done = []; rest = walks; news = []; all = refl; picks = nothing; state = subst (λ (ws : List Walk). Standing t ws walks) (sym e) S }

module _ {end : ℕ} {t : PathTree} {v : Walk} {live : List Walk} {ls : List Reached} (P : Picking end t (v ∷ live) ls) where
  pub kept_on : v.point ≡ end → Picking end t live ls
  kept_on e =
      let F = first P.state in
      let r = F.head in
      record {
        kept = P.kept ++ (v ∷ []);
        done = P.done ++ (r ∷ []);
        rest = F.tail;
        news = P.news ++ (r ∷ []);
        all = more_done ls P.done P.rest r F.tail P.all F.is;
        picks = picked_append P.picks (picked (sym (point_is F.state) ∙ e) nothing);
        state = keep F.state;
      }

  pub passed_on : v.point ≢ end → {t' : PathTree} → Released t v.slot t' → Picking end t' live ls
  passed_on n {t'} D =
      let F = first P.state in
      let r = F.head in
      record {
        kept = P.kept;
        done = P.done ++ (r ∷ []);
        rest = F.tail;
        news = P.news;
        all = more_done ls P.done P.rest r F.tail P.all F.is;
        picks = subst (λ (y : List Reached). Picked end (P.done ++ (r ∷ [])) y) (append-nil P.news) (picked_append P.picks (passed (λ z. n (point_is F.state ∙ z)) nothing));
        state = let_go F.state D;
      }

  -- the slot of the next walk is held
  pub next_held : Holder t v.slot
  next_held = holder (first P.state).state

-- the next walk stands first
pub to_next : {end : ℕ} {t : PathTree} (live : List Walk) (i : ℕ) (v : Walk) {ls : List Reached} → i < length live → Picking end t (drop i live) ls → Picking end t (get_or live i v ∷ drop (i + 1) live) ls
to_next {end} {t} live i v {ls} h P = subst (λ (ws : List Walk). Picking end t ws ls) (drop_more live i v h) P

-- at the end of the line
record Done (end : ℕ) (t : PathTree) (ls : List Reached) : Type 0 where
  kept : List Walk
  news : List Reached
  picks : Picked end ls news
  state : State t kept [] news []

all_picked : {end : ℕ} {t : PathTree} {live : List Walk} {ls : List Reached} → live ≡ [] → Picking end t live ls → Done end t ls
all_picked {end} {t} {live} {ls} e P =
    let q = none_left t live P.rest e P.state.to_go in
    let d : P.done ≡ ls = sym (P.all ∙ ap (λ (x : List Reached). P.done ++ x) q ∙ append-nil P.done) in
    record {
      kept = P.kept;
      news = P.news;
      picks = subst (λ (x : List Reached). Picked end x P.news) d P.picks;
      state = subst (λ (x : List Reached). State t P.kept [] P.news x) q (subst (λ (ws : List Walk). State t P.kept ws P.news P.rest) e P.state);
    }

-- where all held paths are one, it comes off whole
lone_whole : (t t' : PathTree) (xs c : Code) (k : ℕ) → Gathered t xs t' → Parted t' → Held t k c → ((j : ℕ) (ys : Code) → Held t j ys → ys ≡ c) → c ≡ xs
lone_whole t t' xs c k G P h same =
    let b = G.began k c h in
    go b.0 b.1 b.2
  where
    go : (ys : Code) → c ≡ xs ++ ys → Held t' k ys → c ≡ xs
    go [] e w = e ∙ append-nil xs
    go (y ∷ ys) e w = absurd (P y (record { slot = k; holder = record { path = y ∷ ys; held = w }; all = λ j zs v. (ys, append_cancel_left xs zs (y ∷ ys) (same j (xs ++ zs) (G.only j zs v) ∙ e)) }))

-- the answers, where `end` is the number of the end point
module _ {Symbol : Type 0} (L : Meaning Symbol) (pattern : Pattern) (s : Core) (end : ℕ) (is : end ≡ end_of pattern) where
  -- no live walk ends there
  pub ends_no : (On end s.live.items → ⊥) → (xs : Code) → Ends L pattern s false xs
  ends_no n xs w h S c l =
      let b = in_before end c h S.walks (all_listed L pattern w (after h S.walks) S.lists end c (subst (λ (j : ℕ). LiveAt L pattern w j c) (sym is) l)) in
      n (on_under s.traversal.tree s.live.items S.walks S.standing.to_go end b.0 b.2)

  -- one does
  module _ (t : PathTree) (live : List Walk) (over : live ≡ []) (f : (ls : List Reached) → Standing s.traversal.tree s.live.items ls → Picking end t live ls) (on : On end s.live.items) where
    module _ (w : List Symbol) (h : Code) (S : StateOf L pattern s w h) where
      picks : Done end t S.walks
      picks = all_picked over (f S.walks S.standing)

      live_end : (c : Code) → In end c S.walks → LiveAt L pattern w end (h ++ c)
      live_end c j = S.lists.sound end (h ++ c) (in_after end c h S.walks j)

      ended : (xs : Code) (t' : PathTree) → Gathered t xs t' → Parted t' → LiveAt L pattern w end (h ++ xs)
      ended xs t' G P =
          let i = under_on s.traversal.tree s.live.items S.walks S.standing.to_go end on in
          let c = i.0 in
          let k = under_slot t [] picks.kept picks.news picks.state.made end c (picked_all picks.picks c i.1) in
          let here = live_end c i.1 in
          let same : (l : ℕ) (ys : Code) → Held t l ys → ys ≡ c = λ l ys v.
          let o = picks.state.only l ys v in
          let m : In o.0 ys picks.news = subst (In o.0 ys) (append-nil picks.news) o.1 in
          append_cancel_left h ys c (live_one L (graph_of pattern) (entry_of pattern) w end (h ++ ys) (h ++ c) (live_end ys (picked_in picks.picks o.0 ys m)) here) in
          subst (λ (d : Code). LiveAt L pattern w end (h ++ d)) (lone_whole t t' xs c k.0 G P k.1 same) here

    pub ends_yes : (xs : Code) (t' : PathTree) → Gathered t xs t' → Parted t' → Ends L pattern s true xs
    ends_yes xs t' G P w h S = subst (λ (j : ℕ). LiveAt L pattern w j (h ++ xs)) is (ended w h S xs t' G P)
