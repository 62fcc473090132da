-- The answers to one symbol, for every alphabet that says the same of it.
use Rattle.std.proofs.Common.{◌≡◌, ℕ, suc, ◌+◌, ◌<◌, ◌≤◌, ◌==◌, true, false, ◌≢◌, List, [], ◌∷◌, ◌++◌, length, Ok, Err, Result, sym, refl, ap, ◌∙◌, subst, arith}
use Rattle.std.proofs.lemmas.Bool.Decides.{nat_tests}
use Rattle.alphabet.specs.Meaning.{Meaning}
use Rattle.pattern.specs.declared.pattern.Pattern.{Pattern}
use Rattle.pattern.specs.declared.step.Step.{Step}
use Rattle.walk.specs.Graphs.{graph_of, Points, none}
use Rattle.walk.specs.Codes.{Code}
use Rattle.walk.specs.Search.{Reached, In, Sweep, done, taken, dropped}
use Rattle.walk.proofs.Order.{never_both}
use Rattle.tree.specs.Limits.{countable, capacity}
use Rattle.tree.specs.Held.{Start, room}
use Rattle.tree.specs.Prefixes.{Counts as Counted}
use Rattle.reader.specs.declared.state.Walk.{Walk}
use Rattle.reader.specs.declared.state.traversal.Traversal.{Traversal}
use Rattle.reader.specs.declared.state.Core.{Core}
use Rattle.reader.specs.declared.stop.Stop.{Stop}
use Rattle.reader.specs.declared.stop.Stop.TheVariants.{Dead, TreeFull}
use Rattle.reader.specs.Marks.{marked}
use Rattle.reader.specs.Sweeping.{Sweeps}
use Rattle.reader.specs.Gather.{Gathered, Parted}
use Rattle.reader.specs.Seen.{see, every}
use Rattle.reader.specs.State.{State, step_space}
use Rattle.reader.specs.Reading.{StateOf, NoLiveAt, TooBig, Went, Advances, Exactly}
use Rattle.reader.proofs.Sweeping.{none_left}
use Rattle.reader.proofs.Exact.{exactly}
use Rattle.reader.proofs.Reading.{Turned, turn, some_walk, dead_now, full_now, read_now}

-- a sweep is one by what is said of the symbol
pub sweep_seen : {S : Type 0} (L : Meaning S) (a : S) {at : ℕ → Step} {X : Points} {ls rs : List Reached} {Y : Points} → Sweep L at a X ls rs Y → Sweep every at (see L a) X ls rs Y
sweep_seen L a done = done
sweep_seen L a (taken e b s t) = taken e b s (sweep_seen L a t)
sweep_seen L a (dropped f t) = dropped f (sweep_seen L a t)

-- whether there are walks
pub is_none : (ws : List Walk) → (length ws == 0) ≡ true → ws ≡ []
is_none [] e = refl
is_none (w ∷ ws) e = absurd (let z : suc (length ws) ≡ 0 = grind (arith, nat_tests, e) in omega (arith, z))

pub is_some : (ws : List Walk) → (length ws == 0) ≡ false → ws ≢ []
is_some ws e z = never_both (ap (λ (vs : List Walk). length vs == 0) z) e

-- a state leaves room for a step
pub spacious : {S : Type 0} (L : Meaning S) (pattern : Pattern) (s : Core) (w : List S) (h : Code) → StateOf L pattern s w h → step_space ≤ room s.traversal.tree
spacious L pattern s w h Z = let c = Z.count in let d = Z.within in omega (arith, c, d)

-- what a sweep of the live walks makes of a state, for any meaning L' that sweeps so
module _ {S T : Type 0} (L : Meaning S) (a : S) (pattern : Pattern) (L' : Meaning T) (a' : T)
    (agree : (ls rs : List Reached) (Y : Points) → Sweep L (graph_of pattern) a none ls rs Y → Sweep L' (graph_of pattern) a' none ls rs Y)
    (s : Core) (x : Traversal) (f : Sweeps L a pattern s.traversal.tree s.live.items x) where
  dead : x.found.items ≡ [] → (w : List T) (h : Code) → StateOf L' pattern s w h → NoLiveAt L' pattern (w ++ (a' ∷ []))
  dead z w h Z =
      let W = f Z.walks Z.standing in
      dead_now L' a' pattern w h Z.walks W.news (marked x.marks) Z.lists (agree Z.walks W.news (marked x.marks) W.sweep) (none_left x.tree x.found.items W.news z W.state.made)

  module _ (xs : Code) (s' : Core) (G : Gathered x.tree xs s'.traversal.tree) (P : Parted s'.traversal.tree) (same : s'.live.items ≡ x.found.items)
      (some : x.found.items ≢ []) (n : ℕ) (N : Counted (Start s'.traversal.tree) n) where
    after_it : (news : List Reached) → State x.tree x.found.items [] news [] → Turned s'.traversal.tree s'.live.items news xs
    after_it news W = subst (λ (ws : List Walk). Turned s'.traversal.tree ws news xs) (sym same) (turn W G)

    one : (news : List Reached) (X : Turned s'.traversal.tree s'.live.items news xs) → (p : ℕ) × ((c : Code) × In p c X.walks)
    one news X = some_walk s'.traversal.tree s'.live.items X.walks X.standing.to_go (λ e. some (sym same ∙ e))

    full : countable < n → (w : List T) (h : Code) → StateOf L' pattern s w h → TooBig L' pattern (w ++ (a' ∷ []))
    full o w h Z =
        let W = f Z.walks Z.standing in
        let X = after_it W.news W.state in
        let i = one W.news X in
        full_now L' a' pattern w h Z.walks W.news (marked x.marks) Z.lists (agree Z.walks W.news (marked x.marks) W.sweep) xs s' X P i.0 i.1.0 i.1.1 n N o

    read : n + room s'.traversal.tree ≡ capacity → n ≤ countable → (w : List T) (h : Code) → StateOf L' pattern s w h → Went L' pattern s' (w ++ (a' ∷ [])) (h ++ xs)
    read r o w h Z =
        let W = f Z.walks Z.standing in
        let X = after_it W.news W.state in
        let i = one W.news X in
        read_now L' a' pattern w h Z.walks W.news (marked x.marks) Z.lists (agree Z.walks W.news (marked x.marks) W.sweep) xs s' X P i.0 i.1.0 i.1.1 n N r o

-- what an answer to one symbol tells, in the words of the alphabet and of any that says the same of the symbol
pub record Tells {S : Type 0} (L : Meaning S) (a : S) (pattern : Pattern) (s : Core) (r : Result (Unit {0}) Stop) (s' : Core) (xs : Code) : Type 0 where
  pub reads : Advances L pattern a s r s' xs
  pub seen : Advances every pattern (see L a) s r s' xs
  pub exact : Exactly L pattern a s r

module _ {S : Type 0} (L : Meaning S) (a : S) (pattern : Pattern) (s : Core) (x : Traversal) (f : Sweeps L a pattern s.traversal.tree s.live.items x) where
  told : (r : Result (Unit {0}) Stop) (s' : Core) (xs : Code) → Advances L pattern a s r s' xs → Advances every pattern (see L a) s r s' xs → Tells L a pattern s r s' xs
  told r s' xs A B = record { reads = A; seen = B; exact = exactly L pattern a s r s' xs A }

  pub tells_dead : x.found.items ≡ [] → (s' : Core) (ys : Code) → ys ≡ [] → Tells L a pattern s (Err Dead) s' ys
  tells_dead z s' ys e = told (Err Dead) s' ys
      (λ w h Z. (dead L a pattern L a (λ ls rs Y W. W) s x f z w h Z, e))
      (λ w h Z. (dead L a pattern every (see L a) (λ ls rs Y W. sweep_seen L a W) s x f z w h Z, e))

  module _ (xs : Code) (s' : Core) (G : Gathered x.tree xs s'.traversal.tree) (P : Parted s'.traversal.tree) (same : s'.live.items ≡ x.found.items)
      (some : x.found.items ≢ []) (n : ℕ) (N : Counted (Start s'.traversal.tree) n) where
    -- s2 is the core that is left then
    pub tells_full : countable < n → (s2 : Core) (ys : Code) → ys ≡ [] → Tells L a pattern s (Err TreeFull) s2 ys
    tells_full o s2 ys e = told (Err TreeFull) s2 ys
        (λ w h Z. (full L a pattern L a (λ ls rs Y W. W) s x f xs s' G P same some n N o w h Z, e))
        (λ w h Z. (full L a pattern every (see L a) (λ ls rs Y W. sweep_seen L a W) s x f xs s' G P same some n N o w h Z, e))

    pub tells_read : n + room s'.traversal.tree ≡ capacity → n ≤ countable → Tells L a pattern s (Ok tt) s' xs
    tells_read r o = told (Ok tt) s' xs
        (read L a pattern L a (λ ls rs Y W. W) s x f xs s' G P same some n N r o)
        (read L a pattern every (see L a) (λ ls rs Y W. sweep_seen L a W) s x f xs s' G P same some n N r o)
