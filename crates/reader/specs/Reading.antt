-- When a core is the state of a reading, and what one symbol more makes of it. L is what the alphabet means. Assumes nothing.
use Rattle.std.specs.Prelude.{◌≡◌, ℕ, ◌+◌, ◌<◌, ◌≤◌, ◌↔◌, List, [], ◌∷◌, ◌++◌, Ok, Err, Result}
use Rattle.alphabet.specs.Meaning.{Meaning}
use Rattle.pattern.specs.declared.pattern.Pattern.{Pattern}
use Rattle.pattern.specs.Patterns.{entry_of}
use Rattle.walk.specs.Codes.{Code}
use Rattle.walk.specs.Walks.{Allowed, Live, Shared, NoLive}
use Rattle.walk.specs.Graphs.{graph_of, Points, none}
use Rattle.walk.specs.Search.{Reached, In, Ordered, after, Search}
use Rattle.walk.specs.Tree.{Counts}
use Rattle.tree.specs.Limits.{countable, capacity}
use Rattle.tree.specs.Held.{room}
use Rattle.reader.specs.declared.state.Core.{Core}
use Rattle.reader.specs.declared.stop.Stop.{Stop}
use Rattle.reader.specs.declared.stop.Stop.TheVariants.{Dead, TreeFull}
use Rattle.reader.specs.State.{step_space, Standing}
use Rattle.reader.specs.Gather.{Parted}

module _ {Symbol : Type 0} (L : Meaning Symbol) (pattern : Pattern) where
  -- the words of walks, at the pattern's graph from its entry

  abbrev pub LiveAt : List Symbol → ℕ → Code → Type 0
  LiveAt w q c = Live L (graph_of pattern) (entry_of pattern) w q c

  abbrev pub SharedAt : List Symbol → Code → Type 0
  SharedAt w h = Shared L (graph_of pattern) (entry_of pattern) w h

  abbrev pub NoLiveAt : List Symbol → Type 0
  NoLiveAt w = NoLive L (graph_of pattern) (entry_of pattern) w

  abbrev pub CountsAt : List Symbol → Code → ℕ → Type 0
  CountsAt w h n = Counts L (graph_of pattern) (entry_of pattern) w h n

  -- the list is that of the live walks of w: each is live, each point to which an allowed walk leads has one, and they are in order
  pub record ListsLive (w : List Symbol) (ls : List Reached) : Type 0 where
    pub sound : (q : ℕ) (c : Code) → In q c ls → LiveAt w q c
    pub complete : (q : ℕ) (c : Code) → Allowed L (graph_of pattern) (entry_of pattern) w q c → (d : Code) × In q d ls
    pub ordered : Ordered ls

  -- s is the state after the symbols w, of whose walks the items h came off: the live walks are listed in order, h is what they share,
  -- and the tree counts their remainders, which are no more than it may count
  pub record StateOf (s : Core) (w : List Symbol) (h : Code) : Type 0 where
    pub walks : List Reached
    pub standing : Standing s.traversal.tree s.live.items walks
    pub lists : ListsLive w (after h walks)
    pub shared : SharedAt w h
    pub size : ℕ
    pub counts : CountsAt w h size
    pub count : size + room s.traversal.tree ≡ capacity
    pub within : size ≤ countable

  -- some walk is live after w, and s is the state then
  pub record Went (s : Core) (w : List Symbol) (h : Code) : Type 0 where
    pub point : ℕ
    pub code : Code
    pub live : LiveAt w point code
    pub state : StateOf s w h

  -- the tree of what the live walks of w do not share counts more than it may
  pub record TooBig (w : List Symbol) : Type 0 where
    pub common : Code
    pub size : ℕ
    pub shared : SharedAt w common
    pub counts : CountsAt w common size
    pub over : countable < size

  -- What each answer to a symbol says, where w are the symbols with it, h is what had come off, and xs what comes off now:
  -- read, and the state is that after w; or no walk is live any more; or the tree would count too many. A refused symbol takes nothing off.
  abbrev pub Answered : Result (Unit {0}) Stop → Core → List Symbol → Code → Code → Type 0
  Answered (Ok u) s w h xs = Went s w (h ++ xs)
  Answered (Err Dead) s w h xs = NoLiveAt w × (xs ≡ [])
  Answered (Err TreeFull) s w h xs = TooBig w × (xs ≡ [])

  -- the answer to the symbol a, for every reading of which s is the state
  abbrev pub Advances : Symbol → Core → Result (Unit {0}) Stop → Core → Code → Type 0
  Advances a s r s' xs = (w : List Symbol) (h : Code) → StateOf s w h → Answered r s' (w ++ (a ∷ [])) h xs

  -- each refusal is given exactly where it is due
  pub record Exact (r : Result (Unit {0}) Stop) (w : List Symbol) : Type 0 where
    pub dead : (r ≡ Err Dead) ↔ NoLiveAt w
    pub full : (r ≡ Err TreeFull) ↔ TooBig w

  abbrev pub Exactly : Symbol → Core → Result (Unit {0}) Stop → Type 0
  Exactly a s r = (w : List Symbol) (h : Code) → StateOf s w h → Exact r (w ++ (a ∷ []))

-- all walks of the search from the entry, without what they share
pub record Opened (pattern : Pattern) (s : Core) (xs : Code) : Type 0 where
  pub walks : List Reached
  pub standing : Standing s.traversal.tree s.live.items walks
  pub marks : Points
  pub search : Search (graph_of pattern) none (entry_of pattern) (after xs walks) marks
  pub parted : Parted s.traversal.tree
  pub space : step_space ≤ room s.traversal.tree
