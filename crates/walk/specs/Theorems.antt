-- What is proved of walks. L is what an alphabet means, e an expression, w and u lists of symbols. Assumes nothing.
use Rattle.std.specs.Prelude.{◌≡◌, ℕ, Bool, ◌⊎◌, ◌↔◌, List, [], ◌++◌}
use Rattle.alphabet.specs.Meaning.{Meaning}
use Rattle.alphabet.specs.Choices.{choices, packed}
use Rattle.pattern.specs.Expressions.{Expr, size}
use Rattle.pattern.specs.Points.{start}
use Rattle.pattern.specs.declared.step.Step.{Step}
use Rattle.walk.specs.Graphs.{steps, ClassesBelow}
use Rattle.walk.specs.Codes.{Code, Earlier, Begins}
use Rattle.walk.specs.Walks.{Walk, Allowed, Live, NoLive, Shared, Accepted, Greedy, Dead}
use Rattle.walk.specs.Search.{Reached, In, Ordered, PointsOnce, live_list, shared}
use Rattle.walk.specs.Tree.{Counts, tree_count}

-- two walks are the same: they pass the same points in the same order, end on the same point, and have the same code
pub record SameWalk (ps qs : List ℕ) (q r : ℕ) (c d : Code) : Type 0 where
  pub points : ps ≡ qs
  pub ending : q ≡ r
  pub code : c ≡ d

-- a code is not earlier than itself, and of two codes at most one is earlier than the other; earlier than an earlier one is earlier
pub record Order : Type 0 where
  pub not_itself : (c : Code) → Earlier c c → ⊥
  pub not_both : (c d : Code) → Earlier c d → Earlier d c → ⊥
  pub through : (b c d : Code) → Earlier b c → Earlier c d → Earlier b d

module _ {Symbol : Type 0} (L : Meaning Symbol) where
  -- The words of walks, at the graph of an expression: from its entry, and to its end point.

  -- an allowed walk over w ends on q and has the code c
  abbrev pub AllowedIn : Expr → List Symbol → ℕ → Code → Type 0
  AllowedIn e w q c = Allowed L (steps e) (start e) w q c

  -- the live walk over w that ends on q has the code c
  abbrev pub LiveIn : Expr → List Symbol → ℕ → Code → Type 0
  LiveIn e w q c = Live L (steps e) (start e) w q c

  -- no walk over w is live
  abbrev pub NoneLiveIn : Expr → List Symbol → Type 0
  NoneLiveIn e w = NoLive L (steps e) (start e) w

  -- s is what the live walks over w share
  abbrev pub SharedIn : Expr → List Symbol → Code → Type 0
  SharedIn e w s = Shared L (steps e) (start e) w s

  -- the input w is accepted
  abbrev pub AcceptedBy : Expr → List Symbol → Type 0
  AcceptedBy e w = Accepted L (steps e) (start e) (size e) w

  -- g is the greedy code of the input w
  abbrev pub GreedyIn : Expr → List Symbol → Code → Type 0
  GreedyIn e w g = Greedy L (steps e) (start e) (size e) w g

  -- no accepted input begins with w
  abbrev pub DeadIn : Expr → List Symbol → Type 0
  DeadIn e w = Dead L (steps e) (start e) (size e) w

  -- over w, the remainders past s have n different non-empty beginnings
  abbrev pub CountsIn : Expr → List Symbol → Code → ℕ → Type 0
  CountsIn e w s n = Counts L (steps e) (start e) w s n

  -- every class of the expression is one of the alphabet's
  abbrev pub WithinClasses : Expr → Type 0
  WithinClasses e = ClassesBelow L.classes (steps e)

  -- The list is that of the live walks.
  pub record ListsLive (e : Expr) (w : List Symbol) (ls : List Reached) : Type 0 where
    -- exactly the live walks are listed
    pub exactly : (q : ℕ) (c : Code) → In q c ls ↔ LiveIn e w q c
    -- wherever an allowed walk ends, a live walk is listed: there is an earliest one
    pub found : (q : ℕ) (c : Code) → AllowedIn e w q c → (d : Code) × In q d ls
    -- each once: no two end on one point
    pub once : PointsOnce ls
    -- in order: each is earlier than those behind it
    pub ordered : Ordered ls
    -- the code of none begins the code of another
    pub apart : (q r : ℕ) (c d : Code) → In q c ls → In r d ls → Begins d c → (q ≡ r) × (c ≡ d)

  -- the computed list is that of the live walks
  abbrev pub LiveListed : Type 0
  LiveListed = (e : Expr) (w : List Symbol) → ListsLive e w (live_list L e w)

  -- an input is accepted exactly when it has a greedy code, and it has no two
  abbrev pub GreedyOne : Type 0
  GreedyOne = (e : Expr) (w : List Symbol) →
      (AcceptedBy e w ↔ ((g : Code) × GreedyIn e w g)) × ((g h : Code) → GreedyIn e w g → GreedyIn e w h → g ≡ h)

  -- what is shared only grows as symbols are read
  abbrev pub SharedGrows : Type 0
  SharedGrows = (e : Expr) (w u : List Symbol) (s t : Code) → SharedIn e w s → SharedIn e (w ++ u) t → Begins t s

  -- every accepted input that begins with the symbols read has a greedy code, and what is shared begins it
  abbrev pub SharedCertain : Type 0
  SharedCertain = (e : Expr) (w u : List Symbol) (s : Code) → SharedIn e w s →
      (AcceptedBy e (w ++ u) → (g : Code) × GreedyIn e (w ++ u) g) × ((g : Code) → GreedyIn e (w ++ u) g → Begins g s)

  -- where a walk is live, what is computed is what is shared, and nothing else is
  abbrev pub SharedComputed : Type 0
  SharedComputed = (e : Expr) (w : List Symbol) (q : ℕ) (c : Code) → LiveIn e w q c →
      SharedIn e w (shared (live_list L e w)) × ((s : Code) → SharedIn e w s → s ≡ shared (live_list L e w))

  -- for a pattern within the alphabet's classes: no walk is live exactly where no accepted input begins so, and so the list is empty exactly there
  abbrev pub DeadExactly : Type 0
  DeadExactly = (e : Expr) → WithinClasses e → (w : List Symbol) →
      (NoneLiveIn e w ↔ DeadIn e w) × ((live_list L e w ≡ []) ↔ DeadIn e w)

  -- such a pattern accepts some input
  abbrev pub SomeAccepted : Type 0
  SomeAccepted = (e : Expr) → WithinClasses e → (u : List Symbol) × AcceptedBy e u

  -- what is computed is the tree's count, and it has no other
  abbrev pub TreeCounted : Type 0
  TreeCounted = (e : Expr) (w : List Symbol) (s : Code) → SharedIn e w s →
      CountsIn e w s (tree_count s (live_list L e w)) × ((m n : ℕ) → CountsIn e w s m → CountsIn e w s n → m ≡ n)

  -- The last four are of any two walks over the same symbols from one point of any graph, allowed or not, wherever they end.

  -- one of them is earlier, or they are the same walk
  abbrev pub WalksPart : Type 0
  WalksPart = (at : ℕ → Step) (w : List Symbol) (p q r : ℕ) (ps qs : List ℕ) (c d : Code) →
      Walk L at w p q ps c → Walk L at w p r qs d → Earlier c d ⊎ (Earlier d c ⊎ SameWalk ps qs q r c d)

  -- the code fixes the walk
  abbrev pub CodeFixes : Type 0
  CodeFixes = (at : ℕ → Step) (w : List Symbol) (p q r : ℕ) (ps qs : List ℕ) (c : Code) →
      Walk L at w p q ps c → Walk L at w p r qs c → SameWalk ps qs q r c c

  -- so do its choices: those of the one do not even begin those of the other, unless the walks are the same
  abbrev pub ChoicesFix : Type 0
  ChoicesFix = (at : ℕ → Step) (w : List Symbol) (p q r : ℕ) (ps qs : List ℕ) (c d : Code) (rest : List Bool) →
      Walk L at w p q ps c → Walk L at w p r qs d → choices d ≡ choices c ++ rest → SameWalk ps qs q r c d

  -- and so do the bytes that file its choices, whose last is filled with zeros
  abbrev pub BytesFix : Type 0
  BytesFix = (at : ℕ → Step) (w : List Symbol) (p q r : ℕ) (ps qs : List ℕ) (c d : Code) →
      Walk L at w p q ps c → Walk L at w p r qs d → packed (choices c) ≡ packed (choices d) → SameWalk ps qs q r c d
