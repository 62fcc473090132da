-- What a search from a point does to the tree and to the walks found. Assumes nothing.
use Rattle.std.specs.Prelude.{◌≡◌, ℕ, ◌+◌, ◌<◌, ◌≤◌, ◌≢◌, ◌⊎◌, false, List, [], ◌∷◌, ◌++◌, length, replicate}
use Rattle.pattern.specs.declared.pattern.Pattern.{Pattern}
use Rattle.point_set.specs.Members.{members, point_count}
use Rattle.walk.specs.Graphs.{graph_of}
use Rattle.walk.specs.Codes.{Code}
use Rattle.walk.specs.Search.{Reached, In, Search}
use Rattle.tree.specs.declared.paths.PathTree.{PathTree}
use Rattle.tree.specs.Held.{Held, New, room}
use Rattle.reader.specs.declared.state.Walk.{Walk}
use Rattle.reader.specs.declared.state.traversal.Traversal.{Traversal}
use Rattle.reader.specs.Marks.{marked, unmarked}

-- one of the walks ends on the point q
abbrev pub On : ℕ → List Walk → Type 0
On q [] = ⊥
On q (w ∷ ws) = (q ≡ w.point) ⊎ On q ws

-- each walk of the code is one of the theory's, to the same point, and its slot holds the theory's code after the items x
abbrev pub Under : PathTree → Code → List Walk → List Reached → Type 0
Under t x [] [] = Unit {0}
Under t x [] (r ∷ rs) = ⊥
Under t x (w ∷ ws) [] = ⊥
Under t x (w ∷ ws) (r ∷ rs) = (w.point ≡ r.point) × Held t w.slot (x ++ r.code) × Under t x ws rs

-- the empty path alone is held, no point is marked, and no walk is found
pub record Blank (s : Traversal) : Type 0 where
  pub tree : New s.tree
  pub marks : members s.marks ≡ replicate point_count false
  pub found : s.found.items ≡ []

-- a search from p can begin, where slot h holds the walk to p
pub record Ready (s : Traversal) (p h : ℕ) : Type 0 where
  -- each point that is not marked yet may cost two branch items
  pub space : unmarked s.marks + unmarked s.marks ≤ room s.tree
  -- and one walk
  pub spots : length s.found.items + unmarked s.marks ≤ point_count
  pub here : p < point_count
  -- h is held, and no other held path begins with its path
  pub path : Code
  pub held : Held s.tree h path
  pub alone : (i : ℕ) (ys : Code) → Held s.tree i (path ++ ys) → i ≡ h

-- the search from p was made, where slot h held the walk to p
pub record Spread (pattern : Pattern) (s : Traversal) (p h : ℕ) (s' : Traversal) : Type 0 where
  pub path : Code
  pub had : Held s.tree h path
  -- it found these walks, and its marks are those of the search
  pub walks : List Reached
  pub search : Search (graph_of pattern) (marked s.marks) p walks (marked s'.marks)
  -- they stand behind the walks found before, and the tree holds their codes after the path of h
  pub news : List Walk
  pub line : s'.found.items ≡ s.found.items ++ news
  pub under : Under s'.tree path news walks
  -- what it cost is paid for by the points marked
  pub fewer : unmarked s'.marks ≤ unmarked s.marks
  pub space : room s.tree + (unmarked s'.marks + unmarked s'.marks) ≤ room s'.tree + (unmarked s.marks + unmarked s.marks)
  pub spots : length s'.found.items + unmarked s'.marks ≤ length s.found.items + unmarked s.marks
  -- every other path is held as before, and besides only the codes of the walks found
  pub old : (k : ℕ) (ys : Code) → k ≢ h → Held s.tree k ys → Held s'.tree k ys
  pub only : (k : ℕ) (ys : Code) → Held s'.tree k ys → ((k ≢ h) × Held s.tree k ys) ⊎ ((q : ℕ) × ((c : Code) × In q c walks × (ys ≡ path ++ c)))
