-- The state part way through the step at a symbol: some live walks are done with, the rest stand. Assumes nothing.
use Rattle.std.specs.Prelude.{ℕ, ◌+◌, ◌≤◌, List, [], ◌++◌, length}
use Rattle.point_set.specs.Members.{point_count}
use Rattle.walk.specs.Codes.{Code}
use Rattle.walk.specs.Search.{Reached, In, Ordered}
use Rattle.tree.specs.Limits.{step_branches, step_reads}
use Rattle.tree.specs.declared.paths.PathTree.{PathTree}
use Rattle.tree.specs.Held.{Held, room}
use Rattle.reader.specs.declared.state.Walk.{Walk}
use Rattle.reader.specs.declared.state.traversal.Traversal.{Traversal}
use Rattle.reader.specs.Marks.{unmarked}
use Rattle.reader.specs.Spread.{Under}

-- The walks found are `news` and the live walks to go are `rest`; their codes and no others are in the tree, and they are in order.
pub record State (t : PathTree) (found live : List Walk) (news rest : List Reached) : Type 0 where
  pub made : Under t [] found news
  pub to_go : Under t [] live rest
  pub only : (k : ℕ) (ys : Code) → Held t k ys → (q : ℕ) × In q ys (news ++ rest)
  pub ordered : Ordered (news ++ rest)

-- between two steps: all live walks are to go, and none is found
abbrev pub Standing : PathTree → List Walk → List Reached → Type 0
Standing t live walks = State t [] live [] walks

-- there is room for what n more live walks may add: a read item each, two branch items and a walk for each point that is not marked
pub record Spare (s : Traversal) (n : ℕ) : Type 0 where
  pub space : unmarked s.marks + unmarked s.marks + n ≤ room s.tree
  pub spots : length s.found.items + unmarked s.marks ≤ point_count

-- what one step may add before it frees
abbrev pub step_space : ℕ
step_space = step_branches + step_reads

-- fit for one more symbol
pub record Fit (t : PathTree) (live : List Walk) : Type 0 where
  pub walks : List Reached
  pub standing : Standing t live walks
  pub space : step_space ≤ room t
