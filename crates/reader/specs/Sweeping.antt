-- The sweep over the live walks at a symbol, part way. L is what the alphabet means, a the symbol. Assumes nothing.
use Rattle.std.specs.Prelude.{◌≡◌, ℕ, true, List, [], ◌∷◌, ◌++◌, length, Some, None, Option, ◌≢◌}
use Rattle.alphabet.specs.Meaning.{Meaning}
use Rattle.alphabet.specs.Items.{read_item}
use Rattle.pattern.specs.declared.pattern.Pattern.{Pattern}
use Rattle.pattern.specs.declared.step.Step.TheVariants.{Read}
use Rattle.walk.specs.Graphs.{graph_of, none}
use Rattle.walk.specs.Search.{Reached, Sweep}
use Rattle.tree.specs.declared.paths.PathTree.{PathTree}
use Rattle.reader.specs.declared.state.Walk.{Walk}
use Rattle.reader.specs.declared.state.traversal.Traversal.{Traversal}
use Rattle.reader.specs.declared.state.traversal.Onward.{Onward}
use Rattle.reader.specs.Marks.{marked}
use Rattle.reader.specs.State.{State, Standing, Spare}

-- where a walk goes from the point p: it reads the symbol, with this item, and goes on; or the point does not take the symbol
abbrev pub Goes : {Symbol : Type 0} → Meaning Symbol → Symbol → Pattern → ℕ → Option Onward → Type 0
Goes L a pattern p (Some o) = (class : ℕ) × (graph_of pattern p ≡ Read class o.next) × (L.belongs class a ≡ true) × (o.item ≡ read_item (L.number a))
Goes L a pattern p None = (class k : ℕ) → graph_of pattern p ≡ Read class k → L.belongs class a ≢ true

module _ {Symbol : Type 0} (L : Meaning Symbol) (a : Symbol) (pattern : Pattern) where
  -- of the live walks ls, those in `live` are still to go
  pub record Partway (s : Traversal) (live : List Walk) (ls : List Reached) : Type 0 where
    pub done : List Reached
    pub rest : List Reached
    pub news : List Reached
    pub all : ls ≡ done ++ rest
    pub sweep : Sweep L (graph_of pattern) a none done news (marked s.marks)
    pub state : State s.tree s.found.items live news rest
    pub spare : Spare s (length rest)

  -- the walk w is the next
  abbrev pub SomeWay : Traversal → Walk → Type 0
  SomeWay s w = (live : List Walk) × ((ls : List Reached) × Partway s (w ∷ live) ls)

  -- it is done with, whatever walks come after it
  abbrev pub LeadsOn : Traversal → Walk → Traversal → Type 0
  LeadsOn s w s' = (live : List Walk) (ls : List Reached) → Partway s (w ∷ live) ls → Partway s' live ls

  -- all the live walks ls are swept
  pub record Swept (s : Traversal) (ls : List Reached) : Type 0 where
    pub news : List Reached
    pub sweep : Sweep L (graph_of pattern) a none ls news (marked s.marks)
    pub state : State s.tree s.found.items [] news []

  -- whatever walks stood are swept
  abbrev pub Sweeps : PathTree → List Walk → Traversal → Type 0
  Sweeps t live s = (ls : List Reached) → Standing t live ls → Swept s ls
