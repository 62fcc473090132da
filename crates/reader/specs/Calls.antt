-- What the calls of a reader answer, in the words of walks. L is what the alphabet means. Assumes nothing.
use Rattle.std.specs.Prelude.{◌≡◌, ℕ, Bool, true, false, ◌↔◌, List, [], ◌++◌, replicate, Ok, Err, Result}
use Rattle.alphabet.specs.Meaning.{Meaning}
use Rattle.pattern.specs.declared.pattern.Pattern.{Pattern}
use Rattle.pattern.specs.Patterns.{entry_of}
use Rattle.point_set.specs.declared.set.PointSet.{PointSet}
use Rattle.point_set.specs.Members.{members, point_count}
use Rattle.walk.specs.Graphs.{graph_of}
use Rattle.walk.specs.Codes.{Code}
use Rattle.walk.specs.Walks.{Accepted, Greedy}
use Rattle.reader.specs.declared.buffer.Buffer.{Buffer}
use Rattle.reader.specs.declared.state.Core.{Core}
use Rattle.reader.specs.declared.stop.Stop.{Stop}
use Rattle.reader.specs.Marks.{marked}
use Rattle.reader.specs.Reading.{LiveAt, StateOf}
use Rattle.reader.specs.Ending.{end_of}

-- the items in a buffer, in order
abbrev pub held_in : Buffer → Code
held_in b = b.items.items

-- a reader that refused a symbol with f refuses the next likewise; its core stays, and nothing comes off
pub record Still (f : Stop) (s : Core) (r : Result (Unit {0}) Stop) (s' : Core) (xs : Code) : Type 0 where
  pub answer : r ≡ Err f
  pub core : s' ≡ s
  pub none : xs ≡ []

-- a reader that refused a symbol with f ends with it
pub record Over (f : Stop) (r : Result Bool Stop) (xs : Code) : Type 0 where
  pub answer : r ≡ Err f
  pub none : xs ≡ []

-- no point has a live walk
abbrev pub ShowsNone : PointSet → Type 0
ShowsNone m = members m ≡ replicate point_count false

module _ {Symbol : Type 0} (L : Meaning Symbol) (pattern : Pattern) where
  abbrev pub AcceptedAt : List Symbol → Type 0
  AcceptedAt w = Accepted L (graph_of pattern) (entry_of pattern) (end_of pattern) w

  abbrev pub GreedyAt : List Symbol → Code → Type 0
  GreedyAt w g = Greedy L (graph_of pattern) (entry_of pattern) (end_of pattern) w g

  -- the answer at the end of w, where h had come off, and xs comes off now: the whole is the greedy code, or w is not accepted
  abbrev pub Finished : Result Bool Stop → List Symbol → Code → Code → Type 0
  Finished (Ok true) w h xs = GreedyAt w (h ++ xs)
  Finished (Ok false) w h xs = (AcceptedAt w → ⊥) × (xs ≡ [])
  Finished (Err f) w h xs = ⊥

  -- the answer at the end, for every reading of which s is the state
  abbrev pub Finishes : Core → Result Bool Stop → Code → Type 0
  Finishes s r xs = (w : List Symbol) (h : Code) → StateOf L pattern s w h → Finished r w h xs

  -- the set has exactly the points on which live walks end
  abbrev pub ShowsLive : Core → PointSet → Type 0
  ShowsLive s m = (w : List Symbol) (h : Code) → StateOf L pattern s w h → (q : ℕ) → (marked m q ≡ true) ↔ ((c : Code) × LiveAt L pattern w q c)
