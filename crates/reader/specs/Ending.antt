-- The end of a reading: the live walk that rests on the end point, if there is one. Assumes nothing.
use Rattle.std.specs.Prelude.{ℕ, Bool, true, false, List, ◌++◌, length}
use Rattle.alphabet.specs.Meaning.{Meaning}
use Rattle.pattern.specs.declared.pattern.Pattern.{Pattern}
use Rattle.pattern.specs.Patterns.{points_of}
use Rattle.walk.specs.Codes.{Code}
use Rattle.reader.specs.declared.state.Core.{Core}
use Rattle.reader.specs.Reading.{LiveAt, StateOf}

-- the number of the end point
abbrev pub end_of : Pattern → ℕ
end_of pattern = length (points_of pattern)

module _ {Symbol : Type 0} (L : Meaning Symbol) (pattern : Pattern) where
  -- the answer is whether a live walk is on the end point; g is then its whole code
  abbrev pub Ended : Bool → List Symbol → Code → Type 0
  Ended true w g = LiveAt L pattern w (end_of pattern) g
  Ended false w g = (c : Code) → LiveAt L pattern w (end_of pattern) c → ⊥

  -- the answer at the end, for every reading of which s is the state; xs is what came off
  abbrev pub Ends : Core → Bool → Code → Type 0
  Ends s r xs = (w : List Symbol) (h : Code) → StateOf L pattern s w h → Ended r w (h ++ xs)
