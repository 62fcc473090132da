-- What goes into a channel of a sink and what comes out of it along the calls of a run, and the symbols that are fed. Assumes nothing.
use Rattle.std.specs.Prelude.{ℕ, cond, List, [], ◌∷◌, ◌++◌, take, Ok, Err, ◌==◌}
use Rattle.alphabet.specs.Meaning.{Meaning}
use Rattle.pattern.specs.declared.pattern.Pattern.{Pattern}
use Rattle.sink.specs.Meaning.{Meaning as SinkMeaning}
use Rattle.walk.specs.Codes.{Code}
use Rattle.run.specs.declared.calls.Call.{Call}
use Rattle.run.specs.declared.calls.Call.TheVariants.{Feed, Pour}
use Rattle.run.specs.declared.calls.Answer.{Answer}
use Rattle.run.specs.declared.calls.Answer.TheVariants.{Fed, Poured}
use Rattle.run.specs.Stages.{Stage}
use Rattle.run.specs.Performed.{Through}

-- the bytes that items add to channel c of a sink, one after another, from the position p on
abbrev pub written : (K : SinkMeaning) → ℕ → K.Position → Code → List ℕ
written K c p [] = []
written K c p (i ∷ is) = K.added p i c ++ written K c (K.next p i) is

-- the symbols of all feeds, in their order
abbrev pub fed : {S : Type 0} → List (Call S) → List S
fed [] = []
fed (Feed piece ∷ calls) = piece.now ++ fed calls
fed (Pour channel ∷ calls) = fed calls

-- what a call brings out of channel c, with the buffer u after it: a pour of that channel that is answered, so many bytes from the front of the buffer
abbrev pub brought : {S : Type 0} → ℕ → Call S → Answer → List ℕ → List ℕ
brought c (Feed piece) r u = []
brought c (Pour channel) (Fed r) u = []
brought c (Pour channel) (Poured (Ok n)) u = cond (c == channel) (take n u) []
brought c (Pour channel) (Poured (Err f)) u = []

module _ {S : Type 0} (L : Meaning S) (p : Pattern) (K : SinkMeaning) where
  -- what a list of calls draws from channel c, call after call
  abbrev pub drawn : ℕ → (a : Stage S K.Position) (x : List ℕ) (calls : List (Call S)) (answers : List Answer) (z : Stage S K.Position) (y : List ℕ)
      → Through L p K a x calls answers z y → List ℕ
  drawn c a x [] [] z y h = []
  drawn c a x [] (r ∷ rs) z y h = []
  drawn c a x (k ∷ ks) [] z y h = []
  drawn c a x (k ∷ ks) (r ∷ rs) z y (b, u, d, s, h) = brought c k r u ++ drawn c b u ks rs z y h
