-- The calls of a playback in turn. L is what the alphabet means, `at` the pattern as a walk sees it, m what the sink means. Assumes nothing.
use Rattle.std.specs.Prelude.{◌≡◌, ℕ, true, List, [], ◌∷◌, ◌++◌, length, Some, None, Ok, Err, Option, Result}
use Rattle.fault.specs.declared.refusal.Fault.{Fault}
use Rattle.alphabet.specs.Meaning.{Meaning as Letters}
use Rattle.pattern.specs.declared.step.Step.{Step}
use Rattle.pattern.specs.declared.pattern.Pattern.{Pattern}
use Rattle.pattern.specs.Patterns.{entry_of}
use Rattle.walk.specs.Graphs.{none, ClassesBelow, graph_of}
use Rattle.walk.specs.Codes.{Code}
use Rattle.sink.specs.Meaning.{Meaning, Stocks}
use Rattle.replay.specs.declared.played.Played.{Played}
use Rattle.replay.specs.Bits.{bits_of}
use Rattle.replay.specs.Tracing.{Verdict, complete, broken, Traces}
use Rattle.replay.specs.Outcome.{reads_in, Replays}
use Rattle.replay.specs.Playing.{Stand, opened, Left, LeftSome, HandsOver, Breaks, Refuses, Halts, Plays}

module _ {Symbol : Type 0} (L : Letters Symbol) (at : ℕ → Step) (m : Meaning) where
  -- the items that a call of `next` handed over: one or none
  abbrev pub items_of : (t : Stand Symbol) (q : m.Position) (s : Stocks) (r : Result (Option Played) Fault) (t' : Stand Symbol) (q' : m.Position) (s' : Stocks) → Plays L at m t q s r t' q' s' → Code
  items_of t q s (Ok None) t' q' s' x = []
  items_of t q s (Ok (Some y)) t' q' s' x = x.item ∷ []
  items_of t q s (Err f) t' q' s' x = []

  -- calls of `next` in turn, from t to t'', and the items that they handed over. At each the sink may stand anywhere and hold anything: it may have been poured
  pub data Course : Stand Symbol → Code → Stand Symbol → Type 0 where
    still : {t : Stand Symbol} → Course t [] t
    call : {t t' t'' : Stand Symbol} {c : Code} (q q' : m.Position) (s s' : Stocks) (r : Result (Option Played) Fault) (x : Plays L at m t q s r t' q' s') → Course t' c t'' →
        Course t (items_of t q s r t' q' s' x ++ c) t''

  -- calls of `next` in turn that each hand an item over, from t with the sink at q and the stocks s; nothing else is done to the sink
  pub data Straight : Stand Symbol → m.Position → Stocks → Code → Stand Symbol → m.Position → Stocks → Type 0 where
    still : {t : Stand Symbol} {q : m.Position} {s : Stocks} → Straight t q s [] t q s
    hand : {t t' t'' : Stand Symbol} {q q' q'' : m.Position} {s s' s'' : Stocks} {c : Code} (x : Played) (h : HandsOver L at m t q s x t' q' s') → Straight t' q' s' c t'' q'' s'' →
        Straight t q s (h.item ∷ c) t'' q'' s''

-- what the calls of a playback hand over, in turn, is what a replay of the same bytes traces
module _ {Symbol : Type 0} (L : Letters Symbol) (P : Pattern) (m : Meaning) where
  -- the items d, handed over on the way from the opening to t
  pub record Agrees (bytes : List ℕ) (w : List Symbol) (d : Code) (t : Stand Symbol) : Type 0 where
    -- are a beginning of what the bits trace, and the rest is left
    pub begins : (c : Code) (v : Verdict) → Traces L (graph_of P) (bits_of bytes) w none (entry_of P) c v → (e : Code) × (c ≡ d ++ e) × Left L (graph_of P) t e v
    -- all of it, to the end, once the end mark is handed over
    pub ended : t.ended ≡ true → Traces L (graph_of P) (bits_of bytes) w none (entry_of P) d complete
    -- all of it, as far as the walk is allowed, where a call refuses with 11
    pub breaks : (q q' : m.Position) (s s' : Stocks) (f : Fault) (t' : Stand Symbol) → Breaks L (graph_of P) m t q s f t' q' s' → Traces L (graph_of P) (bits_of bytes) w none (entry_of P) d broken
    -- and the symbols read are the read items among them
    pub count : t.read ≡ reads_in d

  abbrev pub PlaybackAgrees : Type 0
  PlaybackAgrees = (bytes : List ℕ) (w : List Symbol) (d : Code) (t : Stand Symbol) → Course L (graph_of P) m (opened P bytes w) d t → Agrees bytes w d t

  -- after a refusal with 11 each later call refuses with the same fault
  abbrev pub BreaksForGood : Type 0
  BreaksForGood = (t t' t'' : Stand Symbol) (q q' p p' : m.Position) (s s' z z' : Stocks) (f : Fault) (r : Result (Option Played) Fault) →
      Breaks L (graph_of P) m t q s f t' q' s' → Plays L (graph_of P) m t' p z r t'' p' z' → r ≡ Err f

  -- after a refusal by the sink the same item is the next
  abbrev pub ItemStays : Type 0
  ItemStays = (t t' t'' : Stand Symbol) (q q' p p' : m.Position) (s s' z z' : Stocks) (f : Fault) (y : Played) → LeftSome L (graph_of P) t →
      (x : Refuses L (graph_of P) m t q s f t' q' s') (h : HandsOver L (graph_of P) m t' p z y t'' p' z') → h.item ≡ x.item

  -- with nothing poured between, the calls from the opening to the end mark or to the first refusal come to the outcome of a replay
  pub record ComesAlike (bytes : List ℕ) (w : List Symbol) (q : m.Position) (s : Stocks) (d : Code) (t : Stand Symbol) (q' : m.Position) (s' : Stocks) : Type 0 where
    pub accepted : t.ended ≡ true → Replays L (graph_of P) (entry_of P) bytes w m q s (Ok (length d)) q' s'
    pub refused : (f : Fault) (t'' : Stand Symbol) (q'' : m.Position) (s'' : Stocks) → Halts L (graph_of P) m t q' s' f t'' q'' s'' → Replays L (graph_of P) (entry_of P) bytes w m q s (Err f) q'' s''

  abbrev pub PlaybackComesAlike : Type 0
  PlaybackComesAlike = ClassesBelow L.classes (graph_of P) → (bytes : List ℕ) (w : List Symbol) (q q' : m.Position) (s s' : Stocks) (d : Code) (t : Stand Symbol) →
      Straight L (graph_of P) m (opened P bytes w) q s d t q' s' → ComesAlike bytes w q s d t q' s'
