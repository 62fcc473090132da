-- A replay item by item. L is what the alphabet means, `at` the pattern as a walk sees it, m what the sink means. Assumes nothing.
use Rattle.std.specs.Prelude.{◌≡◌, ℕ, ◌+◌, ◌*◌, ◌<◌, ◌≤◌, Bool, true, false, cond, ◌⊎◌, ◌↔◌, List, [], ◌∷◌, length, drop, is_none, Some, None, Ok, Err, Option, Result}
use Rattle.std.specs.Option.{unwrap_or}
use Rattle.fault.specs.declared.refusal.Fault.{Fault}
use Rattle.fault.specs.declared.cause.Cause.TheVariants.{NotAWalk, UnknownClass}
use Rattle.alphabet.specs.Items.{first_branch, second_branch, read_item, end_mark}
use Rattle.alphabet.specs.Meaning.{Meaning as Letters}
use Rattle.pattern.specs.declared.step.Step.{Step}
use Rattle.pattern.specs.declared.step.Step.TheVariants.{Read, Pass, Fork, End}
use Rattle.pattern.specs.declared.pattern.Pattern.{Pattern}
use Rattle.pattern.specs.Patterns.{entry_of, points_of}
use Rattle.point_set.specs.Members.{point_count}
use Rattle.walk.specs.Graphs.{Points, none, add, ClassesBelow, graph_of, LacksClass}
use Rattle.walk.specs.Codes.{Code}
use Rattle.walk.proofs.Fuel.{left}
use Rattle.sink.specs.Meaning.{Meaning, Stocks, take_answer, grown}
use Rattle.replay.specs.declared.cursor.Cursor.{Cursor}
use Rattle.replay.specs.declared.played.Played.{Played}
use Rattle.replay.specs.declared.played.Played.TheVariants as played
use Rattle.replay.specs.Bits.{bits_of, Filling}
use Rattle.replay.specs.Tracing.{Verdict, complete, broken, Traces}
use Rattle.replay.specs.Outcome.{placed}
use Rattle.replay.specs.Unread.{unread, bytes_in}
use Rattle.replay.specs.Stepping.{met_of}

-- where a playback stands: the bits and the symbols still to come, the points met since the last read, the point at hand,
-- how many symbols are read, and whether the end mark is handed over
pub record Stand (Symbol : Type 0) : Type 0 where
  pub bits : List Bool
  pub symbols : List Symbol
  pub met : Points
  pub point : ℕ
  pub read : ℕ
  pub ended : Bool

-- over the symbols w, by the pattern P; once the end mark is handed over, it still stands at the end point
abbrev pub stand : {Symbol : Type 0} → Pattern → Cursor → List Symbol → Stand Symbol
stand P h w = record { bits = unread h.bits; symbols = drop h.read w; met = met_of h.met; point = unwrap_or h.at (length (points_of P)); read = h.read; ended = is_none h.at }

-- where it begins: at the entry, with all bits and all symbols
abbrev pub opened : {Symbol : Type 0} → Pattern → List ℕ → List Symbol → Stand Symbol
opened P bytes w = record { bits = bits_of bytes; symbols = w; met = none; point = entry_of P; read = 0; ended = false }

-- how much is ahead, at most: 257 for each symbol that is not read, one for each point not met since the last read, and one for the end mark
abbrev pub ahead : {Symbol : Type 0} → Stand Symbol → ℕ
ahead t = length t.symbols * 257 + left point_count t.met + cond t.ended 0 1

-- with each item less is ahead, and never more
abbrev pub Falls : Result (Option Played) Fault → ℕ → ℕ → Type 0
Falls (Ok None) n n' = n' ≤ n
Falls (Ok (Some x)) n n' = n' < n
Falls (Err f) n n' = n' ≤ n

-- points are passed freely: from p, with these met, to p', with those met
pub data Passes (at : ℕ → Step) : Points → ℕ → Points → ℕ → Type 0 where
  stays : {met : Points} {p : ℕ} → Passes at met p met p
  passes : {met met' : Points} {p k p' : ℕ} → met p ≡ false → at p ≡ Pass k → Passes at (add p met) k met' p' → Passes at met p met' p'

module _ {Symbol : Type 0} (L : Letters Symbol) (at : ℕ → Step) where
  -- by whether it has ended
  abbrev pub LeftBy : Bool → Stand Symbol → Code → Verdict → Type 0
  LeftBy true t c v = (c ≡ []) × (v ≡ complete)
  LeftBy false t c v = Traces L at t.bits t.symbols t.met t.point c v

  -- what is left to be handed over: nothing once the end mark is, else what the bits trace from here
  abbrev pub Left : Stand Symbol → Code → Verdict → Type 0
  Left t c v = LeftBy t.ended t c v

  abbrev pub LeftSome : Stand Symbol → Type 0
  LeftSome t = (c : Code) × (v : Verdict) × Left t c v

  -- t' is t with some points passed freely, and the same is left
  pub record Passed (t t' : Stand Symbol) : Type 0 where
    pub way : Passes at t.met t.point t'.met t'.point
    pub bits : t'.bits ≡ t.bits
    pub symbols : t'.symbols ≡ t.symbols
    pub read : t'.read ≡ t.read
    pub ended : t'.ended ≡ t.ended
    pub same : (c : Code) (v : Verdict) → Left t c v ↔ Left t' c v

  -- at a choice or a star the next bit is taken: 0 is the first branch, 1 the second
  pub record Branched (second : Bool) (t : Stand Symbol) (i : ℕ) (t' : Stand Symbol) : Type 0 where
    pub one : ℕ
    pub other : ℕ
    pub fork : at t.point ≡ Fork one other
    pub item : i ≡ cond second second_branch first_branch
    pub bits : t.bits ≡ second ∷ t'.bits
    pub symbols : t'.symbols ≡ t.symbols
    pub met : t'.met ≡ add t.point t.met
    pub point : t'.point ≡ cond second other one
    pub read : t'.read ≡ t.read
    pub ended : t'.ended ≡ false

  -- at a read point the next symbol is read, and no point is met since
  pub record TookSymbol (t : Stand Symbol) (i : ℕ) (t' : Stand Symbol) : Type 0 where
    pub class : ℕ
    pub symbol : Symbol
    pub reads : at t.point ≡ Read class t'.point
    pub belongs : L.belongs class symbol ≡ true
    pub item : i ≡ read_item (L.number symbol)
    pub bits : t'.bits ≡ t.bits
    pub symbols : t.symbols ≡ symbol ∷ t'.symbols
    pub met : t'.met ≡ none
    pub read : t'.read ≡ t.read + 1
    pub ended : t'.ended ≡ false

  -- at the end point nothing is left, and that is all
  pub record Marked (t : Stand Symbol) (i : ℕ) (t' : Stand Symbol) : Type 0 where
    pub end : at t.point ≡ End
    pub item : i ≡ end_mark
    pub filling : Filling t.bits
    pub none_left : t.symbols ≡ []
    pub bits : t'.bits ≡ t.bits
    pub symbols : t'.symbols ≡ []
    pub met : t'.met ≡ t.met
    pub point : t'.point ≡ t.point
    pub read : t'.read ≡ t.read
    pub ended : t'.ended ≡ true

  -- what was played at the point at hand, by which item, and where that leads
  abbrev pub Tells : Played → Stand Symbol → ℕ → Stand Symbol → Type 0
  Tells (played.Branch p second) t i t' = (p ≡ t.point) × Branched second t i t'
  Tells (played.Read p) t i t' = (p ≡ t.point) × TookSymbol t i t'
  Tells played.End t i t' = Marked t i t'

  module _ (m : Meaning) where
    -- an item is handed over
    pub record HandsOver (t : Stand Symbol) (q : m.Position) (s : Stocks) (x : Played) (t' : Stand Symbol) (q' : m.Position) (s' : Stocks) : Type 0 where
      pub going : t.ended ≡ false
      -- where it stood past the points passed freely; that point is not met yet
      pub there : Stand Symbol
      pub passed : Passed t there
      pub fresh : there.met there.point ≡ false
      pub item : ℕ
      pub tells : Tells x there item t'
      -- the sink took it
      pub taken : Ok tt ≡ take_answer m q s item
      pub moved : q' ≡ m.next q item
      pub stocked : s' ≡ grown m q s item
      -- it is the first of what was left, and the others are left
      pub leads : (c : Code) (v : Verdict) → Left t' c v → Left t (item ∷ c) v
      pub leaves : (c : Code) (v : Verdict) → Left t c v → (d : Code) × (c ≡ item ∷ d) × Left t' d v

    -- 11: nothing is left, and that was not the end. The sink is as it was
    pub record Breaks (t : Stand Symbol) (q : m.Position) (s : Stocks) (f : Fault) (t' : Stand Symbol) (q' : m.Position) (s' : Stocks) : Type 0 where
      pub passed : Passed t t'
      pub fault : f ≡ placed NotAWalk t.read
      pub going : t.ended ≡ false
      pub left : Left t [] broken
      pub only : (c : Code) (v : Verdict) → Left t c v → (c ≡ []) × (v ≡ broken)
      pub stays : q' ≡ q
      pub keeps : s' ≡ s

    -- the sink refused the first item of what is left, and is as it was; the item is still the first of what is left
    pub record Refuses (t : Stand Symbol) (q : m.Position) (s : Stocks) (f : Fault) (t' : Stand Symbol) (q' : m.Position) (s' : Stocks) : Type 0 where
      pub passed : Passed t t'
      pub item : ℕ
      pub by : Fault
      pub refused : Err by ≡ take_answer m q s item
      pub fault : f ≡ placed by.cause t.read
      pub going : t.ended ≡ false
      pub first : (c : Code) (v : Verdict) → Left t c v → (d : Code) × (c ≡ item ∷ d)
      pub stays : q' ≡ q
      pub keeps : s' ≡ s

    abbrev pub Halts : Stand Symbol → m.Position → Stocks → Fault → Stand Symbol → m.Position → Stocks → Type 0
    Halts t q s f t' q' s' = Breaks t q s f t' q' s' ⊎ Refuses t q s f t' q' s'

    -- the end mark was handed over before: nothing changes
    pub record Over (t : Stand Symbol) (q : m.Position) (s : Stocks) (t' : Stand Symbol) (q' : m.Position) (s' : Stocks) : Type 0 where
      pub ended : t.ended ≡ true
      pub same : t' ≡ t
      pub stays : q' ≡ q
      pub keeps : s' ≡ s

    -- a point is passed freely
    pub record Skips (t : Stand Symbol) (q : m.Position) (s : Stocks) (t' : Stand Symbol) (q' : m.Position) (s' : Stocks) : Type 0 where
      pub passed : Passed t t'
      pub falls : left point_count t'.met < left point_count t.met
      pub stays : q' ≡ q
      pub keeps : s' ≡ s

    -- one point
    abbrev pub Steps : Stand Symbol → (q : m.Position) → Stocks → Result (Option Played) Fault → Stand Symbol → m.Position → Stocks → Type 0
    Steps t q s (Ok None) t' q' s' = Skips t q s t' q' s'
    Steps t q s (Ok (Some x)) t' q' s' = HandsOver t q s x t' q' s'
    Steps t q s (Err f) t' q' s' = Halts t q s f t' q' s'

    -- a call of `next` at t, with the sink at q with the stocks s
    abbrev pub Plays : Stand Symbol → (q : m.Position) → Stocks → Result (Option Played) Fault → Stand Symbol → m.Position → Stocks → Type 0
    Plays t q s (Ok None) t' q' s' = Over t q s t' q' s'
    Plays t q s (Ok (Some x)) t' q' s' = HandsOver t q s x t' q' s'
    Plays t q s (Err f) t' q' s' = Halts t q s f t' q' s'

-- A playback was opened on the pattern P, the bytes, the symbols w and an alphabet a: it holds them, all classes are known, and it stands where a replay begins.
pub record Opens {Symbol Kind : Type 0} (L : Letters Symbol) (P : Pattern) (bytes : List ℕ) (w : List Symbol) (a : Kind) (P' : Pattern) (h : Cursor) (w' : List Symbol) (a' : Kind) : Type 0 where
  pub known : ClassesBelow L.classes (graph_of P)
  pub stands : stand P' h w' ≡ opened P bytes w
  pub bytes_are : bytes_in h.bits ≡ bytes
  pub pattern_is : P' ≡ P
  pub symbols_are : w' ≡ w
  pub alphabet_is : a' ≡ a

-- an opening is refused: a class of the pattern is unknown
pub record Bars {Symbol : Type 0} (L : Letters Symbol) (P : Pattern) (f : Fault) : Type 0 where
  pub unknown : LacksClass L.classes (graph_of P)
  pub fault : f ≡ placed UnknownClass 0
