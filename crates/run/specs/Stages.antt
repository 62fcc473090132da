-- The stages of a run, and what each call makes of one. L is what the alphabet means, p the pattern, K what the sink means. Assumes nothing.
use Rattle.std.specs.Prelude.{◌≡◌, ℕ, ◌-◌, ◌<◌, ◌≤◌, ◌⊎◌, List, [], ◌∷◌, ◌++◌, length, Some, None, Ok, Err, Option, Result}
use Rattle.fault.specs.declared.refusal.Fault.{Fault}
use Rattle.fault.specs.declared.cause.Cause.{Cause}
use Rattle.fault.specs.declared.cause.Cause.TheVariants.{UnreadableNumber, Malformed, PatternLimit, UnknownClass, DeadSymbol, NotAccepted, TreeFull, LengthLimit, NotExpected, ChannelFull, NotAWalk, NoChannel, ShortBuffer}
use Rattle.alphabet.specs.Meaning.{Meaning}
use Rattle.pattern.specs.declared.pattern.Pattern.{Pattern}
use Rattle.sink.specs.Meaning.{Meaning as SinkMeaning}
use Rattle.walk.specs.Codes.{Code, Begins}
use Rattle.run.specs.Limits.{length_limit, tree_limit}
use Rattle.run.specs.Words.{Known, Unknown, Shares, TreeCounts, Accepts, CodesAs, Hopeless, Hopeful}
use Rattle.run.specs.Sinks.{Standing, after_items, Takes, Stopped}
use Rattle.run.specs.declared.finished.Finished.{Finished}

-- A stage of a run: the symbols read, the items handed over, the fault that is remembered, or none while the run is open, and where the sink stands.
pub record Stage (S P : Type 0) : Type 0 where
  pub read : List S
  pub handed : Code
  pub fault : Option Fault
  pub sink : Standing P

-- a refusal for this cause, after so many symbols
abbrev pub fault_at : Cause → ℕ → Fault
fault_at cause n = record { cause = cause; place = n }

-- the answer of a call: the remembered fault, or a value
abbrev pub told : {V : Type 0} → Option Fault → V → Result V Fault
told None v = Ok v
told (Some f) v = Err f

module _ {S : Type 0} (L : Meaning S) (p : Pattern) where
  -- What is so of every stage.
  pub record Stands {P : Type 0} (a : Stage S P) : Type 0 where
    -- while the run is open, the items handed over are exactly what the live walks of the symbols read share
    pub exact : a.fault ≡ None → Shares L p a.read a.handed
    -- and some accepted input begins with the symbols read
    pub hopeful : a.fault ≡ None → Hopeful L p a.read
    -- always they begin what the live walks share
    pub beginning : (s : Code) → Shares L p a.read s → Begins s a.handed
    -- every accepted input that begins with the symbols read has a greedy code that begins with them
    pub foreseen : (u : List S) → Accepts L p (a.read ++ u) → (g : Code) × CodesAs L p (a.read ++ u) g × Begins g a.handed

  -- The symbol x is read after the symbols w: the length limit is not reached, it is not dead, and the tree stays within its limit.
  pub record Readable (w : List S) (x : S) : Type 0 where
    pub short : length w < length_limit
    pub alive : Hopeful L p (w ++ (x ∷ []))
    pub count : ℕ
    pub counts : TreeCounts L p (w ++ (x ∷ [])) count
    pub within : count ≤ tree_limit

  -- each of the symbols xs is read, one after another
  abbrev pub AllReadable : List S → List S → Type 0
  AllReadable w [] = Unit {0}
  AllReadable w (x ∷ xs) = Readable w x × AllReadable (w ++ (x ∷ [])) xs

  -- When the run refuses the symbol x after the symbols w, by the cause: 8 if the length limit is reached; else 5 if no accepted input begins with
  -- w and x; else 7 if the tree would count above its limit. A run refuses a symbol for no other cause.
  abbrev pub Due : Cause → List S → S → Type 0
  Due LengthLimit w x = length w ≡ length_limit
  Due DeadSymbol w x = (length w < length_limit) × Hopeless L p (w ++ (x ∷ []))
  Due TreeFull w x =
      (length w < length_limit) × Hopeful L p (w ++ (x ∷ [])) × ((n : ℕ) × TreeCounts L p (w ++ (x ∷ [])) n × (tree_limit < n))
  Due UnreadableNumber w x = ⊥
  Due Malformed w x = ⊥
  Due PatternLimit w x = ⊥
  Due UnknownClass w x = ⊥
  Due NotAccepted w x = ⊥
  Due NotExpected w x = ⊥
  Due ChannelFull w x = ⊥
  Due NotAWalk w x = ⊥
  Due NoChannel w x = ⊥
  Due ShortBuffer w x = ⊥

  -- the first symbol that is left is refused, at the count of the symbols before it; all that is shared is handed over
  pub record SymbolRefused {P : Type 0} (b : Stage S P) (left : List S) (f : Fault) : Type 0 where
    pub symbol : S
    pub rest : List S
    pub first : left ≡ symbol ∷ rest
    pub settled : Shares L p b.read b.handed
    pub due : Due f.cause b.read symbol
    pub there : f.place ≡ length b.read

  module _ (K : SinkMeaning) where
    -- the sink refused an item by which the last symbol read made what is shared grow; what was shared before that symbol is handed over
    pub record ItemRefused (b : Stage S K.Position) (f : Fault) : Type 0 where
      pub before : List S
      pub last : S
      pub reads : b.read ≡ before ++ (last ∷ [])
      pub settled : Code
      pub settles : Shares L p before settled
      pub beyond : Begins b.handed settled
      pub shared : Code
      pub shares : Shares L p b.read shared
      pub stopped : Stopped K b.sink b.handed shared (length before) f

    -- how a feed of an open run ended, which left a part of its piece: with no fault nothing is left; else a symbol or an item was refused
    abbrev pub FedEnded : List S → Stage S K.Position → Option Fault → Type 0
    FedEnded left b None = left ≡ []
    FedEnded left b (Some f) = SymbolRefused b left f ⊎ ItemRefused b f

    -- A feed of an open run from the stage a to the stage b.
    pub record FedOpen (piece : List S) (a b : Stage S K.Position) : Type 0 where
      -- the piece is what was read and what is left
      pub part : List S
      pub left : List S
      pub parts : piece ≡ part ++ left
      pub reads : b.read ≡ a.read ++ part
      pub each : AllReadable a.read part
      -- the items handed over: the sink took each in turn, and stands where that leads
      pub items : Code
      pub hands : b.handed ≡ a.handed ++ items
      pub takes : Takes K a.sink items
      pub stood : b.sink ≡ after_items K a.sink items
      pub ended : FedEnded left b b.fault

    -- A feed: a failed run stays as it is; the answer is the fault, or how many items were handed over.
    pub record Fed (piece : List S) (a : Stage S K.Position) (r : Result ℕ Fault) (b : Stage S K.Position) : Type 0 where
      pub failed : (f : Fault) → a.fault ≡ Some f → b ≡ a
      pub opened : a.fault ≡ None → FedOpen piece a b
      pub answer : r ≡ told b.fault (length b.handed - length a.handed)

    -- the sink refused an item at the opening
    pub record FirstRefused (b : Stage S K.Position) (f : Fault) : Type 0 where
      pub known : Known L p
      pub shared : Code
      pub shares : Shares L p [] shared
      pub stopped : Stopped K b.sink b.handed shared 0 f

    -- how an opening ended: the run is open, and what is shared before any symbol is handed over; or a class is unknown to the alphabet, 4,
    -- and nothing is handed over; or the sink refused an item
    abbrev pub OpenEnded : Stage S K.Position → Option Fault → Type 0
    OpenEnded b None = Known L p × Shares L p [] b.handed
    OpenEnded b (Some f) = (Unknown L p × (f ≡ fault_at UnknownClass 0) × (b.handed ≡ [])) ⊎ FirstRefused b f

    -- An opening over a sink that stands at s, to the stage b; n is how many items it handed over.
    pub record Opened (s : Standing K.Position) (n : ℕ) (b : Stage S K.Position) : Type 0 where
      pub reads : b.read ≡ []
      pub takes : Takes K s b.handed
      pub stood : b.sink ≡ after_items K s b.handed
      pub counted : n ≡ length b.handed
      pub ended : OpenEnded b b.fault

    -- the input is accepted, and the sink took these items of its greedy code, up to where it stands at t
    pub record Finishing (a : Stage S K.Position) (t : Standing K.Position) : Type 0 where
      pub accepted : Accepts L p a.read
      pub code : Code
      pub greedy : CodesAs L p a.read code
      pub items : Code
      pub takes : Takes K a.sink items
      pub stood : t ≡ after_items K a.sink items

    -- a finish that is answered: the items handed over in all are the greedy code, and they and the symbols are counted
    pub record FinishedAll (a : Stage S K.Position) (t : Standing K.Position) (r : Finished) : Type 0 where
      pub course : Finishing a t
      pub whole : a.handed ++ course.items ≡ course.code
      pub total : r.items ≡ length course.code
      pub symbols : r.symbols ≡ length a.read

    -- a finish on an input that is not accepted: 6 at the symbols read, and nothing is handed over
    pub record FinishDenied (a : Stage S K.Position) (t : Standing K.Position) (f : Fault) : Type 0 where
      pub denied : Accepts L p a.read → ⊥
      pub fault : f ≡ fault_at NotAccepted (length a.read)
      pub still : t ≡ a.sink

    -- a finish at which the sink refused an item of the greedy code
    pub record FinishStopped (a : Stage S K.Position) (t : Standing K.Position) (f : Fault) : Type 0 where
      pub course : Finishing a t
      pub stopped : Stopped K t (a.handed ++ course.items) course.code (length a.read) f

    -- how a finish of an open run ended
    abbrev pub FinishEnded : Stage S K.Position → Standing K.Position → Result Finished Fault → Type 0
    FinishEnded a t (Ok r) = FinishedAll a t r
    FinishEnded a t (Err f) = FinishDenied a t f ⊎ FinishStopped a t f

    -- A finish from the stage a, to a sink that stands at t: a failed run answers its fault, and the sink stays.
    pub record Closed (a : Stage S K.Position) (t : Standing K.Position) (r : Result Finished Fault) : Type 0 where
      pub failed : (f : Fault) → a.fault ≡ Some f → (r ≡ Err f) × (t ≡ a.sink)
      pub opened : a.fault ≡ None → FinishEnded a t r
