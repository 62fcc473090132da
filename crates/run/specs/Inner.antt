-- When what a run holds is the state of a stage, and what each call makes of it. L is what the alphabet means, p the pattern, K what the sink means.
-- The theorem on runs does not mention any of this. Assumes nothing.
use Rattle.std.specs.Prelude.{◌≡◌, ℕ, Bool, true, false, ◌↔◌, List, length, Some, None, Option, Result, slice_index_or}
use Rattle.fault.specs.declared.refusal.Fault.{Fault}
use Rattle.alphabet.specs.Meaning.{Meaning}
use Rattle.pattern.specs.declared.pattern.Pattern.{Pattern}
use Rattle.point_set.specs.Flags.{tally}
use Rattle.point_set.specs.Members.{point_count}
use Rattle.sink.specs.Meaning.{Meaning as SinkMeaning}
use Rattle.walk.specs.Codes.{Code}
use Rattle.reader.specs.declared.state.Core.{Core}
use Rattle.reader.specs.declared.stop.Stop.{Stop}
use Rattle.reader.specs.Reading.{StateOf as ReadingOf}
use Rattle.reader.specs.Seen.{Seen, every}
use Rattle.run.specs.declared.finished.Finished.{Finished}
use Rattle.run.specs.declared.book.Book.{Book}
use Rattle.run.specs.Words.{Known, Lives}
use Rattle.run.specs.Sinks.{Standing}
use Rattle.run.specs.Stages.{Stage, Stands, FedOpen, Fed, Opened, Closed}

-- what a run holds: the reader's core and why it stopped, if it did, and the run's book
pub record Inner : Type 0 where
  pub core : Core
  pub stop : Option Stop
  pub read : ℕ
  pub handed : ℕ
  pub fault : Option Fault

abbrev pub inner : Core → Option Stop → Book → Inner
inner c s b = record { core = c; stop = s; read = b.read; handed = b.handed; fault = b.fault }

-- the book with another fault
pub record Noted (b b' : Book) (f : Fault) : Type 0 where
  pub read : b'.read ≡ b.read
  pub handed : b'.handed ≡ b.handed
  pub fault : b'.fault ≡ Some f

module _ {S : Type 0} (L : Meaning S) (p : Pattern) where
  -- that what a run holds is the state of a stage
  pub record StateOf {P : Type 0} (c : Inner) (a : Stage S P) : Type 0 where
    pub count : c.read ≡ length a.read
    pub total : c.handed ≡ length a.handed
    pub fault_is : c.fault ≡ a.fault
    pub known : a.fault ≡ None → Known L p
    pub going : a.fault ≡ None → c.stop ≡ None
    pub reading : a.fault ≡ None → ReadingOf L p c.core a.read a.handed
    pub stands : Stands L p a

  -- flags for the points: set exactly where a live walk of w ends
  pub record LiveFlags (w : List S) (flags : List Bool) : Type 0 where
    pub size : length flags ≡ point_count
    pub set : (q : ℕ) → (slice_index_or flags q false ≡ true) ↔ ((c : Code) × Lives L p w q c)

  -- n walks are live after w: so many points have one
  abbrev pub LiveCount : List S → ℕ → Type 0
  LiveCount w n = (flags : List Bool) × LiveFlags w flags × (n ≡ tally flags)

  -- what a run tells of its live walks: their number while it is open, 0 when it has failed
  abbrev pub LiveTold : Option Fault → List S → ℕ → Type 0
  LiveTold None w n = LiveCount w n
  LiveTold (Some f) w n = n ≡ 0

  -- the same, from every stage of which the run holds the state, wherever the sink stands
  abbrev pub CountsLive : Inner → ℕ → Type 0
  CountsLive c n = (a : Stage S (Unit {0})) → StateOf c a → LiveTold a.fault a.read n

  module _ (K : SinkMeaning) where
    -- a call leads to a stage of which it leaves the state, with the sink standing there
    abbrev pub Leads : Inner → Standing K.Position → (Stage S K.Position → Type 0) → Type 0
    Leads c t Q = (b : Stage S K.Position) × (Q b × (StateOf c b × (b.sink ≡ t)))

    -- a feed of an open run, from every stage of which it holds the state
    abbrev pub FeedsOpen : List S → Inner → Standing K.Position → Inner → Standing K.Position → Type 0
    FeedsOpen piece c s d t =
        (a : Stage S K.Position) → StateOf c a → a.sink ≡ s → a.fault ≡ None → Leads d t (λ b. FedOpen L p K piece a b)

    -- a feed, from every stage of which the run holds the state
    abbrev pub Feeds : List S → Inner → Standing K.Position → Result ℕ Fault → Inner → Standing K.Position → Type 0
    Feeds piece c s r d t = (a : Stage S K.Position) → StateOf c a → a.sink ≡ s → Leads d t (λ b. Fed L p K piece a r b)

    -- an opening
    abbrev pub Opens : Standing K.Position → ℕ → Inner → Standing K.Position → Type 0
    Opens s n d t = Leads d t (λ b. Opened L p K s n b)

    -- a finish, from every stage of which the run holds the state
    abbrev pub Closes : Inner → Standing K.Position → Result Finished Fault → Standing K.Position → Type 0
    Closes c s r t = (a : Stage S K.Position) → StateOf c a → a.sink ≡ s → Closed L p K a t r

-- what a run holds is the state of some stage, by what was said of the symbols read
abbrev pub Held : Pattern → Inner → Type 0
Held p c = (a : Stage Seen (Unit {0})) × StateOf every p c a
