-- Laws of sinks. Assumes nothing.
use Rattle.std.specs.Prelude.{◌≡◌, ℕ, ◌+◌, ◌-◌, ◌%◌, ◌<◌, ◌≤◌, true, false, cond, List, [], ◌∷◌, ◌++◌, length, Ok, Err, ◌==◌}
use Rattle.fault.specs.declared.refusal.Fault.{Fault}
use Rattle.fault.specs.declared.layer.Layer.TheVariants.{Sink}
use Rattle.fault.specs.declared.cause.Cause.TheVariants.{NotExpected, ChannelFull, NoChannel, ShortBuffer}
use Rattle.fault.specs.Causes.{layer}
use Rattle.alphabet.specs.Items.{end_mark}
use Rattle.alphabet.specs.Choices.{choices, packed}
use Rattle.sink.specs.Meaning.{Meaning, Stocks, nothing, alone, sink_fault, among, take_answer, grown, pour_answer, emptied}
use Rattle.sink.specs.BitsMeaning.{bits_meaning, unfilled, ended}
use Rattle.sink.specs.PairMeaning.{pair_meaning, pair_stocks}
use Rattle.sink.specs.Handing.{moved_by, grown_by, all_taken}

-- the one holds exactly when the other does
abbrev pub Exactly : Type 0 → Type 0 → Type 0
Exactly A B = (A → B) × (B → A)

-- a fault of a sink that is called by itself: its layer is the sink's, layer 3, and its place is 0
abbrev pub OwnFault : Fault → Type 0
OwnFault f = (layer f.cause ≡ Sink) × (f.place ≡ 0)

module _ (m : Meaning) where
  -- each channel's stock with its addition is within its limit
  abbrev pub Fits : m.Position → Stocks → ℕ → Type 0
  Fits p s i = (c : ℕ) → among c m.channels ≡ true → length (s c) + length (m.added p i c) ≤ m.limit c

  -- some channel's stock with its addition would pass its limit
  abbrev pub Passes : m.Position → Stocks → ℕ → Type 0
  Passes p s i = (c : ℕ) × (among c m.channels ≡ true) × (m.limit c < length (s c) + length (m.added p i c))

  -- when an item is refused with 9, when with 10, and when it is taken; when a pour is refused with 12, when with 13, and what it answers else;
  -- and that every such fault is the sink's own
  pub record ExactAnswers : Type 0 where
    pub not_expected : (p : m.Position) (s : Stocks) (i : ℕ) → Exactly (take_answer m p s i ≡ Err (sink_fault NotExpected)) (m.expected p i ≡ false)
    pub full : (p : m.Position) (s : Stocks) (i : ℕ) → Exactly (take_answer m p s i ≡ Err (sink_fault ChannelFull)) ((m.expected p i ≡ true) × Passes p s i)
    pub taken : (p : m.Position) (s : Stocks) (i : ℕ) → Exactly (take_answer m p s i ≡ Ok tt) ((m.expected p i ≡ true) × Fits p s i)
    pub take_fault : (p : m.Position) (s : Stocks) (i : ℕ) (f : Fault) → take_answer m p s i ≡ Err f → OwnFault f
    pub no_channel : (s : Stocks) (c n : ℕ) → Exactly (pour_answer m s c n ≡ Err (sink_fault NoChannel)) (among c m.channels ≡ false)
    pub short : (s : Stocks) (c n : ℕ) → Exactly (pour_answer m s c n ≡ Err (sink_fault ShortBuffer)) ((among c m.channels ≡ true) × (n < length (s c)))
    pub poured : (s : Stocks) (c n k : ℕ) → Exactly (pour_answer m s c n ≡ Ok k) ((among c m.channels ≡ true) × (length (s c) ≤ n) × (length (s c) ≡ k))
    pub pour_fault : (s : Stocks) (c n : ℕ) (f : Fault) → pour_answer m s c n ≡ Err f → OwnFault f

-- the number that a pair's channel has if the pair is turned round: 2c and 2c + 1 change places
abbrev pub turned : ℕ → ℕ
turned c = cond (c % 2 == 0) (c + 1) (c - 1)

-- a pair of m and n and one of n and m answer and do the same, but for the numbers of the channels
pub record OrderFree (m n : Meaning) : Type 0 where
  pub takes : (p : m.Position) (q : n.Position) (s t : Stocks) (i : ℕ)
      → take_answer (pair_meaning m n) (p, q) (pair_stocks s t) i ≡ take_answer (pair_meaning n m) (q, p) (pair_stocks t s) i
  pub moves : (p : m.Position) (q : n.Position) (i : ℕ)
      → (pair_meaning m n).next (p, q) i ≡ (((pair_meaning n m).next (q, p) i).1, ((pair_meaning n m).next (q, p) i).0)
  pub grows : (p : m.Position) (q : n.Position) (s t : Stocks) (i c : ℕ)
      → grown (pair_meaning m n) (p, q) (pair_stocks s t) i c ≡ grown (pair_meaning n m) (q, p) (pair_stocks t s) i (turned c)
  pub pours : (s t : Stocks) (c k : ℕ)
      → pour_answer (pair_meaning m n) (pair_stocks s t) c k ≡ pour_answer (pair_meaning n m) (pair_stocks t s) (turned c) k
  pub empties : (s t : Stocks) (c d : ℕ) → emptied (pair_stocks s t) c d ≡ emptied (pair_stocks t s) (turned c) (turned d)

-- A fresh sink of bits that takes all items of a code up to its end mark has ended, and its stock is the choices of the code, packed.
pub record FilesChoices (code : List ℕ) : Type 0 where
  pub position : moved_by bits_meaning (unfilled []) code ≡ ended
  pub stock : grown_by bits_meaning (unfilled []) nothing code ≡ alone (packed (choices code)) []

abbrev pub BitsFileChoices : Type 0
BitsFileChoices = (xs : List ℕ) → all_taken bits_meaning (unfilled []) nothing (xs ++ end_mark ∷ []) ≡ true → FilesChoices (xs ++ end_mark ∷ [])
