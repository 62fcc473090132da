-- What a sink means, and what its calls answer and leave. Assumes nothing.
use Rattle.std.specs.Prelude.{ℕ, ◌+◌, Bool, true, false, cond, ◌&&◌, ◌||◌, List, [], ◌∷◌, ◌++◌, length, drop, Ok, Err, Result, ◌==◌, nat_le}
use Rattle.fault.specs.declared.refusal.Fault.{Fault}
use Rattle.fault.specs.declared.cause.Cause.{Cause}
use Rattle.fault.specs.declared.cause.Cause.TheVariants.{NotExpected, ChannelFull, NoChannel, ShortBuffer}
use Rattle.sink.specs.Limits.{stock_bytes}

-- What a kind of sink means, apart from the state of one: what its positions are, the numbers of its channels and how many bytes
-- each may hold, and how the position and an item decide whether the item is expected, the next position and the bytes added to each channel.
pub record Meaning : Type 1 where
  pub Position : Type 0
  pub channels : List ℕ
  pub limit : ℕ → ℕ
  pub expected : Position → ℕ → Bool
  pub next : Position → ℕ → Position
  pub added : Position → ℕ → ℕ → List ℕ

-- the bytes that each channel holds
abbrev pub Stocks : Type 0
Stocks = ℕ → List ℕ

-- nothing in any channel
abbrev pub nothing : Stocks
nothing c = []

-- a sink's own fault: its place is 0
abbrev pub sink_fault : Cause → Fault
sink_fault k = record { cause = k; place = 0 }

-- each of the channels passes a test
abbrev pub every : (ℕ → Bool) → List ℕ → Bool
every f [] = true
every f (c ∷ cs) = f c && every f cs

-- a channel is one of these
abbrev pub among : ℕ → List ℕ → Bool
among c [] = false
among c (d ∷ ds) = c == d || among c ds

module _ (m : Meaning) where
  -- channel c has room for what the item adds to it
  abbrev pub room : m.Position → Stocks → ℕ → ℕ → Bool
  room p s i c = nat_le (length (s c) + length (m.added p i c)) (m.limit c)

  -- every channel has
  abbrev pub fits : m.Position → Stocks → ℕ → Bool
  fits p s i = every (room p s i) m.channels

  -- what taking an item answers: 9 if it is not expected, else 10 if some channel would pass its limit
  abbrev pub take_answer : m.Position → Stocks → ℕ → Result (Unit {0}) Fault
  take_answer p s i =
      cond (m.expected p i)
      (cond (fits p s i) (Ok tt) (Err (sink_fault ChannelFull)))
      (Err (sink_fault NotExpected))

  -- the stocks with the item's additions
  abbrev pub grown : m.Position → Stocks → ℕ → Stocks
  grown p s i = λ c. s c ++ m.added p i c

  -- what a pour of channel c into a buffer of n bytes answers: 12 if there is no such channel, else 13 if the buffer is shorter
  -- than the stock, else the bytes poured
  abbrev pub pour_answer : Stocks → ℕ → ℕ → Result ℕ Fault
  pour_answer s c n =
      cond (among c m.channels)
      (cond (nat_le (length (s c)) n) (Ok (length (s c))) (Err (sink_fault ShortBuffer)))
      (Err (sink_fault NoChannel))

-- the stocks without that of channel c
abbrev pub emptied : Stocks → ℕ → Stocks
emptied s c = λ k. cond (k == c) [] (s k)

-- a buffer with the bytes written to its front
abbrev pub fronted : List ℕ → List ℕ → List ℕ
fronted xs buffer = xs ++ drop (length xs) buffer

-- x at channel 0, y at any other
abbrev pub alone : {X : Type 0} → X → X → ℕ → X
alone x y c = cond (c == 0) x y

-- a sink of one channel, number 0
abbrev pub one_channel : (P : Type 0) → (P → ℕ → Bool) → (P → ℕ → P) → (P → ℕ → List ℕ) → Meaning
one_channel P expects moves adds =
    record {
      Position = P;
      channels = 0 ∷ [];
      limit = λ c. stock_bytes;
      expected = expects;
      next = moves;
      added = λ p i. alone (adds p i) [];
    }
