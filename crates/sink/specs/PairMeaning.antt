-- What a pair of sinks means: channel 2c is the first's c, and channel 2c + 1 the second's c. Assumes nothing.
use Rattle.std.specs.Prelude.{ℕ, ◌+◌, ◌*◌, ◌/◌, ◌%◌, cond, ◌&&◌, ◌++◌, map, ◌==◌}
use Rattle.sink.specs.Meaning.{Meaning, Stocks}

-- the channel of a pair that is channel c of its first sink, and that of its second
abbrev pub first_channel : ℕ → ℕ
first_channel c = 2 * c

abbrev pub second_channel : ℕ → ℕ
second_channel c = 2 * c + 1

-- of what each channel has in two sinks, what it has in their pair
abbrev pub by_parity : {X : Type 0} → (ℕ → X) → (ℕ → X) → ℕ → X
by_parity f g c = cond (c % 2 == 0) (f (c / 2)) (g (c / 2))

-- an item is expected if both expect it, and both take it
abbrev pub pair_meaning : Meaning → Meaning → Meaning
pair_meaning m n =
    record {
      Position = m.Position × n.Position;
      channels = map first_channel m.channels ++ map second_channel n.channels;
      limit = by_parity m.limit n.limit;
      expected = λ p i. m.expected p.0 i && n.expected p.1 i;
      next = λ p i. (m.next p.0 i, n.next p.1 i);
      added = λ p i. by_parity (m.added p.0 i) (n.added p.1 i);
    }

abbrev pub pair_stocks : Stocks → Stocks → Stocks
pair_stocks s t = by_parity s t
