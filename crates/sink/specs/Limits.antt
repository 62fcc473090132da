-- The limits of sinks. Assumes nothing.
use Rattle.std.specs.Prelude.{ℕ}

-- the bytes that a stock of the sinks of bits and of text may hold
abbrev pub stock_bytes : ℕ
stock_bytes = 4096
