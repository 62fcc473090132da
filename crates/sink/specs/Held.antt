-- The bytes that a stock holds. Assumes nothing.
use Rattle.std.specs.Prelude.{ℕ, List, take}
use Rattle.sink.specs.declared.stock.Stock.{Stock}

abbrev pub held : Stock → List ℕ
held s = take s.len s.bytes
