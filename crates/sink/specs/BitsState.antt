-- The position and the stocks of a sink of bits. Assumes nothing.
use Rattle.std.specs.Prelude.{[]}
use Rattle.sink.specs.declared.bits.Bits.{Bits}
use Rattle.sink.specs.Meaning.{Stocks, alone}
use Rattle.sink.specs.Held.{held}
use Rattle.sink.specs.BitsMeaning.{BitsPosition}
use Rattle.sink.specs.Unfilled.{position_of}

abbrev pub bits_position : Bits → BitsPosition
bits_position s = position_of s.unfilled

abbrev pub bits_stock : Bits → Stocks
bits_stock s = alone (held s.stock) []
