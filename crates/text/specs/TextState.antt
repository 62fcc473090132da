-- The position and the stocks of a sink of text. Assumes nothing.
use Rattle.std.specs.Prelude.{ℕ, [], Option}
use Rattle.pattern.specs.declared.pattern.Pattern.{Pattern}
use Rattle.pattern.specs.Patterns.{points_of, text_of, entry_of}
use Rattle.sink.specs.Meaning.{Stocks, alone}
use Rattle.sink.specs.Held.{held}
use Rattle.text.specs.declared.manner.Manner.{Manner}
use Rattle.text.specs.declared.text.Text.{Text}
use Rattle.text.specs.TextMeaning.{TextPosition, at, place}

-- a position in a pattern
abbrev pub place_in : Pattern → Manner → Option ℕ → TextPosition
place_in p m k = place (points_of p) (text_of p) m k

-- the position of a fresh sink: the entry of the pattern
abbrev pub start_of : Pattern → Manner → TextPosition
start_of p m = at (points_of p) (text_of p) m (entry_of p)

-- the position and the stocks of a sink
abbrev pub text_position : Text → TextPosition
text_position s = place_in s.pattern.now s.manner s.point

abbrev pub text_stock : Text → Stocks
text_stock s = alone (held s.stock) []
