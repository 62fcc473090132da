-- What any alphabet says of a symbol. With it a reader's type can say that its core is the state of some reading, whatever the alphabet is. Assumes nothing.
use Rattle.std.specs.Prelude.{ℕ, ◌+◌, Bool, List}
use Rattle.alphabet.specs.Meaning.{Meaning}
use Rattle.pattern.specs.Limits.{largest_number}
use Rattle.pattern.specs.declared.pattern.Pattern.{Pattern}
use Rattle.walk.specs.Codes.{Code}
use Rattle.reader.specs.declared.state.Core.{Core}
use Rattle.reader.specs.Reading.{StateOf}

-- what an alphabet says of a symbol: the classes that it belongs to, and its number
pub record Seen : Type 0 where
  pub belongs : ℕ → Bool
  pub number : ℕ

-- what L says of the symbol s
abbrev pub see : {S : Type 0} → Meaning S → S → Seen
see L s = record { belongs = λ c. L.belongs c s; number = L.number s }

-- its symbols are all that can be said of a symbol; its classes, all that a pattern can name
abbrev pub every : Meaning Seen
every = record { classes = largest_number + 1; belongs = λ c s. s.belongs c; number = λ s. s.number }

-- the core is the state of a reading of some symbols
abbrev pub SomeReading : Pattern → Core → Type 0
SomeReading pattern s = (w : List Seen) × ((h : Code) × StateOf every pattern s w h)
