-- What the bytes of a pattern file give. Assumes nothing.
use Rattle.std.specs.Prelude.{◌≡◌, Result, Ok, Err}
use Rattle.fault.specs.declared.refusal.Fault.{Fault}
use Rattle.pattern.specs.Expressions.{Expr}
use Rattle.pattern.specs.Patterns.{Is}
use Rattle.pattern.specs.declared.pattern.Pattern.{Pattern}

-- an accepted file gives the pattern of its expression, a refused one its fault
abbrev pub Gives : Result Expr Fault → Result Pattern Fault → Type 0
Gives (Ok e) r = (p : Pattern) × (r ≡ Ok p) × Is p e
Gives (Err f) r = r ≡ Err f
