-- Laws of pattern files. Assumes nothing.
use Rattle.std.specs.Prelude.{◌≡◌, Ok}
use Rattle.pattern.specs.Expressions.{Expr, Within, written}
use Rattle.pattern.specs.Files.{decoded}

-- the file that an expression within the limits is written as decodes to that expression
abbrev pub ReadsBack : Type 0
ReadsBack = (e : Expr) → Within e → decoded (written e) ≡ Ok e
