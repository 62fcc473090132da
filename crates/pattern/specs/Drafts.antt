-- What the operations of a draft answer. Assumes nothing.
use Rattle.std.specs.Prelude.{◌≡◌, ℕ, true, List, is_ok, Ok, Err, Result, MatchResult}
use Rattle.fault.specs.declared.refusal.Fault.{Fault}
use Rattle.pattern.specs.declared.pattern.Pattern.{Pattern}
use Rattle.pattern.specs.declared.pattern.draft.Draft.{Draft}
use Rattle.pattern.specs.Expressions.{Expr}
use Rattle.pattern.specs.Files.{Effect, refused, leaves}
use Rattle.pattern.specs.Patterns.{Is}
use Rattle.pattern.specs.Held.{Hold}

-- a draft holds the expressions es
abbrev pub Holds : Draft → List Expr → Type 0
Holds d es = Hold d.points.items d.text.items d.parts.items es

-- the answer of one operation of a draft at the offset `at`
abbrev pub Done : {T : Type 0} → Effect → ℕ → Result T Fault → Draft → Type 0
Done (refused c) at r d = r ≡ Err (record { cause = c; place = at })
Done (leaves n es) at r d = (is_ok r ≡ true) × Holds d es

-- the pattern of the expression that is found at the end of a file, or the fault
abbrev pub Finished : Result Expr Fault → Result Pattern Fault → Type 0
Finished (Ok e) r = MatchResult r (λ p. Is p e) (λ _. ⊥)
Finished (Err f) r = r ≡ Err f
