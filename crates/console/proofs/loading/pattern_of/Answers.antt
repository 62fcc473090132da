-- A file that was loaded gives the pattern that it was loaded into.
use Rattle.std.proofs.Common.{Result, Ok, Err, refl}
use Rattle.fault.specs.declared.refusal.Fault.{Fault}
use Rattle.pattern.specs.Expressions.{Expr}
use Rattle.pattern.specs.Patterns.{Loaded}
use Rattle.pattern.specs.Files.{decoded}
use Rattle.pattern.specs.declared.pattern.Pattern.{Pattern}
use Rattle.console.specs.Loading.{Gives}
use Rattle.console.proofs.loading.pattern_of.Goals as goal

loaded_gives : (d : Result Expr Fault) (old new : Pattern) → Loaded d (Ok tt) old new → Gives d (Ok new)
loaded_gives (Ok e) old new h = (new, refl, h.1)
loaded_gives (Err f) old new h = let e = h.0 in cc

pub returns : goal.returns
returns c = loaded_gives (decoded c.args.file.now) c.new-pattern.result c.load.new.self c.in_ok-load.ensures
