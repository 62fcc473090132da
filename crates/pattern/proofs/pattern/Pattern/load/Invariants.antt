use Rattle.std.proofs.Common.{◌≡◌, ◌-◌, ◌≤◌, List, [], length}
use Rattle.pattern.specs.Expressions.{Expr}
use Rattle.pattern.specs.Files.{operations}
use Rattle.pattern.specs.Drafts.{Holds}
use Rattle.pattern.proofs.pattern.Pattern.load.Given as goal

-- The draft holds some expressions from which the rest of the file gives what the whole gives.
abbrev pub invariant-loop-loader : goal.invariant-loop-loader
invariant-loop-loader l =
    (es : List Expr) × Holds l.loader.draft es × (length l.loader.rest.now ≤ length l.file)
    × (operations l.loader.rest.now 0 (length l.file - length l.loader.rest.now) es ≡ operations l.file 0 0 [])

abbrev pub decreases-loop-loader : goal.decreases-loop-loader
decreases-loop-loader l = length l.loader.rest.now
