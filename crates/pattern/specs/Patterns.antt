-- What a pattern holds, and what loading a file answers. Assumes nothing.
use Rattle.std.specs.Prelude.{◌≡◌, ℕ, ◌<◌, ◌≤◌, List, [], take, drop, Some, None, Ok, Err, Option, Result}
use Rattle.fault.specs.declared.refusal.Fault.{Fault}
use Rattle.pattern.specs.declared.point.Point.{Point}
use Rattle.pattern.specs.declared.point.Point.TheVariants.{Read, Text, Choice, Star}
use Rattle.pattern.specs.declared.pattern.Pattern.{Pattern}
use Rattle.pattern.specs.Expressions.{Expr}
use Rattle.pattern.specs.Points.{ComesFrom}

-- the points besides the end point, the bytes of all texts, and the number of the point that is entered first
abbrev pub points_of : Pattern → List Point
points_of p = take p.count p.points

abbrev pub text_of : Pattern → List ℕ
text_of p = take p.used p.text

abbrev pub entry_of : Pattern → ℕ
entry_of p = p.entry

-- the bytes of a point among all text bytes: none but at a text
abbrev pub own_bytes : List ℕ → Point → List ℕ
own_bytes ts (Read keep class k) = []
own_bytes ts (Text start len k) = take len (drop start ts)
own_bytes ts (Choice a b) = []
own_bytes ts (Star a b) = []

abbrev pub bytes_at : List ℕ → Option Point → List ℕ
bytes_at ts None = []
bytes_at ts (Some p) = own_bytes ts p

-- p is the pattern of the expression e, which is within the limits
abbrev pub Is : Pattern → Expr → Type 0
Is p e = ComesFrom (points_of p) (text_of p) (entry_of p) e

-- an accepted file replaces the pattern; a refused one leaves it as it was
abbrev pub Loaded : Result Expr Fault → Result (Unit {0}) Fault → Pattern → Pattern → Type 0
Loaded (Ok e) r old new = (r ≡ Ok tt) × Is new e
Loaded (Err f) r old new = (r ≡ Err f) × (new ≡ old)

-- every follower and branch of the point number i is a point or the end, n; a text goes on to a larger number
abbrev pub Leads : ℕ → ℕ → Point → Type 0
Leads n i (Read keep class k) = k ≤ n
Leads n i (Text start len k) = (k ≤ n) × (i < k)
Leads n i (Choice a b) = (a ≤ n) × (b ≤ n)
Leads n i (Star a b) = (a ≤ n) × (b ≤ n)

abbrev pub LeadsIf : ℕ → ℕ → Option Point → Type 0
LeadsIf n i None = n ≤ i
LeadsIf n i (Some p) = (i < n) × Leads n i p
