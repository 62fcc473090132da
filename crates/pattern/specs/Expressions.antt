-- Expressions, how large they are, and the files that they are written as. Assumes nothing.
use Rattle.std.specs.Prelude.{ℕ, suc, ◌+◌, ◌≤◌, max, Bool, true, false, List, [], ◌∷◌, ◌++◌, length}
use Rattle.pattern.specs.declared.operation.Operation.TheVariants.{Empty, Drops, Keeps, Text, Sequence, Choice, Star}
use Rattle.pattern.specs.Limits.{most_points, most_text, most_standing, most_file, largest_number}
use Rattle.pattern.specs.Numbers.{shortest}
use Rattle.pattern.specs.Operations.{number_of}

-- The empty expression, a read of a class that keeps its symbol or drops it, a text, a sequence, a choice, a star.
pub data Expr : Type 0 where
  empty : Expr
  read : Bool → ℕ → Expr
  text : List ℕ → Expr
  seq : Expr → Expr → Expr
  alt : Expr → Expr → Expr
  star : Expr → Expr

-- how many points: one for each read, text, choice and star
abbrev pub size : Expr → ℕ
size empty = 0
size (read keep class) = 1
size (text bs) = 1
size (seq e f) = size e + size f
size (alt e f) = size e + size f + 1
size (star e) = size e + 1

-- the bytes of the texts, in the order in which they are written
abbrev pub texts : Expr → List ℕ
texts empty = []
texts (read keep class) = []
texts (text bs) = bs
texts (seq e f) = texts e ++ texts f
texts (alt e f) = texts e ++ texts f
texts (star e) = texts e

-- how many expressions stand together at most while it is read from a file
abbrev pub standing : Expr → ℕ
standing empty = 1
standing (read keep class) = 1
standing (text bs) = 1
standing (seq e f) = max (standing e) (suc (standing f))
standing (alt e f) = max (standing e) (suc (standing f))
standing (star e) = standing e

-- every class is a number that a file may hold
abbrev pub Writable : Expr → Type 0
Writable empty = Unit {0}
Writable (read keep class) = class ≤ largest_number
Writable (text bs) = Unit {0}
Writable (seq e f) = Writable e × Writable f
Writable (alt e f) = Writable e × Writable f
Writable (star e) = Writable e

abbrev pub read_number : Bool → ℕ
read_number false = number_of Drops
read_number true = number_of Keeps

-- the file of an expression: postfix, each number in the fewest groups
abbrev pub written : Expr → List ℕ
written empty = number_of Empty ∷ []
written (read keep class) = read_number keep ∷ shortest class
written (text bs) = number_of Text ∷ (shortest (length bs) ++ bs)
written (seq e f) = written e ++ (written f ++ number_of Sequence ∷ [])
written (alt e f) = written e ++ (written f ++ number_of Choice ∷ [])
written (star e) = written e ++ number_of Star ∷ []

-- an expression within the limits of patterns, whose file is within the limit of files
pub record Within (e : Expr) : Type 0 where
  pub points : size e ≤ most_points
  pub text : length (texts e) ≤ most_text
  pub standing : standing e ≤ most_standing
  pub classes : Writable e
  pub file : length (written e) ≤ most_file
