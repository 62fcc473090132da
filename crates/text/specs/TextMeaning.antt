-- What the sink of text means. Assumes nothing.
use Rattle.std.specs.Prelude.{ℕ, ◌-◌, Bool, true, false, cond, ◌&&◌, List, [], ◌∷◌, ◌++◌, Some, None, Option, ◌==◌, nat_le}
use Rattle.std.specs.List.{slice_get}
use Rattle.alphabet.specs.Items.{first_branch, second_branch, first_read, last_read, end_mark}
use Rattle.pattern.specs.declared.point.Point.{Point}
use Rattle.pattern.specs.declared.point.Point.TheVariants as point
use Rattle.pattern.specs.Numbers.{shortest}
use Rattle.sink.specs.Meaning.{Meaning, one_channel}
use Rattle.text.specs.declared.manner.Manner.{Manner}
use Rattle.text.specs.declared.manner.Manner.TheVariants.{Plain, Numbered}
use Rattle.text.specs.declared.kind.Kind.{Kind}
use Rattle.text.specs.declared.kind.Kind.TheVariants.{Read, Text, Branch, End}
use Rattle.text.specs.Passing.{settled, passed}

-- the largest number that the plain manner can write
abbrev pub largest_byte : ℕ
largest_byte = 255

-- the number of the symbol that an item reads
abbrev pub number_of : ℕ → ℕ
number_of i = i - first_read

-- whether a manner can write a number, and the bytes that it writes: one byte, or the fewest groups of seven bits
abbrev pub writable : Manner → ℕ → Bool
writable Plain v = nat_le v largest_byte
writable Numbered v = true

abbrev pub number_bytes : Manner → ℕ → List ℕ
number_bytes Plain v = v ∷ []
number_bytes Numbered v = shortest v

-- what a point is to the sink; past the last point stands the end point
abbrev pub kind_of : Option Point → Kind
kind_of None = End
kind_of (Some (point.Read keep class next)) = Read keep next
kind_of (Some (point.Text start len next)) = Text
kind_of (Some (point.Choice a b)) = Branch a b
kind_of (Some (point.Star a b)) = Branch a b

-- a choice or star expects a branch, a read an item of a symbol, if the symbol is dropped or can be written, and the end point the end mark
abbrev pub expected_at : Manner → Kind → ℕ → Bool
expected_at m (Read keep next) i = nat_le first_read i && (nat_le i last_read && cond keep (writable m (number_of i)) true)
expected_at m Text i = false
expected_at m (Branch a b) i = nat_le i second_branch
expected_at m End i = i == end_mark

-- the point that comes next; none after the end mark
abbrev pub next_at : Kind → ℕ → Option ℕ
next_at (Read keep next) i = Some next
next_at Text i = None
next_at (Branch a b) i = Some (cond (i == first_branch) a b)
next_at End i = None

-- a read that keeps its symbol writes the symbol's number
abbrev pub added_at : Manner → Kind → ℕ → List ℕ
added_at m (Read keep next) i = cond keep (number_bytes m (number_of i)) []
added_at m Text i = []
added_at m (Branch a b) i = []
added_at m End i = []

-- a pattern, as its points and its text bytes, with a manner and a point; or that the end mark has come
pub data TextPosition : Type 0 where
  at : List Point → List ℕ → Manner → ℕ → TextPosition
  ended : TextPosition

abbrev pub place : List Point → List ℕ → Manner → Option ℕ → TextPosition
place ps ts m (Some k) = at ps ts m k
place ps ts m None = ended

-- the kind of the point that comes first past the texts from point k on
abbrev pub met : List Point → ℕ → Kind
met ps k = kind_of (slice_get ps (settled ps k))

abbrev pub text_expected : TextPosition → ℕ → Bool
text_expected (at ps ts m k) i = expected_at m (met ps k) i
text_expected ended i = false

abbrev pub text_next : TextPosition → ℕ → TextPosition
text_next (at ps ts m k) i = place ps ts m (next_at (met ps k) i)
text_next ended i = ended

-- first the texts that are passed
abbrev pub text_added : TextPosition → ℕ → List ℕ
text_added (at ps ts m k) i = passed ps ts k ++ added_at m (met ps k) i
text_added ended i = []

abbrev pub text_meaning : Meaning
text_meaning = one_channel TextPosition text_expected text_next text_added

-- the text of a list of items from a position on: what each item adds, in their order
abbrev pub text_of_items : TextPosition → List ℕ → List ℕ
text_of_items p [] = []
text_of_items p (i ∷ is) = text_added p i ++ text_of_items (text_next p i) is
