-- What an item does at a point that is no text, as the code holds it. Assumes nothing.
use Rattle.std.specs.Prelude.{◌≡◌, ℕ, true, false, Some, None, Option}
use Rattle.text.specs.declared.manner.Manner.{Manner}
use Rattle.text.specs.declared.kind.Kind.{Kind}
use Rattle.text.specs.declared.moving.Move.{Move}
use Rattle.text.specs.TextMeaning.{expected_at, next_at, added_at}

pub record Moves (m : Manner) (k : Kind) (i : ℕ) (v : Move) : Type 0 where
  pub expects : expected_at m k i ≡ true
  pub goes : v.next ≡ next_at k i
  pub adds : v.tail.items ≡ added_at m k i

-- no move is one that is not expected
abbrev pub Moved : Manner → Kind → ℕ → Option Move → Type 0
Moved m k i None = expected_at m k i ≡ false
Moved m k i (Some v) = Moves m k i v
