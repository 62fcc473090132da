-- Laws of the sink of text. Assumes nothing.
use Rattle.std.specs.Prelude.{◌≡◌, ℕ, List, [], ◌++◌, Some}
use Rattle.std.specs.List.{slice_get}
use Rattle.pattern.specs.declared.point.Point.TheVariants.{Text}
use Rattle.pattern.specs.declared.pattern.Pattern.{Pattern}
use Rattle.pattern.specs.Patterns.{points_of, text_of, own_bytes}
use Rattle.sink.specs.Meaning.{nothing, alone}
use Rattle.sink.specs.Handing.{grown_by}
use Rattle.text.specs.Passing.{settled, passed, NoText}
use Rattle.text.specs.TextMeaning.{TextPosition, text_meaning, text_of_items}

-- In every pattern the way past texts, from any point on, ends at a point that is no text. One who stands at such a point stays and
-- passes no byte; from a text one goes on to the next point and passes the text's bytes first.
pub record TextsEnd (p : Pattern) : Type 0 where
  pub ends : (k : ℕ) → NoText (slice_get (points_of p) (settled (points_of p) k))
  pub stays : (k : ℕ) → NoText (slice_get (points_of p) k) → settled (points_of p) k ≡ k
  pub silent : (k : ℕ) → NoText (slice_get (points_of p) k) → passed (points_of p) (text_of p) k ≡ []
  pub goes_on : (k start len next : ℕ) → slice_get (points_of p) k ≡ Some (Text start len next) → settled (points_of p) k ≡ settled (points_of p) next
  pub writes : (k start len next : ℕ) → slice_get (points_of p) k ≡ Some (Text start len next)
      → passed (points_of p) (text_of p) k ≡ own_bytes (text_of p) (Text start len next) ++ passed (points_of p) (text_of p) next

-- what items add to the one channel of a sink of text is exactly their text
abbrev pub AddsText : Type 0
AddsText = (q : TextPosition) (is : List ℕ) → grown_by text_meaning q nothing is ≡ alone (text_of_items q is) []
