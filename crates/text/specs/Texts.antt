-- What the texts of a pattern give, one after another. Assumes nothing.
use Rattle.std.specs.Prelude.{◌≡◌, ℕ, ◌-◌, ◌<◌, ◌≤◌, List, [], ◌++◌, length, MatchOption, Option}
use Rattle.std.specs.Borrow.{Bor}
use Rattle.std.specs.List.{slice_get}
use Rattle.pattern.specs.Limits.{most_text}
use Rattle.pattern.specs.Patterns.{points_of, text_of}
use Rattle.text.specs.declared.passing.Texts.{Texts}
use Rattle.text.specs.declared.kind.Kind.{Kind}
use Rattle.text.specs.Passing.{passed}
use Rattle.text.specs.TextMeaning.{kind_of, met}

-- how many points there are from where one stands on
abbrev pub points_left : Texts → ℕ
points_left s = length (points_of s.pattern.now) - s.at

-- the bytes of the texts from where one stands on
abbrev pub bytes_left : Texts → List ℕ
bytes_left s = passed (points_of s.pattern.now) (text_of s.pattern.now) s.at

-- the kind of the point past them
abbrev pub kind_past : Texts → Kind
kind_past s = met (points_of s.pattern.now) s.at

-- the bytes x are those of the text at which one stands, and then one stands at the next point
pub record Passes (s : Texts) (x : List ℕ) (t : Texts) : Type 0 where
  pub pattern : t.pattern ≡ s.pattern
  pub up : s.at < t.at
  pub within : t.at ≤ length (points_of s.pattern.now)
  pub short : length x ≤ most_text
  pub kind : kind_past s ≡ kind_past t
  pub bytes : bytes_left s ≡ x ++ bytes_left t

-- where one stands at no text, nothing is given
pub record Stays (s t : Texts) : Type 0 where
  pub same : t ≡ s
  pub kind : kind_past s ≡ kind_of (slice_get (points_of s.pattern.now) s.at)
  pub bytes : bytes_left s ≡ []

abbrev pub TextsGive : Texts → Option (Bor (List ℕ)) → Texts → Type 0
TextsGive s r t = MatchOption r (Stays s t) (λ x. Passes s x.now t)
