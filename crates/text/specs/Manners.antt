-- The words that name manners. Assumes nothing.
use Rattle.std.specs.Prelude.{◌≡◌, ◌↔◌, ℕ, List, Ok, Result, codes}
use Rattle.text.specs.declared.manner.Manner.{Manner}
use Rattle.text.specs.declared.manner.Manner.TheVariants.{Plain, Numbered}
use Rattle.text.specs.declared.manner.UnknownManner.{UnknownManner}

-- `plain` names the plain manner, `numbered` the numbered one, and no other word names one
pub record NamesManner (word : List ℕ) (r : Result Manner UnknownManner) : Type 0 where
  pub plain : (r ≡ Ok Plain) ↔ (word ≡ codes "plain")
  pub numbered : (r ≡ Ok Numbered) ↔ (word ≡ codes "numbered")
