-- What making calls tells of what a run holds. L is what the alphabet means, p the pattern, K what the sink means. Assumes nothing.
use Rattle.std.specs.Prelude.{◌≡◌, ℕ, List}
use Rattle.std.proofs.lemmas.List.Edits.{sets}
use Rattle.alphabet.specs.Meaning.{Meaning}
use Rattle.pattern.specs.declared.pattern.Pattern.{Pattern}
use Rattle.sink.specs.Meaning.{Meaning as SinkMeaning}
use Rattle.run.specs.declared.calls.Call.{Call}
use Rattle.run.specs.declared.calls.Answer.{Answer}
use Rattle.run.specs.Sinks.{Standing}
use Rattle.run.specs.Stages.{Stage}
use Rattle.run.specs.Performed.{Done, Through}
use Rattle.run.specs.Inner.{Inner, StateOf, Leads}

module _ {S : Type 0} (L : Meaning S) (p : Pattern) (K : SinkMeaning) where
  -- one call
  abbrev pub Makes : Call S → List ℕ → Inner → Standing K.Position → Answer → Inner → Standing K.Position → List ℕ → Type 0
  Makes call x c s r d t y =
      (a : Stage S K.Position) → StateOf L p c a → a.sink ≡ s → Leads L p K d t (λ b. Done L p K call a x r b y)

  -- a list of calls
  abbrev pub MakesAll : List (Call S) → List Answer → List ℕ → Inner → Standing K.Position → Inner → Standing K.Position → List Answer → List ℕ → Type 0
  MakesAll calls log x c s d t log' y =
      (a : Stage S K.Position) → StateOf L p c a → a.sink ≡ s →
      (rs : List Answer) × ((log' ≡ sets log 0 rs) × Leads L p K d t (λ b. Through L p K a x calls rs b y))
