-- Items handed to a sink for a run. K is what the sink means. Assumes nothing.
use Rattle.std.specs.Prelude.{◌≡◌, ℕ, ◌≤◌, length, Ok, Err, Result}
use Rattle.fault.specs.declared.refusal.Fault.{Fault}
use Rattle.sink.specs.Meaning.{Meaning, Stocks}
use Rattle.walk.specs.Codes.{Code}
use Rattle.run.specs.Sinks.{Standing, after_items, Takes, Stopped}

-- where the sink stands
abbrev pub stand : {P : Type 0} → P → Stocks → Standing P
stand p s = record { position = p; stocks = s }

module _ (K : Meaning) where
  -- how handing over the items xs ended, of which `done` were taken: all were, or the sink refused one
  abbrev pub GivenEnded : Standing K.Position → Code → Code → ℕ → Result (Unit {0}) Fault → Type 0
  GivenEnded t xs done place (Ok u) = xs ≡ done
  GivenEnded t xs done place (Err f) = Stopped K t done xs place f

  -- The items xs were handed to a sink that stood at s and stands at t now; n were taken.
  pub record Gives (s : Standing K.Position) (xs : Code) (place n : ℕ) (r : Result (Unit {0}) Fault) (t : Standing K.Position) : Type 0 where
    pub done : Code
    pub takes : Takes K s done
    pub stood : t ≡ after_items K s done
    pub counted : n ≡ length done
    pub few : n ≤ length xs
    pub ended : GivenEnded t xs done place r
