-- The theorem on runs: any list of calls from an opening on, by the stages that they lead through. Assumes nothing.
use Rattle.std.specs.Prelude.{◌≡◌, ℕ, Bool, true, false, cond, List, [], ◌∷◌, length, is_ok, Some, None, Option, Result}
use Rattle.std.proofs.lemmas.List.Edits.{sets}
use Rattle.fault.specs.declared.refusal.Fault.{Fault}
use Rattle.alphabet.specs.Meaning.{Meaning}
use Rattle.pattern.specs.declared.pattern.Pattern.{Pattern}
use Rattle.sink.specs.Meaning.{Meaning as SinkMeaning, pour_answer, emptied, fronted}
use Rattle.run.specs.declared.calls.Call.{Call}
use Rattle.run.specs.declared.calls.Call.TheVariants.{Feed, Pour}
use Rattle.run.specs.declared.calls.Answer.{Answer}
use Rattle.run.specs.declared.calls.Answer.TheVariants.{Fed as FedAnswer, Poured as PouredAnswer}
use Rattle.run.specs.declared.finished.Finished.{Finished}
use Rattle.run.specs.Sinks.{Standing}
use Rattle.run.specs.Stages.{Stage, Stands, Fed, Opened, Closed}

-- the stage with the sink standing elsewhere
abbrev pub with_sink : {S P Q : Type 0} → Stage S P → Standing Q → Stage S Q
with_sink a t = record { read = a.read; handed = a.handed; fault = a.fault; sink = t }

-- where a sink stands after the pour of a channel that was answered so: at its position, without the stock that was poured
abbrev pub after_pour : {P : Type 0} → Standing P → ℕ → Result ℕ Fault → Standing P
after_pour s channel r = record { position = s.position; stocks = cond (is_ok r) (emptied s.stocks channel) s.stocks }

-- A pour of a channel, from the stage a with the buffer x, to the stage b with the buffer y: the run is as it was.
pub record Poured {S : Type 0} (K : SinkMeaning) (channel : ℕ) (a : Stage S K.Position) (x : List ℕ) (r : Result ℕ Fault) (b : Stage S K.Position) (y : List ℕ) : Type 0 where
  pub answer : r ≡ pour_answer K a.sink.stocks channel (length x)
  pub after : b ≡ with_sink a (after_pour a.sink channel r)
  pub written : y ≡ cond (is_ok r) (fronted (a.sink.stocks channel) x) x

module _ {S : Type 0} (L : Meaning S) (p : Pattern) (K : SinkMeaning) where
  -- What one call makes of the stage a and the buffer x, with its answer: a feed is answered as a feed and leaves the buffer; a pour as a pour.
  abbrev pub Done : Call S → Stage S K.Position → List ℕ → Answer → Stage S K.Position → List ℕ → Type 0
  Done (Feed piece) a x (FedAnswer r) b y = Fed L p K piece.now a r b × (y ≡ x)
  Done (Feed piece) a x (PouredAnswer r) b y = ⊥
  Done (Pour channel) a x (FedAnswer r) b y = ⊥
  Done (Pour channel) a x (PouredAnswer r) b y = Poured K channel a x r b y

  -- a list of calls with their answers leads from the stage a to the stage z, by a stage after each call; each stage stands
  abbrev pub Through : Stage S K.Position → List ℕ → List (Call S) → List Answer → Stage S K.Position → List ℕ → Type 0
  Through a x [] [] z y = (z ≡ a) × (y ≡ x)
  Through a x [] (r ∷ rs) z y = ⊥
  Through a x (c ∷ cs) [] z y = ⊥
  Through a x (c ∷ cs) (r ∷ rs) z y =
      (b : Stage S K.Position) × (u : List ℕ) × Done c a x r b u × Stands L p b × Through b u cs rs z y

  -- the finish, if it was asked for: it ends the run, and the sink stands at t; else the sink stands as at the last stage
  abbrev pub Ends : Bool → Stage S K.Position → Option (Result Finished Fault) → Standing K.Position → Type 0
  Ends true a (Some r) t = Closed L p K a t r
  Ends true a None t = ⊥
  Ends false a (Some r) t = ⊥
  Ends false a None t = t ≡ a.sink

  -- THE THEOREM. A run is opened over a sink that stands at s, makes the calls, and is finished or not; n items are handed over at the opening, `last` is the
  -- finish's answer, and then the sink stands at t, the log is log' and the buffer y. There are stages, one after each call, each of which stands.
  pub record Reads (s : Standing K.Position) (calls : List (Call S)) (log : List Answer) (x : List ℕ) (finish : Bool)
      (n : ℕ) (last : Option (Result Finished Fault)) (t : Standing K.Position) (log' : List Answer) (y : List ℕ) : Type 0 where
    -- the opening leads to the first stage
    pub first : Stage S K.Position
    pub opened : Opened L p K s n first
    pub stands : Stands L p first
    -- the calls lead to the last, and the log has their answers, as far as it reaches
    pub answers : List Answer
    pub final : Stage S K.Position
    pub through : Through first x calls answers final y
    pub logged : log' ≡ sets log 0 answers
    -- the finish, if any, ends the run
    pub ends : Ends finish final last t
