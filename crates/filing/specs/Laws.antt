-- Nothing is lost between a run and what is poured of its sink. L is what the alphabet means, p the pattern, K what the sink means. Assumes nothing.
use Rattle.std.specs.Prelude.{◌≡◌, ℕ, Bool, ◌⊎◌, List, ◌++◌, length, Some, None, Ok, Err, Option, Result}
use Rattle.fault.specs.declared.refusal.Fault.{Fault}
use Rattle.alphabet.specs.Meaning.{Meaning}
use Rattle.pattern.specs.declared.pattern.Pattern.{Pattern}
use Rattle.sink.specs.Meaning.{Meaning as SinkMeaning}
use Rattle.sink.specs.Handing.{moved_by}
use Rattle.walk.specs.Codes.{Code, Begins}
use Rattle.run.specs.declared.calls.Call.{Call}
use Rattle.run.specs.declared.calls.Answer.{Answer}
use Rattle.run.specs.declared.finished.Finished.{Finished}
use Rattle.run.specs.Words.{CodesAs}
use Rattle.run.specs.Sinks.{Standing, Stopped}
use Rattle.run.specs.Stages.{Stage}
use Rattle.run.specs.Performed.{Reads}
use Rattle.filing.specs.Channels.{written, fed, drawn}

module _ {S : Type 0} (L : Meaning S) (p : Pattern) (K : SinkMeaning) where
  -- The items handed over in all, from the last stage a and the finish's answer, if any; t is where the sink stands then. With no finish they are those of
  -- the calls. An answered finish has counted them, and they are the greedy code of the symbols read. A refused finish has handed over nothing, or the
  -- beginning of the rest of the greedy code that ends just before an item that the sink refuses.
  abbrev pub InAll : Stage S K.Position → Option (Result Finished Fault) → Standing K.Position → Code → Type 0
  InAll a None t items = items ≡ a.handed
  InAll a (Some (Ok r)) t items = CodesAs L p a.read items × (r.items ≡ length items) × (r.symbols ≡ length a.read)
  InAll a (Some (Err f)) t items =
      (items ≡ a.handed) ⊎ ((g : Code) × CodesAs L p a.read g × Begins items a.handed × Stopped K t items g (length a.read) f)

  -- For a run over a sink that stood at s and stands at t: the symbols read begin those fed; the position is where the items handed over in all lead; and of
  -- every channel, what the pours have drawn and what it holds now are what it held at first and what the items have written, byte for byte.
  pub record Kept {s : Standing K.Position} {calls : List (Call S)} {log : List Answer} {x : List ℕ} {finish : Bool} {n : ℕ} {last : Option (Result Finished Fault)}
      {t : Standing K.Position} {log' : List Answer} {y : List ℕ} (R : Reads L p K s calls log x finish n last t log' y) : Type 0 where
    pub read : (rest : List S) × (fed calls ≡ R.final.read ++ rest)
    pub items : Code
    pub handed : InAll R.final last t items
    pub moved : t.position ≡ moved_by K s.position items
    pub channels : (c : ℕ) → drawn L p K c R.first x calls R.answers R.final y R.through ++ t.stocks c ≡ s.stocks c ++ written K c s.position items

  -- however the input was cut into feeds, however the sink was poured in between, and whether or not anything was refused or the run was finished
  abbrev pub NothingLost : Type 0
  NothingLost = (s : Standing K.Position) (calls : List (Call S)) (log : List Answer) (x : List ℕ) (finish : Bool) (n : ℕ) (last : Option (Result Finished Fault))
      (t : Standing K.Position) (log' : List Answer) (y : List ℕ) (R : Reads L p K s calls log x finish n last t log' y) → Kept R
