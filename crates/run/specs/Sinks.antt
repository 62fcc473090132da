-- A sink as a run finds it: where it stands, and what taking items in turn makes of it. K is what the sink means. Assumes nothing.
use Rattle.std.specs.Prelude.{◌≡◌, ℕ, true, ◌∷◌, ◌++◌, Err}
use Rattle.fault.specs.declared.refusal.Fault.{Fault}
use Rattle.sink.specs.declared.Sink.{Ghosts}
use Rattle.sink.specs.Meaning.{Meaning, Stocks, take_answer, sink_fault}
use Rattle.sink.specs.Handing.{moved_by, grown_by, all_taken}
use Rattle.walk.specs.Codes.{Code}

-- where a sink stands: its position, and what each of its channels holds
pub record Standing (P : Type 0) : Type 0 where
  pub position : P
  pub stocks : Stocks

-- where a sink stands, by what its kind means
abbrev pub standing : {T : Type 0} (kind : Ghosts T) → T → Standing kind.meaning.Position
standing kind sink = record { position = kind.position sink; stocks = kind.stock sink }

module _ (K : Meaning) where
  -- where it stands when it has taken the items in turn
  abbrev pub after_items : Standing K.Position → Code → Standing K.Position
  after_items t xs = record { position = moved_by K t.position xs; stocks = grown_by K t.position t.stocks xs }

  -- it takes each of the items in turn
  abbrev pub Takes : Standing K.Position → Code → Type 0
  Takes t xs = all_taken K t.position t.stocks xs ≡ true

  -- a sink that stands at t refuses an item of `whole`: the items handed over end just before it, and the fault has the sink's cause
  pub record Stopped (t : Standing K.Position) (done whole : Code) (place : ℕ) (f : Fault) : Type 0 where
    pub item : ℕ
    pub rest : Code
    pub cut : whole ≡ done ++ (item ∷ rest)
    pub refused : take_answer K t.position t.stocks item ≡ Err (sink_fault f.cause)
    pub there : f.place ≡ place
