-- Nothing is lost: the opening, the calls and the finish put together.
use Rattle.std.proofs.Common.{◌≡◌, ℕ, Bool, true, false, List, [], ◌++◌, length, Some, None, Ok, Err, Option, Result, sym, refl, ap, ◌∙◌, subst, inl, inr, append-nil}
use Rattle.fault.specs.declared.refusal.Fault.{Fault}
use Rattle.alphabet.specs.Meaning.{Meaning}
use Rattle.pattern.specs.declared.pattern.Pattern.{Pattern}
use Rattle.sink.specs.Meaning.{Meaning as SinkMeaning}
use Rattle.sink.specs.Handing.{moved_by}
use Rattle.sink.proofs.Handings.{Expects}
use Rattle.walk.specs.Codes.{Code}
use Rattle.run.specs.declared.calls.Call.{Call}
use Rattle.run.specs.declared.calls.Answer.{Answer}
use Rattle.run.specs.declared.finished.Finished.{Finished}
use Rattle.run.specs.Words.{CodesAs}
use Rattle.run.specs.Sinks.{Standing, after_items, Takes}
use Rattle.run.specs.Stages.{Stage, FinishedAll, FinishStopped, FinishEnded}
use Rattle.run.specs.Performed.{Ends, Reads}
use Rattle.filing.specs.Channels.{written, fed, drawn}
use Rattle.filing.specs.Laws.{InAll, Kept, NothingLost}
use Rattle.filing.proofs.Courses.{taken_course, course_then, through_course, open_or_failed}
use Rattle.filing.proofs.Feeding.{through_feeding}

module _ {S : Type 0} (L : Meaning S) (p : Pattern) (K : SinkMeaning) where
  -- a sink before any call of a run
  abbrev before : Standing K.Position → Stage S K.Position
  before s = record { read = []; handed = []; fault = None; sink = s }

  -- the last stage with the items of the finish, and the sink as that leaves it
  abbrev behind : Stage S K.Position → Code → Standing K.Position → Stage S K.Position
  behind a more t = record { read = a.read; handed = a.handed ++ more; fault = a.fault; sink = t }

  -- what the finish hands over, if it is asked for
  record Closing (a : Stage S K.Position) (last : Option (Result Finished Fault)) (t : Standing K.Position) : Type 0 where
    pub more : Code
    pub takes : Takes K a.sink more
    pub stood : t ≡ after_items K a.sink more
    pub all : InAll L p K a last t (a.handed ++ more)

  closing_still : (a : Stage S K.Position) (last : Option (Result Finished Fault)) (t : Standing K.Position) → t ≡ a.sink
      → ((items : Code) → items ≡ a.handed → InAll L p K a last t items) → Closing a last t
  closing_still a last t e all = record { more = []; takes = refl; stood = e; all = all (a.handed ++ []) (append-nil a.handed) }

  closing_all : (a : Stage S K.Position) (t : Standing K.Position) (r : Finished) → FinishedAll L p K a t r → Closing a (Some (Ok r)) t
  closing_all a t r h =
      let c = h.course in
      record {
        more = c.items;
        takes = c.takes;
        stood = c.stood;
        all = (subst (CodesAs L p a.read) (sym h.whole) c.greedy, h.total ∙ ap length (sym h.whole), h.symbols);
      }

  closing_stopped : (a : Stage S K.Position) (t : Standing K.Position) (f : Fault) → FinishStopped L p K a t f → Closing a (Some (Err f)) t
  closing_stopped a t f h =
      let c = h.course in
      record { more = c.items; takes = c.takes; stood = c.stood; all = inr (c.code, c.greedy, (c.items, refl), h.stopped) }

  closing_open : (a : Stage S K.Position) (t : Standing K.Position) (r : Result Finished Fault) → FinishEnded L p K a t r → Closing a (Some r) t
  closing_open a t (Ok r) h = closing_all a t r h
  closing_open a t (Err f) (inl h) = closing_still a (Some (Err f)) t h.still (λ items e. inl e)
  closing_open a t (Err f) (inr h) = closing_stopped a t f h

  closing_failed : (a : Stage S K.Position) (t : Standing K.Position) (r : Result Finished Fault) (f : Fault) → r ≡ Err f → t ≡ a.sink → Closing a (Some r) t
  closing_failed a t (Ok r) f e i = cc
  closing_failed a t (Err g) f e i = closing_still a (Some (Err g)) t i (λ items k. inl k)

  closing : (finish : Bool) (a : Stage S K.Position) (last : Option (Result Finished Fault)) (t : Standing K.Position) → Ends L p K finish a last t → Closing a last t
  closing true a (Some r) t h =
      elim (open_or_failed a.fault) [
        | inl e ↦ closing_open a t r (h.opened e)
        | inr e ↦ let k = h.failed e.0 e.1 in closing_failed a t r e.0 k.0 k.1
      ]
  closing true a None t h = absurd h
  closing false a (Some r) t h = absurd h
  closing false a None t h = closing_still a None t h (λ items e. e)

  -- what is kept, and that the sink expected each item in turn
  pub record AllHanded {s : Standing K.Position} {calls : List (Call S)} {log : List Answer} {x : List ℕ} {finish : Bool} {n : ℕ} {last : Option (Result Finished Fault)}
      {t : Standing K.Position} {log' : List Answer} {y : List ℕ} (R : Reads L p K s calls log x finish n last t log' y) : Type 0 where
    pub kept : Kept L p K R
    pub expects : Expects K s.position kept.items

  pub all_handed : {s : Standing K.Position} {calls : List (Call S)} {log : List Answer} {x : List ℕ} {finish : Bool} {n : ℕ} {last : Option (Result Finished Fault)}
      {t : Standing K.Position} {log' : List Answer} {y : List ℕ} (R : Reads L p K s calls log x finish n last t log' y) → AllHanded R
  all_handed {s = s} {calls = calls} {x = x} {finish = finish} {last = last} {t = t} {y = y} R =
      let first = R.first in
      let final = R.final in
      let end = closing finish final last t R.ends in
      let z = behind final end.more t in
      let out : ℕ → List ℕ = λ c. drawn L p K c first x calls R.answers final y R.through in
      let whole =
      course_then K (before s) first z (λ c. []) (λ c. out c ++ [])
      (taken_course K (before s) first first.handed refl R.opened.takes R.opened.stood)
      (course_then K first final z out (λ c. []) (through_course K L p first x calls R.answers final y R.through)
      (taken_course K final z end.more refl end.takes end.stood)) in
      record {
        kept = record {
          items = final.handed ++ end.more;
          read = (let f = through_feeding L p K first x calls R.answers final y R.through in (f.rest, ap (λ (v : List S). v ++ fed calls) (sym R.opened.reads) ∙ f.read));
          handed = end.all;
          moved = whole.moved ∙ ap (moved_by K s.position) (sym whole.hands);
          channels = λ c.
              ap (λ (v : List ℕ). v ++ t.stocks c) (sym (append-nil (out c)))
              ∙ whole.channels c
              ∙ ap (λ (v : Code). s.stocks c ++ written K c s.position v) (sym whole.hands);
        };
        expects = subst (Expects K s.position) (sym whole.hands) whole.expects;
      }

  pub nothing_lost : NothingLost L p K
  nothing_lost s calls log x finish n last t log' y R = (all_handed R).kept
