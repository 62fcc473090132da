-- The stage that a run always has.
use Rattle.std.proofs.Common.{◌≡◌, ℕ, true, List, [], Result, sym, refl, subst}
use mathlib.Core.Logic.{∥∥₁_map}
use Rattle.fault.specs.declared.refusal.Fault.{Fault}
use Rattle.alphabet.specs.Meaning.{Meaning}
use Rattle.pattern.specs.declared.pattern.Pattern.{Pattern}
use Rattle.sink.specs.Meaning.{Meaning as SinkMeaning}
use Rattle.reader.specs.Seen.{Seen, every}
use Rattle.run.specs.Sinks.{Standing}
use Rattle.run.specs.Stages.{Stage}
use Rattle.run.specs.Performed.{with_sink}
use Rattle.run.specs.Inner.{Inner, StateOf, Leads, Feeds, Held}
use Rattle.run.proofs.Steps.{Inhabited}

-- every class has a symbol
pub every_inhabited : Inhabited every
every_inhabited class h = (record { belongs = λ _. true; number = 0 }, refl)

-- the sink has no part in what a run holds
pub state_with : {S P Q : Type 0} (L : Meaning S) (p : Pattern) (c : Inner) (a : Stage S P) (t : Standing Q) → StateOf L p c a → StateOf L p c (with_sink a t)
state_with L p c a t st =
    record {
      count = st.count;
      total = st.total;
      fault_is = st.fault_is;
      known = st.known;
      going = st.going;
      reading = st.reading;
      stands = record { exact = st.stands.exact; hopeful = st.stands.hopeful; beginning = st.stands.beginning; foreseen = st.stands.foreseen };
    }

abbrev pub nowhere : Standing (Unit {0})
nowhere = record { position = tt; stocks = λ _. [] }

pub held_led : (p : Pattern) (K : SinkMeaning) (d : Inner) (t : Standing K.Position) (Q : Stage Seen K.Position → Type 0) → Leads every p K d t Q → Held p d
held_led p K d t Q l = (with_sink l.0 nowhere, state_with every p d l.0 nowhere l.1.1.0)

pub held_fed : (p q : Pattern) (K : SinkMeaning) (w : List Seen) (c d : Inner) (s t : Standing K.Position) (r : Result ℕ Fault)
    → q ≡ p → Feeds every p K w c s r d t → ∥ Held p c ∥₁ → ∥ Held q d ∥₁
held_fed p q K w c d s t r e h k =
    ∥∥₁_map k (λ x. subst (λ (y : Pattern). Held y d) (sym e) (held_led p K d t _ (h (with_sink x.0 s) (state_with every p c x.0 s x.1) refl)))

pub held_at : (p q : Pattern) (c : Inner) → q ≡ p → Held p c → Held q c
held_at p q c e h = subst (λ (y : Pattern). Held y c) (sym e) h
