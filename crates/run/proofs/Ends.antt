-- The opening, the finish, and the number of live walks.
use Rattle.std.proofs.Common.{◌≡◌, ℕ, ◌+◌, Bool, true, false, List, [], ◌∷◌, ◌++◌, length, Some, None, Ok, Err, Option, Result, sym, refl, ap, ◌∙◌, subst, inl, inr, append_assoc, arith, length-append}
use Rattle.std.proofs.lemmas.Bool.{both_ways}
use Rattle.fault.specs.declared.refusal.Fault.{Fault}
use Rattle.fault.specs.declared.cause.Cause.TheVariants.{UnknownClass, NotAccepted}
use Rattle.alphabet.specs.Meaning.{Meaning}
use Rattle.pattern.specs.declared.pattern.Pattern.{Pattern}
use Rattle.point_set.specs.declared.set.PointSet.{PointSet}
use Rattle.point_set.specs.Flags.{tally}
use Rattle.point_set.specs.Members.{members, point_count}
use Rattle.sink.specs.Meaning.{Meaning as SinkMeaning}
use Rattle.walk.specs.Codes.{Code}
use Rattle.reader.specs.declared.stop.Stop.{Stop}
use Rattle.reader.specs.Reading.{StateOf as ReadingOf}
use Rattle.reader.specs.Calls.{Finishes, Finished as AnsweredAt, ShowsLive}
use Rattle.run.specs.declared.finished.Finished.{Finished}
use Rattle.run.specs.Words.{Known, Unknown, Accepts, CodesAs}
use Rattle.run.specs.Sinks.{Standing}
use Rattle.std.specs.Result.{result_err, result_unwrap_or}
use Rattle.run.specs.Giving.{Gives}
use Rattle.run.specs.Stages.{Stage, fault_at, Finishing}
use Rattle.run.specs.Inner.{Inner, StateOf, Opens, Closes, CountsLive, LiveTold}
use Rattle.run.proofs.Patterned.{hopeful}
use Rattle.run.proofs.Standings.{live_of, stands_open, stands_failed, stands_nothing}
use Rattle.run.proofs.Steps.{Inhabited}

module _ {S : Type 0} (L : Meaning S) (p : Pattern) where
  -- the live walks counted
  pub live_counted : (c : Inner) (m : PointSet) (n : ℕ) → c.fault ≡ None → length (members m) ≡ point_count
      → (c.stop ≡ None → ShowsLive L p c.core m) → n ≡ tally (members m) → CountsLive L p c n
  live_counted c m n cn size shows e a st =
      let an = sym st.fault_is ∙ cn in
      subst (λ (o : Option Fault). LiveTold L p o a.read n) (sym an)
      (members m, record { size = size; set = shows (st.going an) a.read a.handed (st.reading an) }, e)

  -- a run whose opening was refused with 4
  pub state_refused : {P : Type 0} (s : Standing P) (d : Inner) → d.read ≡ 0 → d.handed ≡ 0 → d.fault ≡ Some (fault_at UnknownClass 0)
      → StateOf L p d (record { read = []; handed = []; fault = Some (fault_at UnknownClass 0); sink = s })
  state_refused s d dr dh df =
      let f = fault_at UnknownClass 0 in
      record {
        count = dr;
        total = dh;
        fault_is = df;
        known = λ q. cc;
        going = λ q. cc;
        reading = λ q. cc;
        stands = stands_nothing L p s [] f;
      }

  module _ (K : SinkMeaning) where
    pub open_refused : (s : Standing K.Position) (d : Inner) → Unknown L p
        → d.read ≡ 0 → d.handed ≡ 0 → d.fault ≡ Some (fault_at UnknownClass 0) → Opens L p K s 0 d s
    open_refused s d u dr dh df = (
      record { read = []; handed = []; fault = Some (fault_at UnknownClass 0); sink = s },
      (
        record { reads = refl; takes = refl; stood = refl; counted = refl; ended = inl (u, refl, refl) },
        (state_refused s d dr dh df, refl),
      ),
    )

    -- the first items taken, or one refused
    pub open_given : Inhabited L → (s t : Standing K.Position) (d : Inner) (xs : Code) (n : ℕ) (r : Result (Unit {0}) Fault) → Known L p
        → ReadingOf L p d.core [] xs → d.stop ≡ None → d.read ≡ 0 → d.handed ≡ n → d.fault ≡ result_err r
        → Gives K s xs 0 n r t → Opens L p K s n d t
    open_given some s t d xs n (Ok u) known R ds dr dh df G =
        let R' : ReadingOf L p d.core [] G.done = subst (λ (h : Code). ReadingOf L p d.core [] h) G.ended R in
        let l = live_of L p d.core [] G.done R' in (
          record { read = []; handed = G.done; fault = None; sink = t },
          (
            record { reads = refl; takes = G.takes; stood = G.stood; counted = G.counted; ended = (known, R'.shared) },
            (
              record {
                count = dr;
                total = dh ∙ G.counted;
                fault_is = df;
                known = λ _. known;
                going = λ _. ds;
                reading = λ _. R';
                stands = stands_open L p t [] G.done R'.shared (hopeful p L some known [] l.0 l.1.0 l.1.1);
              },
              refl,
            ),
          ),
        )
    open_given some s t d xs n (Err f) known R ds dr dh df G =
        let Z = G.ended in (
          record { read = []; handed = G.done; fault = Some f; sink = t },
          (
            record {
              reads = refl;
              takes = G.takes;
              stood = G.stood;
              counted = G.counted;
              ended = inr (record { known = known; shared = xs; shares = R.shared; stopped = Z });
            },
            (
              record {
                count = dr;
                total = dh ∙ G.counted;
                fault_is = df;
                known = λ q. cc;
                going = λ q. cc;
                reading = λ q. cc;
                stands = stands_failed L p t [] G.done f xs R.shared (Z.item ∷ Z.rest, Z.cut);
              },
              refl,
            ),
          ),
        )

    -- a failed run
    pub finish_failed : (c : Inner) (s : Standing K.Position) (f : Fault) → c.fault ≡ Some f → Closes L p K c s (Err f) s
    finish_failed c s f cf a st es =
        let af = sym st.fault_is ∙ cf in
        record {
          failed = λ g q. (let z : f ≡ g = cc in ap (λ (x : Fault). Err x) z, sym es);
          opened = λ n. cc;
        }

    -- an input that is not accepted: the reader does not answer that it is
    not_so : (r : Result Bool Stop) (w : List S) (h xs : Code) → result_unwrap_or r false ≡ false → AnsweredAt L p r w h xs → Accepts L p w → ⊥
    not_so (Ok true) w h xs n A = absurd (both_ways true n refl)
    not_so (Ok false) w h xs n A = A.0
    not_so (Err f) w h xs n A = absurd A

    is_so : (r : Result Bool Stop) (w : List S) (h xs : Code) → result_unwrap_or r false ≡ true → AnsweredAt L p r w h xs → CodesAs L p w (h ++ xs)
    is_so (Ok true) w h xs n A = A
    is_so (Ok false) w h xs n A = absurd (both_ways false refl n)
    is_so (Err f) w h xs n A = absurd A

    pub finish_denied : (c : Inner) (s : Standing K.Position) (r : Result Bool Stop) (xs : Code) (f : Fault) → c.fault ≡ None → result_unwrap_or r false ≡ false
        → (c.stop ≡ None → Finishes L p c.core r xs) → f ≡ fault_at NotAccepted c.read → Closes L p K c s (Err f) s
    finish_denied c s r xs f cn not F fe a st es =
        let an = sym st.fault_is ∙ cn in
        record {
          failed = λ g q. cc;
          opened = λ _. inl (record {
            denied = not_so r a.read a.handed xs not (F (st.going an) a.read a.handed (st.reading an));
            fault = fe ∙ ap (fault_at NotAccepted) st.count;
            still = sym es;
          });
        }

    abbrev course : (c : Inner) (s t : Standing K.Position) (xs : Code) (n : ℕ) (r : Result (Unit {0}) Fault) (a : Stage S K.Position) → a.sink ≡ s
        → CodesAs L p a.read (a.handed ++ xs) → Gives K s xs c.read n r t → Finishing L p K a t
    course c s t xs n r a es g G =
        record {
          accepted = (g.0, g.1.0);
          code = a.handed ++ xs;
          greedy = g;
          items = G.done;
          takes = rw es G.takes;
          stood = rw es G.stood;
        }

    pub finish_all : (c : Inner) (s t : Standing K.Position) (r : Result Bool Stop) (xs : Code) (n : ℕ) (v : Unit {0}) (z : Finished) → c.fault ≡ None → result_unwrap_or r false ≡ true
        → (c.stop ≡ None → Finishes L p c.core r xs) → Gives K s xs c.read n (Ok v) t
        → z.items ≡ c.handed + n → z.symbols ≡ c.read → Closes L p K c s (Ok z) t
    finish_all c s t r xs n v z cn so F G zi zs a st es =
        let an = sym st.fault_is ∙ cn in
        let g = is_so r a.read a.handed xs so (F (st.going an) a.read a.handed (st.reading an)) in
        let k = st.total in
        let e = ap length G.ended in
        let q = length-append a.handed xs in
        record {
          failed = λ f y. cc;
          opened = λ _. record {
            course = course c s t xs n (Ok v) a es g G;
            whole = ap (λ (ys : Code). a.handed ++ ys) (sym G.ended);
            total = omega (arith, k, e, q, zi, G.counted);
            symbols = zs ∙ st.count;
          };
        }

    pub finish_stopped : (c : Inner) (s t : Standing K.Position) (r : Result Bool Stop) (xs : Code) (n : ℕ) (f : Fault) → c.fault ≡ None → result_unwrap_or r false ≡ true
        → (c.stop ≡ None → Finishes L p c.core r xs) → Gives K s xs c.read n (Err f) t
        → Closes L p K c s (Err f) t
    finish_stopped c s t r xs n f cn so F G a st es =
        let an = sym st.fault_is ∙ cn in
        let g = is_so r a.read a.handed xs so (F (st.going an) a.read a.handed (st.reading an)) in
        let Z = G.ended in
        record {
          failed = λ h z. cc;
          opened = λ _. inr (record {
            course = course c s t xs n (Err f) a es g G;
            stopped = record {
              item = Z.item;
              rest = Z.rest;
              cut = ap (λ (ys : Code). a.handed ++ ys) Z.cut ∙ sym (append_assoc a.handed G.done (Z.item ∷ Z.rest));
              refused = Z.refused;
              there = Z.there ∙ st.count;
            };
          });
        }

    pub closes_so : (c : Inner) (s t : Standing K.Position) (r q : Result Finished Fault) → r ≡ q → Closes L p K c s q t → Closes L p K c s r t
    closes_so c s t r q e h = subst (λ (z : Result Finished Fault). Closes L p K c s z t) (sym e) h
