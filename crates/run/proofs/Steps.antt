-- One symbol, by the ways that the step can end.
use Rattle.std.proofs.Common.{◌≡◌, ℕ, ◌+◌, ◌<◌, true, List, [], ◌∷◌, ◌++◌, length, Some, None, Ok, Err, Option, Result, sym, refl, ap, ◌∙◌, subst, inl, inr, append_assoc, append-nil, arith, length-append}
use Rattle.fault.specs.declared.refusal.Fault.{Fault}
use Rattle.fault.specs.declared.cause.Cause.TheVariants.{LengthLimit}
use Rattle.alphabet.specs.Meaning.{Meaning}
use Rattle.pattern.specs.declared.pattern.Pattern.{Pattern}
use Rattle.sink.specs.Meaning.{Meaning as SinkMeaning}
use Rattle.walk.specs.Codes.{Code}
use Rattle.reader.specs.declared.state.Core.{Core}
use Rattle.reader.specs.declared.stop.Stop.{Stop}
use Rattle.reader.specs.declared.stop.Stop.TheVariants.{Dead, TreeFull}
use Rattle.reader.specs.Reading.{StateOf as ReadingOf, Advances}
use Rattle.reader.specs.Causes.{cause_of}
use Rattle.run.specs.Limits.{length_limit}
use Rattle.run.specs.Words.{Hopeful}
use Rattle.run.specs.Sinks.{Standing}
use Rattle.std.specs.Result.{result_err}
use Rattle.run.specs.Giving.{Gives}
use Rattle.run.specs.Stages.{Stage, Due, Readable, FedOpen, fault_at, told}
use Rattle.run.specs.Inner.{Inner, StateOf, Leads, FeedsOpen}
use Rattle.run.proofs.Patterned.{hopeless, hopeful}
use Rattle.run.proofs.Standings.{live_of, live_big, stands_open, stands_failed}

-- what an alphabet's law says of its classes
abbrev pub Inhabited : {S : Type 0} → Meaning S → Type 0
Inhabited {S = S} L = (class : ℕ) → class < L.classes → (s : S) × (L.belongs class s ≡ true)

module _ {S : Type 0} (L : Meaning S) (p : Pattern) (K : SinkMeaning) where
  -- a symbol refused by the run itself
  symbol_refused : (c d : Inner) (s : Standing K.Position) (x : S) (f : Fault)
      → d.read ≡ c.read → d.handed ≡ c.handed → d.fault ≡ Some f
      → (a : Stage S K.Position) → StateOf L p c a → a.sink ≡ s → a.fault ≡ None
      → Due L p f.cause a.read x → f.place ≡ length a.read
      → Leads L p K d s (λ b. FedOpen L p K (x ∷ []) a b)
  symbol_refused c d s x f dr dh df a st e n due there =
      let sh = st.stands.exact n in (
        record { read = a.read; handed = a.handed; fault = Some f; sink = a.sink },
        (
          record {
            part = [];
            left = x ∷ [];
            parts = refl;
            reads = sym (append-nil a.read);
            each = tt;
            items = [];
            hands = sym (append-nil a.handed);
            takes = refl;
            stood = refl;
            ended = inl (record { symbol = x; rest = []; first = refl; settled = sh; due = due; there = there });
          },
          (
            record {
              count = dr ∙ st.count;
              total = dh ∙ st.total;
              fault_is = df;
              known = λ q. cc;
              going = λ q. cc;
              reading = λ q. cc;
              stands = stands_failed L p a.sink a.read a.handed f a.handed sh ([], sym (append-nil a.handed));
            },
            e,
          ),
        ),
      )

  -- the length limit
  pub at_limit : (c d : Inner) (s : Standing K.Position) (x : S)
      → d.read ≡ c.read → d.handed ≡ c.handed → d.fault ≡ Some (fault_at LengthLimit c.read) → c.read ≡ length_limit
      → FeedsOpen L p K (x ∷ []) c s d s
  at_limit c d s x dr dh df full a st e n =
      symbol_refused c d s x (fault_at LengthLimit c.read) dr dh df a st e n (sym st.count ∙ full) st.count

  module _ (some : Inhabited L) where
    -- a symbol that the reader refuses
    pub stopped_by : (c d : Inner) (s : Standing K.Position) (x : S) (r : Stop) (core : Core) (xs : Code)
        → d.read ≡ c.read → d.handed ≡ c.handed → d.fault ≡ Some (fault_at (cause_of r) c.read) → c.read < length_limit
        → (c.stop ≡ None → Advances L p x c.core (Err r) core xs)
        → FeedsOpen L p K (x ∷ []) c s d s
    stopped_by c d s x Dead core xs dr dh df few A a st e n =
        let k = st.count in
        let D = A (st.going n) a.read a.handed (st.reading n) in
        symbol_refused c d s x (fault_at (cause_of Dead) c.read) dr dh df a st e n (omega (arith, k, few), hopeless p L (a.read ++ (x ∷ [])) D.0) st.count
    stopped_by c d s x TreeFull core xs dr dh df few A a st e n =
        let k = st.count in
        let B = (A (st.going n) a.read a.handed (st.reading n)).0 in
        let l = live_big L p (a.read ++ (x ∷ [])) B in
        symbol_refused c d s x (fault_at (cause_of TreeFull) c.read) dr dh df a st e n
        (omega (arith, k, few), hopeful p L some (st.known n) (a.read ++ (x ∷ [])) l.0 l.1.0 l.1.1, (B.size, (B.common, B.shared, B.counts), B.over))
        st.count

    -- the symbol is readable
    readable : (s : Core) (w : List S) (h : Code) (x : S) → Inhabited L → length w < length_limit → Hopeful L p (w ++ (x ∷ [])) → ReadingOf L p s (w ++ (x ∷ [])) h → Readable L p w x
    readable s w h x some few hope R =
        record { short = few; alive = hope; count = R.size; counts = (h, R.shared, R.counts); within = R.within }

    -- a symbol read, whose items are handed over
    read_on : (c d : Inner) (s t : Standing K.Position) (x : S) (xs : Code) (m : ℕ) (r : Result (Unit {0}) Fault)
        → d.stop ≡ None → d.read ≡ c.read + 1 → d.handed ≡ c.handed + m → d.fault ≡ result_err r
        → Gives K s xs c.read m r t
        → (a : Stage S K.Position) → StateOf L p c a → a.sink ≡ s → a.fault ≡ None
        → length a.read < length_limit → Hopeful L p (a.read ++ (x ∷ [])) → ReadingOf L p d.core (a.read ++ (x ∷ [])) (a.handed ++ xs)
        → Leads L p K d t (λ b. FedOpen L p K (x ∷ []) a b)
    read_on c d s t x xs m (Ok u) ds dr dh df G a st e n few hope R =
        let w = a.read ++ (x ∷ []) in
        let xe = ap (λ (ys : Code). a.handed ++ ys) G.ended in
        let R' : ReadingOf L p d.core w (a.handed ++ G.done) = subst (λ (h : Code). ReadingOf L p d.core w h) xe R in
        let k = st.count in
        let j = st.total in
        let q = length-append a.read (x ∷ []) in
        let v = length-append a.handed G.done in (
          record { read = w; handed = a.handed ++ G.done; fault = None; sink = t },
          (
            record {
              part = x ∷ [];
              left = [];
              parts = refl;
              reads = refl;
              each = (readable d.core a.read (a.handed ++ xs) x some few hope R, tt);
              items = G.done;
              hands = refl;
              takes = rw e G.takes;
              stood = rw e G.stood;
              ended = refl;
            },
            (
              record {
                count = omega (arith, k, q, dr);
                total = omega (arith, j, v, dh, G.counted);
                fault_is = df;
                known = λ _. st.known n;
                going = λ _. ds;
                reading = λ _. R';
                stands = stands_open L p t w (a.handed ++ G.done) R'.shared hope;
              },
              refl,
            ),
          ),
        )
    read_on c d s t x xs m (Err f) ds dr dh df G a st e n few hope R =
        let w = a.read ++ (x ∷ []) in
        let Z = G.ended in
        let cut : a.handed ++ xs ≡ (a.handed ++ G.done) ++ (Z.item ∷ Z.rest) = ap (λ (ys : Code). a.handed ++ ys) Z.cut ∙ sym (append_assoc a.handed G.done (Z.item ∷ Z.rest)) in
        let k = st.count in
        let j = st.total in
        let q = length-append a.read (x ∷ []) in
        let v = length-append a.handed G.done in (
          record { read = w; handed = a.handed ++ G.done; fault = Some f; sink = t },
          (
            record {
              part = x ∷ [];
              left = [];
              parts = refl;
              reads = refl;
              each = (readable d.core a.read (a.handed ++ xs) x some few hope R, tt);
              items = G.done;
              hands = refl;
              takes = rw e G.takes;
              stood = rw e G.stood;
              ended = inr (record {
                before = a.read;
                last = x;
                reads = refl;
                settled = a.handed;
                settles = st.stands.exact n;
                beyond = (G.done, refl);
                shared = a.handed ++ xs;
                shares = R.shared;
                stopped = record { item = Z.item; rest = Z.rest; cut = cut; refused = Z.refused; there = Z.there ∙ k };
              });
            },
            (
              record {
                count = omega (arith, k, q, dr);
                total = omega (arith, j, v, dh, G.counted);
                fault_is = df;
                known = λ y. cc;
                going = λ y. cc;
                reading = λ y. cc;
                stands = stands_failed L p t w (a.handed ++ G.done) f (a.handed ++ xs) R.shared (Z.item ∷ Z.rest, cut);
              },
              refl,
            ),
          ),
        )

    pub symbol_read : (c d : Inner) (s t : Standing K.Position) (x : S) (xs : Code) (m : ℕ) (r : Result (Unit {0}) Fault) (v : Unit {0})
        → (c.stop ≡ None → Advances L p x c.core (Ok v) d.core xs)
        → d.stop ≡ None → d.read ≡ c.read + 1 → d.handed ≡ c.handed + m → d.fault ≡ result_err r → c.read < length_limit
        → Gives K s xs c.read m r t
        → FeedsOpen L p K (x ∷ []) c s d t
    symbol_read c d s t x xs m r v A ds dr dh df few G a st e n =
        let W = A (st.going n) a.read a.handed (st.reading n) in
        let R = W.state in
        let k = st.count in
        let l = live_of L p d.core (a.read ++ (x ∷ [])) (a.handed ++ xs) R in
        read_on c d s t x xs m r ds dr dh df G a st e n (omega (arith, k, few)) (hopeful p L some (st.known n) (a.read ++ (x ∷ [])) l.0 l.1.0 l.1.1) R

-- what a run that remembers a fault answers
pub told_err : {V : Type 0} (o : Option Fault) (r f : Fault) (v : V) → r ≡ f → o ≡ Some f → ◌≡◌ {A = Result V Fault} (Err r) (told o v)
told_err o r f v p q = rw (p, q)

pub told_fault : (o : Option Fault) (r : Result (Unit {0}) Fault) → o ≡ result_err r → r ≡ told o tt
told_fault o (Ok u) e = rw e
told_fault o (Err f) e = rw e
