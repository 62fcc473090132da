-- When each answer is given.
use Rattle.std.proofs.Common.{◌≡◌, ℕ, ◌+◌, Bool, true, false, cond, ◌&&◌, ◌||◌, eqb, leb, List, [], ◌∷◌, length, Ok, Err, Result, sym, refl, ap, ◌∙◌, subst, ap₂, inl, inr, arith}
use Rattle.std.proofs.lemmas.Bool.{leb-true, leb-false, le-leb, lt-leb, and_parts, eqb-true, eq-eqb, cases_Bool}
use Rattle.fault.specs.declared.refusal.Fault.{Fault}
use Rattle.fault.specs.declared.cause.Cause.TheVariants.{NotExpected, ChannelFull, NoChannel, ShortBuffer}
use Rattle.sink.specs.Meaning.{Meaning, Stocks, every, among, room, fits, take_answer, sink_fault}
use Rattle.sink.specs.Laws.{Fits, Passes, OwnFault, ExactAnswers}
use Rattle.sink.proofs.PairLaws.{by_tests}

every_at : (f : ℕ → Bool) (cs : List ℕ) → every f cs ≡ true → (c : ℕ) → among c cs ≡ true → f c ≡ true
every_at f [] h c k = absurd (let z : ◌≡◌ {A = ℕ} 0 1 = cc in omega arith)
every_at f (d ∷ ds) h c k =
    let p = and_parts (f d) (every f ds) h in
    elim (cases_Bool (eqb c d)) [
      | inl e ↦ ap f (eqb-true c d e) ∙ p.0
      | inr e ↦ every_at f ds p.1 c (sym (ap (λ (b : Bool). b || among c ds) e) ∙ k)
    ]

some_at : (f : ℕ → Bool) (cs : List ℕ) → every f cs ≡ false → (c : ℕ) × (among c cs ≡ true) × (f c ≡ false)
some_at f [] h = absurd (let z : ◌≡◌ {A = ℕ} 0 1 = cc in omega arith)
some_at f (d ∷ ds) h =
    elim (cases_Bool (f d)) [
      | inl e ↦
          let r = some_at f ds (sym (ap (λ (b : Bool). b && every f ds) e) ∙ h) in
          (r.0, later (eqb r.0 d) (among r.0 ds) r.1, r.2)
      | inr e ↦ (d, ap (λ (b : Bool). b || among d ds) (eq-eqb d d refl), e)
    ]
  where
    later : (a b : Bool) → b ≡ true → a || b ≡ true
    later true b e = refl
    later false b e = e

every_from : (f : ℕ → Bool) (cs : List ℕ) → ((c : ℕ) → among c cs ≡ true → f c ≡ true) → every f cs ≡ true
every_from f cs h =
    elim (cases_Bool (every f cs)) [
      | inl e ↦ e
      | inr e ↦
          let r = some_at f cs e in
          absurd (let z : false ≡ true = sym r.2 ∙ h r.0 r.1 in let w : ◌≡◌ {A = ℕ} 0 1 = cc in omega arith)
    ]

apart : ◌≡◌ {A = Result (Unit {0}) Fault} (Err (sink_fault NotExpected)) (Err (sink_fault ChannelFull)) → ⊥
apart h =
    let w : sink_fault NotExpected ≡ sink_fault ChannelFull = cc in
    let v : NotExpected ≡ ChannelFull = ap (λ (f : Fault). f.cause) w in
    let z : ◌≡◌ {A = ℕ} 0 1 = cc in
    omega arith

tests_unexpected : (e f : Bool) → by_tests e f ≡ Err (sink_fault NotExpected) → e ≡ false
tests_unexpected true true h = absurd (let z : ◌≡◌ {A = ℕ} 0 1 = cc in omega arith)
tests_unexpected true false h = absurd (apart (sym h))
tests_unexpected false f h = refl

tests_full : (e f : Bool) → by_tests e f ≡ Err (sink_fault ChannelFull) → (e ≡ true) × (f ≡ false)
tests_full true true h = absurd (let z : ◌≡◌ {A = ℕ} 0 1 = cc in omega arith)
tests_full true false h = (refl, refl)
tests_full false f h = absurd (apart h)

tests_taken : (e f : Bool) → by_tests e f ≡ Ok tt → (e ≡ true) × (f ≡ true)
tests_taken true true h = (refl, refl)
tests_taken true false h = absurd (let z : ◌≡◌ {A = ℕ} 0 1 = cc in omega arith)
tests_taken false f h = absurd (let z : ◌≡◌ {A = ℕ} 0 1 = cc in omega arith)

-- a fault that is equal to one of these is the sink's own
own : (f g : Fault) → OwnFault g → g ≡ f → OwnFault f
own f g h e = subst OwnFault e h

tests_own : (e f : Bool) (y : Fault) → by_tests e f ≡ Err y → OwnFault y
tests_own true true y h = absurd (let z : ◌≡◌ {A = ℕ} 0 1 = cc in omega arith)
tests_own true false y h = own y (sink_fault ChannelFull) (refl, refl) (cc)
tests_own false f y h = own y (sink_fault NotExpected) (refl, refl) (cc)

-- the answer of a pour, by whether there is such a channel and whether the buffer is long enough
abbrev pour_tests : Bool → Bool → ℕ → Result ℕ Fault
pour_tests b d k = cond b (cond d (Ok k) (Err (sink_fault ShortBuffer))) (Err (sink_fault NoChannel))

short_apart : ◌≡◌ {A = Result ℕ Fault} (Err (sink_fault ShortBuffer)) (Err (sink_fault NoChannel)) → ⊥
short_apart h =
    let w : sink_fault ShortBuffer ≡ sink_fault NoChannel = cc in
    let v : ShortBuffer ≡ NoChannel = ap (λ (f : Fault). f.cause) w in
    let z : ◌≡◌ {A = ℕ} 0 1 = cc in
    omega arith

pour_none : (b d : Bool) (k : ℕ) → pour_tests b d k ≡ Err (sink_fault NoChannel) → b ≡ false
pour_none true true k h = absurd (let z : ◌≡◌ {A = ℕ} 0 1 = cc in omega arith)
pour_none true false k h = absurd (short_apart h)
pour_none false d k h = refl

pour_short : (b d : Bool) (k : ℕ) → pour_tests b d k ≡ Err (sink_fault ShortBuffer) → (b ≡ true) × (d ≡ false)
pour_short true true k h = absurd (let z : ◌≡◌ {A = ℕ} 0 1 = cc in omega arith)
pour_short true false k h = (refl, refl)
pour_short false d k h = absurd (short_apart (sym h))

pour_ok : (b d : Bool) (k n : ℕ) → pour_tests b d k ≡ Ok n → (b ≡ true) × (d ≡ true) × (k ≡ n)
pour_ok true true k n h = (refl, refl, cc)
pour_ok true false k n h = absurd (let z : ◌≡◌ {A = ℕ} 0 1 = cc in omega arith)
pour_ok false d k n h = absurd (let z : ◌≡◌ {A = ℕ} 0 1 = cc in omega arith)

pour_own : (b d : Bool) (k : ℕ) (y : Fault) → pour_tests b d k ≡ Err y → OwnFault y
pour_own true true k y h = absurd (let z : ◌≡◌ {A = ℕ} 0 1 = cc in omega arith)
pour_own true false k y h = own y (sink_fault ShortBuffer) (refl, refl) (cc)
pour_own false d k y h = own y (sink_fault NoChannel) (refl, refl) (cc)

module _ (m : Meaning) where
  module _ (p : m.Position) (s : Stocks) (i : ℕ) where
    fits_all : fits m p s i ≡ true → Fits m p s i
    fits_all h c k = leb-true (length (s c) + length (m.added p i c)) (m.limit c) (every_at (room m p s i) m.channels h c k)

    all_fits : Fits m p s i → fits m p s i ≡ true
    all_fits h = every_from (room m p s i) m.channels (λ c k. le-leb (length (s c) + length (m.added p i c)) (m.limit c) (h c k))

    some_passes : fits m p s i ≡ false → Passes m p s i
    some_passes h =
        let r = some_at (room m p s i) m.channels h in
        (r.0, r.1, leb-false (length (s r.0) + length (m.added p i r.0)) (m.limit r.0) r.2)

    passes_some : Passes m p s i → fits m p s i ≡ false
    passes_some (c, k, l) =
        elim (cases_Bool (fits m p s i)) [
          | inl e ↦ absurd (omega (arith, fits_all e c k))
          | inr e ↦ e
        ]

    taken_full : m.expected p i ≡ true → (b : Bool) → fits m p s i ≡ b → take_answer m p s i ≡ by_tests true b
    taken_full e b h = ap₂ by_tests e h

  pub exact : ExactAnswers m
  exact = record {
    not_expected = λ p s i. (
      tests_unexpected (m.expected p i) (fits m p s i),
      λ e. ap (λ (b : Bool). by_tests b (fits m p s i)) e,
    );
    full = λ p s i. (
      λ h. let r = tests_full (m.expected p i) (fits m p s i) h in (r.0, some_passes p s i r.1),
      λ r. taken_full p s i r.0 false (passes_some p s i r.1),
    );
    taken = λ p s i. (
      λ h. let r = tests_taken (m.expected p i) (fits m p s i) h in (r.0, fits_all p s i r.1),
      λ r. taken_full p s i r.0 true (all_fits p s i r.1),
    );
    take_fault = λ p s i f h. tests_own (m.expected p i) (fits m p s i) f h;
    no_channel = λ s c n. (
      pour_none (among c m.channels) (leb (length (s c)) n) (length (s c)),
      λ e. ap (λ (b : Bool). pour_tests b (leb (length (s c)) n) (length (s c))) e,
    );
    short = λ s c n. (
      λ h. let r = pour_short (among c m.channels) (leb (length (s c)) n) (length (s c)) h in (r.0, leb-false (length (s c)) n r.1),
      λ r. ap₂ (λ (b d : Bool). pour_tests b d (length (s c))) r.0 (lt-leb (length (s c)) n r.1),
    );
    poured = λ s c n k. (
      λ h. let r = pour_ok (among c m.channels) (leb (length (s c)) n) (length (s c)) k h in (r.0, leb-true (length (s c)) n r.1, r.2),
      λ r. ap₂ (λ (b d : Bool). pour_tests b d (length (s c))) r.0 (le-leb (length (s c)) n r.1) ∙ ap Ok r.2,
    );
    pour_fault = λ s c n f h. pour_own (among c m.channels) (leb (length (s c)) n) (length (s c)) f h;
  }
