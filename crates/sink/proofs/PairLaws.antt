-- How the answers of two sinks make that of their pair.
use Rattle.std.proofs.Common.{◌≡◌, ℕ, ◌+◌, ◌*◌, ◌/◌, ◌%◌, Bool, true, false, cond, ◌&&◌, ◌||◌, eqb, leb, List, [], ◌∷◌, ◌++◌, map, length, is_ok, Ok, Err, Result, sym, refl, ap, ◌∙◌, ap₂, inl, inr, arith}
use mathlib.Core.Path.{fun_ext}
use Rattle.std.proofs.lemmas.Bool.{eq-eqb, ne_eqb, cases_eq}
use Rattle.std.proofs.lemmas.Bool.Decides.{nat_tests}
use Rattle.fault.specs.declared.refusal.Fault.{Fault}
use Rattle.fault.specs.declared.cause.Cause.TheVariants.{NotExpected, ChannelFull, NoChannel, ShortBuffer}
use Rattle.sink.specs.Meaning.{Meaning, Stocks, every, among, room, fits, take_answer, pour_answer, emptied, fronted, grown, sink_fault}
use Rattle.sink.specs.PairMeaning.{first_channel, second_channel, by_parity, pair_meaning, pair_stocks}

-- what an even channel has is the first's, what an odd one has the second's
pub at_first : {X : Type 0} (f g : ℕ → X) (c : ℕ) → by_parity f g (first_channel c) ≡ f c
at_first f g c =
    let z : eqb ((2 * c) % 2) 0 ≡ true = eq-eqb ((2 * c) % 2) 0 (omega arith) in
    let h : (2 * c) / 2 ≡ c = omega arith in
    rw (z, h)

pub at_second : {X : Type 0} (f g : ℕ → X) (c : ℕ) → by_parity f g (second_channel c) ≡ g c
at_second f g c =
    let z : eqb ((2 * c + 1) % 2) 0 ≡ false = ne_eqb ((2 * c + 1) % 2) 0 (λ e. omega arith) in
    let h : (2 * c + 1) / 2 ≡ c = omega arith in
    rw (z, h)

-- tests of each channel
and_nested : (a b c : Bool) → (a && b) && c ≡ a && (b && c)
and_nested true b c = refl
and_nested false b c = refl

every_append : (f : ℕ → Bool) (xs ys : List ℕ) → every f (xs ++ ys) ≡ every f xs && every f ys
every_append f [] ys = refl
every_append f (x ∷ xs) ys = ap (λ (b : Bool). f x && b) (every_append f xs ys) ∙ sym (and_nested (f x) (every f xs) (every f ys))

every_map : (f g : ℕ → Bool) (h : ℕ → ℕ) → ((c : ℕ) → f (h c) ≡ g c) → (xs : List ℕ) → every f (map h xs) ≡ every g xs
every_map f g h e [] = refl
every_map f g h e (x ∷ xs) = ap₂ (λ (a b : Bool). a && b) (e x) (every_map f g h e xs)

-- a channel among the pair's
or_nested : (a b c : Bool) → (a || b) || c ≡ a || (b || c)
or_nested true b c = refl
or_nested false b c = refl

among_append : (c : ℕ) (xs ys : List ℕ) → among c (xs ++ ys) ≡ among c xs || among c ys
among_append c [] ys = refl
among_append c (x ∷ xs) ys = ap (λ (b : Bool). eqb c x || b) (among_append c xs ys) ∙ sym (or_nested (eqb c x) (among c xs) (among c ys))

or_false : (a : Bool) → a || false ≡ a
or_false true = refl
or_false false = refl

module _ (c : ℕ) (e : c % 2 ≡ 0) where
  even_same : (x : ℕ) → eqb c (first_channel x) ≡ eqb (c / 2) x
  even_same x = grind (arith, nat_tests)

  even_other : (x : ℕ) → eqb c (second_channel x) ≡ false
  even_other x = ne_eqb c (2 * x + 1) (λ z. omega arith)

  even_first : (xs : List ℕ) → among c (map first_channel xs) ≡ among (c / 2) xs
  even_first [] = refl
  even_first (x ∷ xs) = ap₂ (λ (a b : Bool). a || b) (even_same x) (even_first xs)

  even_second : (ys : List ℕ) → among c (map second_channel ys) ≡ false
  even_second [] = refl
  even_second (y ∷ ys) = ap₂ (λ (a b : Bool). a || b) (even_other y) (even_second ys)

  pub even_among : (xs ys : List ℕ) → among c (map first_channel xs ++ map second_channel ys) ≡ among (c / 2) xs
  even_among xs ys =
      among_append c (map first_channel xs) (map second_channel ys)
      ∙ ap₂ (λ (a b : Bool). a || b) (even_first xs) (even_second ys)
      ∙ or_false (among (c / 2) xs)

module _ (c : ℕ) (e : c % 2 ≡ 1) where
  odd_same : (x : ℕ) → eqb c (second_channel x) ≡ eqb (c / 2) x
  odd_same x = grind (arith, nat_tests)

  odd_other : (x : ℕ) → eqb c (first_channel x) ≡ false
  odd_other x = ne_eqb c (2 * x) (λ z. omega arith)

  odd_first : (xs : List ℕ) → among c (map first_channel xs) ≡ false
  odd_first [] = refl
  odd_first (x ∷ xs) = ap₂ (λ (a b : Bool). a || b) (odd_other x) (odd_first xs)

  odd_second : (ys : List ℕ) → among c (map second_channel ys) ≡ among (c / 2) ys
  odd_second [] = refl
  odd_second (y ∷ ys) = ap₂ (λ (a b : Bool). a || b) (odd_same y) (odd_second ys)

  pub odd_among : (xs ys : List ℕ) → among c (map first_channel xs ++ map second_channel ys) ≡ among (c / 2) ys
  odd_among xs ys =
      among_append c (map first_channel xs) (map second_channel ys)
      ∙ ap₂ (λ (a b : Bool). a || b) (odd_first xs) (odd_second ys)

-- an answer by its two tests: whether the item is expected, and whether it fits
abbrev pub by_tests : Bool → Bool → Result (Unit {0}) Fault
by_tests e f = cond e (cond f (Ok tt) (Err (sink_fault ChannelFull))) (Err (sink_fault NotExpected))

tests_first_ok : (e f e' f' : Bool) (x : Unit {0}) → by_tests e f ≡ Ok x → by_tests (e && e') (f && f') ≡ by_tests e' f'
tests_first_ok true true e' f' x h = refl
tests_first_ok true false e' f' x h = absurd (let z : ◌≡◌ {A = ℕ} 0 1 = cc in omega arith)
tests_first_ok false f e' f' x h = absurd (let z : ◌≡◌ {A = ℕ} 0 1 = cc in omega arith)

tests_second_ok : (e f e' f' : Bool) (x : Unit {0}) → by_tests e' f' ≡ Ok x → by_tests (e && e') (f && f') ≡ by_tests e f
tests_second_ok true true true true x h = refl
tests_second_ok true false true true x h = refl
tests_second_ok false f true true x h = refl
tests_second_ok e f true false x h = absurd (let z : ◌≡◌ {A = ℕ} 0 1 = cc in omega arith)
tests_second_ok e f false f' x h = absurd (let z : ◌≡◌ {A = ℕ} 0 1 = cc in omega arith)

tests_full : (e f e' f' : Bool) (y z : Fault) → Err y ≡ by_tests e f → (y.cause ≡ NotExpected → ⊥) → Err z ≡ by_tests e' f'
    → by_tests (e && e') (f && f') ≡ by_tests e' f'
tests_full true true e' f' y z h k i = refl
tests_full true false true true y z h k i = absurd (let w : ◌≡◌ {A = ℕ} 0 1 = cc in omega arith)
tests_full true false true false y z h k i = refl
tests_full true false false f' y z h k i = refl
tests_full false f e' f' y z h k i = absurd (k (let w : y ≡ sink_fault NotExpected = cc in ap (λ (x : Fault). x.cause) w))

tests_ok_first : (e f e' f' : Bool) (x : Unit {0}) → Ok x ≡ by_tests (e && e') (f && f') → by_tests e f ≡ Ok tt
tests_ok_first true true e' f' x h = refl
tests_ok_first true false true f' x h = absurd (let z : ◌≡◌ {A = ℕ} 0 1 = cc in omega arith)
tests_ok_first true false false f' x h = absurd (let z : ◌≡◌ {A = ℕ} 0 1 = cc in omega arith)
tests_ok_first false f e' f' x h = absurd (let z : ◌≡◌ {A = ℕ} 0 1 = cc in omega arith)

tests_ok_second : (e' f' e f : Bool) (x : Unit {0}) → Ok x ≡ by_tests (e && e') (f && f') → by_tests e' f' ≡ Ok tt
tests_ok_second true true e f x h = refl
tests_ok_second true false true true x h = absurd (let z : ◌≡◌ {A = ℕ} 0 1 = cc in omega arith)
tests_ok_second true false true false x h = absurd (let z : ◌≡◌ {A = ℕ} 0 1 = cc in omega arith)
tests_ok_second true false false f x h = absurd (let z : ◌≡◌ {A = ℕ} 0 1 = cc in omega arith)
tests_ok_second false f' true f x h = absurd (let z : ◌≡◌ {A = ℕ} 0 1 = cc in omega arith)
tests_ok_second false f' false f x h = absurd (let z : ◌≡◌ {A = ℕ} 0 1 = cc in omega arith)

-- appending goes by parity
pub pair_grown : (s t u v : Stocks) → (λ c. by_parity s t c ++ by_parity u v c) ≡ by_parity (λ c. s c ++ u c) (λ c. t c ++ v c)
pair_grown s t u v =
    fun_ext
    (λ c.
    elim (eqb (c % 2) 0)
    as (λ b.
    cond b (s (c / 2)) (t (c / 2)) ++ cond b (u (c / 2)) (v (c / 2))
    ≡ cond b (s (c / 2) ++ u (c / 2)) (t (c / 2) ++ v (c / 2)))
    [ true ↦ refl | false ↦ refl ])

module _ (m n : Meaning) (p : m.Position) (q : n.Position) (s t : Stocks) (i : ℕ) where
  first_room : (c : ℕ) → room (pair_meaning m n) (p, q) (pair_stocks s t) i (first_channel c) ≡ room m p s i c
  first_room c =
      ap₂ (λ (a b : ℕ). leb a b)
      (ap₂ (λ (a b : List ℕ). length a + length b) (at_first s t c) (at_first (m.added p i) (n.added q i) c))
      (at_first m.limit n.limit c)

  second_room : (c : ℕ) → room (pair_meaning m n) (p, q) (pair_stocks s t) i (second_channel c) ≡ room n q t i c
  second_room c =
      ap₂ (λ (a b : ℕ). leb a b)
      (ap₂ (λ (a b : List ℕ). length a + length b) (at_second s t c) (at_second (m.added p i) (n.added q i) c))
      (at_second m.limit n.limit c)

  -- an item fits a pair if it fits both
  pub pair_fits : fits (pair_meaning m n) (p, q) (pair_stocks s t) i ≡ fits m p s i && fits n q t i
  pair_fits =
      let f = room (pair_meaning m n) (p, q) (pair_stocks s t) i in
      every_append f (map first_channel m.channels) (map second_channel n.channels)
      ∙ ap₂ (λ (a b : Bool). a && b)
      (every_map f (room m p s i) first_channel first_room m.channels)
      (every_map f (room n q t i) second_channel second_room n.channels)

  abbrev pair_answer : Result (Unit {0}) Fault
  pair_answer = take_answer (pair_meaning m n) (p, q) (pair_stocks s t) i

  pub pair_by_tests : pair_answer ≡ by_tests (m.expected p i && n.expected q i) (fits m p s i && fits n q t i)
  pair_by_tests = ap (by_tests (m.expected p i && n.expected q i)) pair_fits

  -- where the first would take the item, the second's answer is the pair's
  pub first_takes : (x : Unit {0}) (r r' : Result (Unit {0}) Fault) → r ≡ take_answer m p s i → r ≡ Ok x → r' ≡ take_answer n q t i → r' ≡ pair_answer
  first_takes x r r' a b d =
      d ∙ sym (pair_by_tests ∙ tests_first_ok (m.expected p i) (fits m p s i) (n.expected q i) (fits n q t i) x (sym a ∙ b))

  -- where the second would take it, the first's answer is the pair's
  pub second_takes : (x : Unit {0}) (y : Fault) → Err y ≡ take_answer m p s i → Ok x ≡ take_answer n q t i → Err y ≡ pair_answer
  second_takes x y a b =
      a ∙ sym (pair_by_tests ∙ tests_second_ok (m.expected p i) (fits m p s i) (n.expected q i) (fits n q t i) x (sym b))

  -- where the first is full and the second refuses it, the second's answer is the pair's
  pub first_full : (y z : Fault) → Err y ≡ take_answer m p s i → (y.cause ≡ NotExpected → ⊥) → Err z ≡ take_answer n q t i → Err z ≡ pair_answer
  first_full y z a k b =
      b ∙ sym (pair_by_tests ∙ tests_full (m.expected p i) (fits m p s i) (n.expected q i) (fits n q t i) y z a k b)

  -- what the pair would take, each takes
  pub takes_first : (x : Unit {0}) → Ok x ≡ pair_answer → take_answer m p s i ≡ Ok tt
  takes_first x a = tests_ok_first (m.expected p i) (fits m p s i) (n.expected q i) (fits n q t i) x (a ∙ pair_by_tests)

  pub first_not_refused : (x : Unit {0}) (f : Fault) → Ok x ≡ pair_answer → Err f ≡ take_answer m p s i → ⊥
  first_not_refused x f a b =
      let e : Err f ≡ Ok tt = b ∙ takes_first x a in
      let z : ◌≡◌ {A = ℕ} 0 1 = cc in
      omega arith

  pub takes_second : (x : Unit {0}) → Ok x ≡ pair_answer → take_answer n q t i ≡ Ok tt
  takes_second x a = tests_ok_second (n.expected q i) (fits n q t i) (m.expected p i) (fits m p s i) x (a ∙ pair_by_tests)

  -- the stocks and the positions after both have taken the item
  pub pair_stocked : (r : Result (Unit {0}) Fault) → r ≡ Ok tt → {s' t' : Stocks} → s' ≡ grown m p s i
      → t' ≡ cond (is_ok r) (grown n q t i) t
      → pair_stocks s' t' ≡ cond (is_ok r) (grown (pair_meaning m n) (p, q) (pair_stocks s t) i) (pair_stocks s t)
  pair_stocked (Ok x) e u v = ap₂ (λ (a b : Stocks). pair_stocks a b) u v ∙ sym (pair_grown s t (m.added p i) (n.added q i))
  pair_stocked (Err f) e u v = absurd (let z : ◌≡◌ {A = ℕ} 0 1 = cc in omega arith)

  pub pair_moved : (r : Result (Unit {0}) Fault) → r ≡ Ok tt → {p' : m.Position} {q' : n.Position} → p' ≡ m.next p i
      → q' ≡ cond (is_ok r) (n.next q i) q
      → ◌≡◌ {A = m.Position × n.Position} (p', q') (cond (is_ok r) (m.next p i, n.next q i) (p, q))
  pair_moved (Ok x) e u v = ap₂ (λ x y. (x, y)) u v
  pair_moved (Err f) e u v = absurd (let z : ◌≡◌ {A = ℕ} 0 1 = cc in omega arith)

-- a pour of one channel, by whether there is such a channel and by what it holds
abbrev pub poured : Bool → List ℕ → ℕ → Result ℕ Fault
poured b xs k = cond b (cond (leb (length xs) k) (Ok (length xs)) (Err (sink_fault ShortBuffer))) (Err (sink_fault NoChannel))

-- a pour of an even channel is a pour of the first
module _ (c : ℕ) (e : c % 2 ≡ 0) where
  pub even_here : {X : Type 0} (f g : ℕ → X) → by_parity f g c ≡ f (c / 2)
  even_here f g = let z : eqb (c % 2) 0 ≡ true = eq-eqb (c % 2) 0 e in rw z

  pub even_answer : (m n : Meaning) (s t : Stocks) (k : ℕ) → pour_answer m s (c / 2) k ≡ pour_answer (pair_meaning m n) (pair_stocks s t) c k
  even_answer m n s t k =
      sym (ap₂ (λ (b : Bool) (xs : List ℕ). poured b xs k) (even_among c e m.channels n.channels) (even_here s t))

  even_at_even : (s : Stocks) (d : ℕ) → d % 2 ≡ 0 → cond (eqb (d / 2) (c / 2)) [] (s (d / 2)) ≡ cond (eqb d c) [] (s (d / 2))
  even_at_even s d f = let w : eqb (d / 2) (c / 2) ≡ eqb d c = grind (arith, nat_tests) in rw w

  even_emptied_at : (s t : Stocks) (d : ℕ) → by_parity (emptied s (c / 2)) t d ≡ emptied (pair_stocks s t) c d
  even_emptied_at s t d =
      elim (cases_eq (d % 2) 0) [
        | inl f ↦ let z : eqb (d % 2) 0 ≡ true = eq-eqb (d % 2) 0 f in rw z (even_at_even s d f)
        | inr ne ↦
            let z : eqb (d % 2) 0 ≡ false = ne_eqb (d % 2) 0 ne in
            let w : eqb d c ≡ false = ne_eqb d c (λ h. ne (ap (λ (x : ℕ). x % 2) h ∙ e)) in
            rw (z, w)
      ]

  pub even_stocked : (b : Bool) (s t s' : Stocks) → s' ≡ cond b (emptied s (c / 2)) s
      → pair_stocks s' t ≡ cond b (emptied (pair_stocks s t) c) (pair_stocks s t)
  even_stocked true s t s' h = ap (λ (x : Stocks). pair_stocks x t) h ∙ fun_ext (even_emptied_at s t)
  even_stocked false s t s' h = ap (λ (x : Stocks). pair_stocks x t) h

  pub even_written : (b : Bool) (s t : Stocks) (old new : List ℕ) → new ≡ cond b (fronted (s (c / 2)) old) old
      → new ≡ cond b (fronted (pair_stocks s t c) old) old
  even_written b s t old new h = h ∙ ap (λ (xs : List ℕ). cond b (fronted xs old) old) (sym (even_here s t))

-- a pour of an odd channel is a pour of the second
module _ (c : ℕ) (e : c % 2 ≡ 1) where
  pub odd_here : {X : Type 0} (f g : ℕ → X) → by_parity f g c ≡ g (c / 2)
  odd_here f g = let z : eqb (c % 2) 0 ≡ false = ne_eqb (c % 2) 0 (λ h. omega arith) in rw z

  pub odd_answer : (m n : Meaning) (s t : Stocks) (k : ℕ) → pour_answer n t (c / 2) k ≡ pour_answer (pair_meaning m n) (pair_stocks s t) c k
  odd_answer m n s t k =
      sym (ap₂ (λ (b : Bool) (xs : List ℕ). poured b xs k) (odd_among c e m.channels n.channels) (odd_here s t))

  odd_at_odd : (t : Stocks) (d : ℕ) → (d % 2 ≡ 0 → ⊥) → cond (eqb (d / 2) (c / 2)) [] (t (d / 2)) ≡ cond (eqb d c) [] (t (d / 2))
  odd_at_odd t d ne = let w : eqb (d / 2) (c / 2) ≡ eqb d c = grind (arith, nat_tests) in rw w

  odd_emptied_at : (s t : Stocks) (d : ℕ) → by_parity s (emptied t (c / 2)) d ≡ emptied (pair_stocks s t) c d
  odd_emptied_at s t d =
      elim (cases_eq (d % 2) 0) [
        | inl f ↦
            let z : eqb (d % 2) 0 ≡ true = eq-eqb (d % 2) 0 f in
            let w : eqb d c ≡ false = ne_eqb d c (λ h. omega arith) in
            rw (z, w)
        | inr ne ↦ let z : eqb (d % 2) 0 ≡ false = ne_eqb (d % 2) 0 ne in rw z (odd_at_odd t d ne)
      ]

  pub odd_stocked : (b : Bool) (s t t' : Stocks) → t' ≡ cond b (emptied t (c / 2)) t
      → pair_stocks s t' ≡ cond b (emptied (pair_stocks s t) c) (pair_stocks s t)
  odd_stocked true s t t' h = ap (λ (x : Stocks). pair_stocks s x) h ∙ fun_ext (odd_emptied_at s t)
  odd_stocked false s t t' h = ap (λ (x : Stocks). pair_stocks s x) h

  pub odd_written : (b : Bool) (s t : Stocks) (old new : List ℕ) → new ≡ cond b (fronted (t (c / 2)) old) old
      → new ≡ cond b (fronted (pair_stocks s t c) old) old
  odd_written b s t old new h = h ∙ ap (λ (xs : List ℕ). cond b (fronted xs old) old) (sym (odd_here s t))
