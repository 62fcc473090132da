-- A pair turned round.
use Rattle.std.proofs.Common.{◌≡◌, ℕ, ◌+◌, ◌-◌, ◌/◌, ◌%◌, Bool, true, false, cond, ◌&&◌, eqb, ◌⊎◌, List, [], ◌++◌, sym, refl, ap, ◌∙◌, ap₂, inl, inr, arith}
use Rattle.std.proofs.lemmas.Bool.{eq-eqb, ne_eqb, cases_eq}
use Rattle.sink.specs.Meaning.{Meaning, among, fits}
use Rattle.sink.specs.PairMeaning.{by_parity, pair_meaning}
use Rattle.sink.specs.Laws.{turned, OrderFree}
use Rattle.sink.proofs.PairLaws.{by_tests, poured, pair_by_tests, even_here, odd_here, even_among, odd_among}

and_turned : (a b : Bool) → a && b ≡ b && a
and_turned true true = refl
and_turned true false = refl
and_turned false true = refl
and_turned false false = refl

turned_even : (c : ℕ) → c % 2 ≡ 0 → turned c ≡ c + 1
turned_even c e = let z : eqb (c % 2) 0 ≡ true = eq-eqb (c % 2) 0 e in rw z

turned_odd : (c : ℕ) → c % 2 ≡ 1 → turned c ≡ c - 1
turned_odd c e = let z : eqb (c % 2) 0 ≡ false = ne_eqb (c % 2) 0 (λ h. omega arith) in rw z

parity : (c : ℕ) → (c % 2 ≡ 0) ⊎ (c % 2 ≡ 1)
parity c = elim (cases_eq (c % 2) 0) [ inl e ↦ inl e | inr ne ↦ inr (omega arith) ]

-- what channel c has in one order, its other number has in the other
by_parity_turned : {X : Type 0} (f g : ℕ → X) (c : ℕ) → by_parity f g c ≡ by_parity g f (turned c)
by_parity_turned f g c =
    elim (parity c) [
      | inl e ↦
          let o : (c + 1) % 2 ≡ 1 = omega arith in
          let h : (c + 1) / 2 ≡ c / 2 = omega arith in
          even_here c e f g ∙ sym (ap (by_parity g f) (turned_even c e) ∙ odd_here (c + 1) o g f ∙ ap f h)
      | inr e ↦
          let o : (c - 1) % 2 ≡ 0 = omega arith in
          let h : (c - 1) / 2 ≡ c / 2 = omega arith in
          odd_here c e f g ∙ sym (ap (by_parity g f) (turned_odd c e) ∙ even_here (c - 1) o g f ∙ ap g h)
    ]

among_by_parity : (m n : Meaning) (c : ℕ) → among c (pair_meaning m n).channels ≡ by_parity (λ k. among k m.channels) (λ k. among k n.channels) c
among_by_parity m n c =
    elim (parity c) [
      | inl e ↦ even_among c e m.channels n.channels ∙ sym (even_here c e (λ k. among k m.channels) (λ k. among k n.channels))
      | inr e ↦ odd_among c e m.channels n.channels ∙ sym (odd_here c e (λ k. among k m.channels) (λ k. among k n.channels))
    ]

among_turned : (m n : Meaning) (c : ℕ) → among c (pair_meaning m n).channels ≡ among (turned c) (pair_meaning n m).channels
among_turned m n c =
    among_by_parity m n c
    ∙ by_parity_turned (λ k. among k m.channels) (λ k. among k n.channels) c
    ∙ sym (among_by_parity n m (turned c))

-- two channels are the same in one order if they are in the other
eqb_by_parity : (c d c' d' : ℕ) → (c ≡ d → c' ≡ d') → (c' ≡ d' → c ≡ d) → eqb c d ≡ eqb c' d'
eqb_by_parity c d c' d' f g =
    elim (cases_eq c d) [
      | inl e ↦ eq-eqb c d e ∙ sym (eq-eqb c' d' (f e))
      | inr ne ↦ ne_eqb c d ne ∙ sym (ne_eqb c' d' (λ e. ne (g e)))
    ]

turned_twice : (c : ℕ) → turned (turned c) ≡ c
turned_twice c =
    elim (parity c) [
      | inl e ↦ ap turned (turned_even c e) ∙ turned_odd (c + 1) (omega arith) ∙ omega arith
      | inr e ↦ ap turned (turned_odd c e) ∙ turned_even (c - 1) (omega arith) ∙ omega arith
    ]

eqb_turned : (c d : ℕ) → eqb c d ≡ eqb (turned c) (turned d)
eqb_turned c d =
    eqb_by_parity c d (turned c) (turned d) (ap turned) (λ e. sym (turned_twice c) ∙ ap turned e ∙ turned_twice d)

pub order_free : (m n : Meaning) → OrderFree m n
order_free m n = record {
  takes = λ p q s t i.
      pair_by_tests m n p q s t i
      ∙ ap₂ by_tests (and_turned (m.expected p i) (n.expected q i)) (and_turned (fits m p s i) (fits n q t i))
      ∙ sym (pair_by_tests n m q p t s i);
  moves = λ p q i. refl;
  grows = λ p q s t i c.
      ap₂ (λ (a b : List ℕ). a ++ b) (by_parity_turned s t c) (by_parity_turned (m.added p i) (n.added q i) c);
  pours = λ s t c k. ap₂ (λ (b : Bool) (xs : List ℕ). poured b xs k) (among_turned m n c) (by_parity_turned s t c);
  empties = λ s t c d. ap₂ (λ (b : Bool) (xs : List ℕ). cond b [] xs) (eqb_turned d c) (by_parity_turned s t d);
}
