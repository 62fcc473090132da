-- Items handed over one after another, by how many are taken.
use Rattle.std.proofs.Common.{◌≡◌, ℕ, suc, ◌≤◌, Bool, true, false, cond, [], ◌∷◌, length, take, is_ok, Ok, Err, Result, sym, refl, ap, ◌∙◌, subst, ap₂, arith}
use Rattle.std.specs.Result.{MatchResult, IsErrAnd}
use Rattle.fault.specs.declared.refusal.Fault.{Fault}
use Rattle.fault.specs.declared.cause.Cause.TheVariants.{NotExpected, ChannelFull}
use Rattle.sink.specs.Meaning.{Meaning, Stocks, fits, take_answer, grown, sink_fault}
use Rattle.sink.specs.Handing.{moved_by, grown_by, taken_count, hand_answer, all_taken}
use Rattle.walk.specs.Codes.{Code}
use Rattle.run.specs.Sinks.{Standing, after_items}
use Rattle.run.specs.Giving.{stand, GivenEnded, Gives}

-- a sink's answer as a run passes it on: a refusal keeps its cause and has the run's place
abbrev pub placed : ℕ → Result (Unit {0}) Fault → Result (Unit {0}) Fault
placed place (Ok u) = Ok u
placed place (Err f) = Err (record { cause = f.cause; place = place })

-- a refusal that is moved to the run's place, and any other answer as it is
pub placed_mapped : (place : ℕ) (r q : Result (Unit {0}) Fault) (moves : Fault → Fault → Type 0)
    → ((f g : Fault) → moves f g → g ≡ record { cause = f.cause; place = place })
    → MatchResult r (λ u. q ≡ Ok u) (λ f. IsErrAnd q (moves f)) → q ≡ placed place r
placed_mapped place (Ok u) q moves m h = h
placed_mapped place (Err f) (Ok u) moves m h = absurd h
placed_mapped place (Err f) (Err g) moves m h = ap (λ (x : Fault). Err x) (m f g h)

module _ (K : Meaning) where
  -- a sink's own fault has the place 0
  own : (e b : Bool) (f : Fault) → ◌≡◌ {A = Result (Unit {0}) Fault} (cond e (cond b (Ok tt) (Err (sink_fault ChannelFull))) (Err (sink_fault NotExpected))) (Err f) → f ≡ sink_fault f.cause
  own true true f h = cc
  own true false f h = let z : sink_fault ChannelFull ≡ f = cc in subst (λ (g : Fault). g ≡ sink_fault g.cause) z refl
  own false b f h = let z : sink_fault NotExpected ≡ f = cc in subst (λ (g : Fault). g ≡ sink_fault g.cause) z refl

  -- the front that is taken, and what comes of the next item
  pub record Split (p : K.Position) (s : Stocks) (xs : Code) (n : ℕ) (r : Result (Unit {0}) Fault) : Type 0 where
    pub done : Code
    pub front : take n xs ≡ done
    pub takes : all_taken K p s done ≡ true
    pub counted : n ≡ length done
    pub few : n ≤ length xs
    pub ended : (place : ℕ) → GivenEnded K (after_items K (stand p s) done) xs done place (placed place r)

  ended_later : (t : Standing K.Position) (x : ℕ) (xs done : Code) (place : ℕ) (r : Result (Unit {0}) Fault) → GivenEnded K t xs done place r → GivenEnded K t (x ∷ xs) (x ∷ done) place r
  ended_later t x xs done place (Ok u) e = ap (λ (ys : Code). x ∷ ys) e
  ended_later t x xs done place (Err f) e =
      record { item = e.item; rest = e.rest; cut = ap (λ (ys : Code). x ∷ ys) e.cut; refused = e.refused; there = e.there }

  split_one : (p : K.Position) (s : Stocks) (x : ℕ) (xs : Code) (b : Result (Unit {0}) Fault) → take_answer K p s x ≡ b
      → (n : ℕ) (r : Result (Unit {0}) Fault) → Split (K.next p x) (grown K p s x) xs n r
      → Split p s (x ∷ xs) (cond (is_ok b) (suc n) 0) (cond (is_ok b) r b)
  split_one p s x xs (Ok u) e n r h =
      record {
        done = x ∷ h.done;
        front = ap (λ (ys : Code). x ∷ ys) h.front;
        takes = ap (λ (b : Result (Unit {0}) Fault). is_ok (cond (is_ok b) (hand_answer K (K.next p x) (grown K p s x) h.done) b)) e ∙ h.takes;
        counted = ap suc h.counted;
        few = omega (arith, h.few);
        ended = λ place. ended_later (after_items K (stand (K.next p x) (grown K p s x)) h.done) x xs h.done place (placed place r) (h.ended place);
      }
  split_one p s x xs (Err f) e n r h =
      record {
        done = [];
        front = refl;
        takes = refl;
        counted = refl;
        few = omega arith;
        ended = λ place. record { item = x; rest = xs; cut = refl; refused = e ∙ ap (λ (g : Fault). Err g) (own (K.expected p x) (fits K p s x) f e); there = refl };
      }

  split : (p : K.Position) (s : Stocks) (xs : Code) → Split p s xs (taken_count K p s xs) (hand_answer K p s xs)
  split p s [] = record { done = []; front = refl; takes = refl; counted = refl; few = omega arith; ended = λ _. refl }
  split p s (x ∷ xs) = split_one p s x xs (take_answer K p s x) refl (taken_count K (K.next p x) (grown K p s x) xs) (hand_answer K (K.next p x) (grown K p s x) xs) (split (K.next p x) (grown K p s x) xs)

  pub gives : (p : K.Position) (s : Stocks) (xs : Code) (place n : ℕ) (r : Result (Unit {0}) Fault) (p' : K.Position) (s' : Stocks)
      → n ≡ taken_count K p s xs → r ≡ hand_answer K p s xs → p' ≡ moved_by K p (take n xs) → s' ≡ grown_by K p s (take n xs)
      → Gives K (stand p s) xs place n (placed place r) (stand p' s')
  gives p s xs place n r p' s' ne re pe se =
      let h = split p s xs in
      let f : take n xs ≡ h.done = ap (λ (k : ℕ). take k xs) ne ∙ h.front in
      let t : stand p' s' ≡ after_items K (stand p s) h.done = ap₂ (λ (a : K.Position) (b : Stocks). stand a b) (pe ∙ ap (moved_by K p) f) (se ∙ ap (grown_by K p s) f) in
      record {
        done = h.done;
        takes = h.takes;
        stood = t;
        counted = ne ∙ h.counted;
        few = omega (arith, ne, h.few);
        ended =
            subst (λ (u : Standing K.Position). GivenEnded K u xs h.done place (placed place r)) (sym t)
            (subst (λ (q : Result (Unit {0}) Fault). GivenEnded K (after_items K (stand p s) h.done) xs h.done place (placed place q)) (sym re) (h.ended place));
      }

  -- the same of items that are the same
  pub gives_as : (s t : Standing K.Position) (xs ys : Code) (place n : ℕ) (r : Result (Unit {0}) Fault) → xs ≡ ys → Gives K s xs place n r t → Gives K s ys place n r t
  gives_as s t xs ys place n r e h = subst (λ (zs : Code). Gives K s zs place n r t) e h

  -- the same of an answer that is known
  pub gives_so : (s t : Standing K.Position) (xs : Code) (place n : ℕ) (r q : Result (Unit {0}) Fault) → r ≡ q → Gives K s xs place n r t → Gives K s xs place n q t
  gives_so s t xs place n r q e h = subst (λ (z : Result (Unit {0}) Fault). Gives K s xs place n z t) e h
