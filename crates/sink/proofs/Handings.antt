-- Items handed over one after another.
use Rattle.std.proofs.Common.{◌≡◌, ℕ, suc, ◌+◌, ◌<◌, ◌≤◌, Bool, true, false, cond, List, [], ◌∷◌, ◌++◌, length, get_or, take, drop, is_ok, Ok, Err, Result, sym, refl, ap, ◌∙◌, ap₂, add-one, arith, drop-cons}
use Rattle.std.proofs.lemmas.List.{take_more, drop_all}
use Rattle.fault.specs.declared.refusal.Fault.{Fault}
use Rattle.sink.specs.Meaning.{Meaning, Stocks, fits, take_answer, grown}
use Rattle.sink.specs.Handing.{moved_by, grown_by, taken_count, hand_answer, all_taken}

-- where all are taken, each is taken and so are those after it
pub rest_taken : (a b : Result (Unit {0}) Fault) → is_ok (cond (is_ok a) b a) ≡ true → is_ok b ≡ true
rest_taken (Ok x) b h = h
rest_taken (Err f) b h = cc

pub front_taken : (a b : Result (Unit {0}) Fault) → is_ok (cond (is_ok a) b a) ≡ true → is_ok a ≡ true
front_taken (Ok x) b h = refl
front_taken (Err f) b h = h

-- what is taken is expected
taken_expected : (b c : Bool) (f g : Fault) → is_ok {T = Unit {0}} (cond b (cond c (Ok tt) (Err f)) (Err g)) ≡ true → b ≡ true
taken_expected true c f g h = refl
taken_expected false c f g h = h

module _ (m : Meaning) where
  pub moved_by_append : (p : m.Position) (xs ys : List ℕ) → moved_by m p (xs ++ ys) ≡ moved_by m (moved_by m p xs) ys
  moved_by_append p [] ys = refl
  moved_by_append p (x ∷ xs) ys = moved_by_append (m.next p x) xs ys

  pub grown_by_append : (p : m.Position) (s : Stocks) (xs ys : List ℕ) → grown_by m p s (xs ++ ys) ≡ grown_by m (moved_by m p xs) (grown_by m p s xs) ys
  grown_by_append p s [] ys = refl
  grown_by_append p s (x ∷ xs) ys = grown_by_append (m.next p x) (grown m p s x) xs ys

  -- each of the items is expected in turn, whatever the stocks hold
  abbrev pub Expects : m.Position → List ℕ → Type 0
  Expects p [] = Unit {0}
  Expects p (x ∷ xs) = (m.expected p x ≡ true) × Expects (m.next p x) xs

  pub expects_taken : (p : m.Position) (s : Stocks) (xs : List ℕ) → all_taken m p s xs ≡ true → Expects p xs
  expects_taken p s [] h = tt
  expects_taken p s (x ∷ xs) h =
      let a = take_answer m p s x in
      let b = hand_answer m (m.next p x) (grown m p s x) xs in
      (taken_expected (m.expected p x) (fits m p s x) _ _ (front_taken a b h), expects_taken (m.next p x) (grown m p s x) xs (rest_taken a b h))

  pub expects_append : (p : m.Position) (xs ys : List ℕ) → Expects p xs → Expects (moved_by m p xs) ys → Expects p (xs ++ ys)
  expects_append p [] ys h k = k
  expects_append p (x ∷ xs) ys h k = (h.0, expects_append (m.next p x) xs ys h.1 k)

  pub moved_by_push : (p : m.Position) (xs : List ℕ) (x : ℕ) → moved_by m p (xs ++ x ∷ []) ≡ m.next (moved_by m p xs) x
  moved_by_push p [] x = refl
  moved_by_push p (y ∷ xs) x = moved_by_push (m.next p y) xs x

  pub grown_by_push : (p : m.Position) (s : Stocks) (xs : List ℕ) (x : ℕ) → grown_by m p s (xs ++ x ∷ []) ≡ grown m (moved_by m p xs) (grown_by m p s xs) x
  grown_by_push p s [] x = refl
  grown_by_push p s (y ∷ xs) x = grown_by_push (m.next p y) (grown m p s y) xs x

  -- k of the items are taken, which has led to the position p' and the stocks s'
  pub record Sofar (p : m.Position) (s : Stocks) (xs : List ℕ) (k : ℕ) (p' : m.Position) (s' : Stocks) : Type 0 where
    pub moved : p' ≡ moved_by m p (take k xs)
    pub stocked : s' ≡ grown_by m p s (take k xs)
    pub count : taken_count m p s xs ≡ k + taken_count m p' s' (drop k xs)
    pub answer : hand_answer m p s xs ≡ hand_answer m p' s' (drop k xs)

  module _ (p : m.Position) (s : Stocks) (x : ℕ) (xs : List ℕ) where
    taken_one : (u : Unit {0}) → Ok u ≡ take_answer m p s x → taken_count m p s (x ∷ xs) ≡ suc (taken_count m (m.next p x) (grown m p s x) xs)
    taken_one u e = ap (λ (r : Result (Unit {0}) Fault). cond (is_ok r) (suc (taken_count m (m.next p x) (grown m p s x) xs)) 0) (sym e)

    answered_one : (u : Unit {0}) → Ok u ≡ take_answer m p s x → hand_answer m p s (x ∷ xs) ≡ hand_answer m (m.next p x) (grown m p s x) xs
    answered_one u e = ap (λ (r : Result (Unit {0}) Fault). cond (is_ok r) (hand_answer m (m.next p x) (grown m p s x) xs) r) (sym e)

    none_taken : (f : Fault) → Err f ≡ take_answer m p s x → taken_count m p s (x ∷ xs) ≡ 0
    none_taken f e = ap (λ (r : Result (Unit {0}) Fault). cond (is_ok r) (suc (taken_count m (m.next p x) (grown m p s x) xs)) 0) (sym e)

    refused_one : (f : Fault) → Err f ≡ take_answer m p s x → hand_answer m p s (x ∷ xs) ≡ Err f
    refused_one f e = ap (λ (r : Result (Unit {0}) Fault). cond (is_ok r) (hand_answer m (m.next p x) (grown m p s x) xs) r) (sym e)

  module _ (p : m.Position) (s : Stocks) (xs : List ℕ) (k : ℕ) (p' : m.Position) (s' : Stocks) (h : Sofar p s xs k p' s') where
    split : k < length xs → drop k xs ≡ get_or xs k 0 ∷ drop (k + 1) xs
    split l = rw (add-one, drop-cons xs k 0)

    -- the next item is taken too
    pub sofar_more : (u : Unit {0}) (p'' : m.Position) (s'' : Stocks) → k < length xs → Ok u ≡ take_answer m p' s' (get_or xs k 0)
        → p'' ≡ m.next p' (get_or xs k 0) → s'' ≡ grown m p' s' (get_or xs k 0) → Sofar p s xs (k + 1) p'' s''
    sofar_more u p'' s'' l e f g =
        let x = get_or xs k 0 in
        record {
          moved = f ∙ ap (λ (a : m.Position). m.next a x) h.moved ∙ sym (moved_by_push p (take k xs) x) ∙ ap (moved_by m p) (sym (take_more xs k 0 l));
          stocked =
              g
              ∙ ap₂ (λ (a : m.Position) (b : Stocks). grown m a b x) h.moved h.stocked
              ∙ sym (grown_by_push p s (take k xs) x)
              ∙ ap (grown_by m p s) (sym (take_more xs k 0 l));
          count =
              h.count
              ∙ ap (λ (ys : List ℕ). k + taken_count m p' s' ys) (split l)
              ∙ ap (λ (n : ℕ). k + n) (taken_one p' s' x (drop (k + 1) xs) u e)
              ∙ (let w : (n : ℕ) → k + suc n ≡ k + 1 + n = λ n. omega arith in w (taken_count m (m.next p' x) (grown m p' s' x) (drop (k + 1) xs)))
              ∙ ap₂ (λ (a : m.Position) (b : Stocks). k + 1 + taken_count m a b (drop (k + 1) xs)) (sym f) (sym g);
          answer =
              h.answer
              ∙ ap (hand_answer m p' s') (split l)
              ∙ answered_one p' s' x (drop (k + 1) xs) u e
              ∙ ap₂ (λ (a : m.Position) (b : Stocks). hand_answer m a b (drop (k + 1) xs)) (sym f) (sym g);
        }

    -- the next item is refused
    module _ (f : Fault) (l : k < length xs) (e : Err f ≡ take_answer m p' s' (get_or xs k 0)) where
      pub refused_count : k ≡ taken_count m p s xs
      refused_count =
          sym (h.count
          ∙ ap (λ (ys : List ℕ). k + taken_count m p' s' ys) (split l)
          ∙ ap (λ (n : ℕ). k + n) (none_taken p' s' (get_or xs k 0) (drop (k + 1) xs) f e)
          ∙ omega arith)

      pub refused_answer : Err f ≡ hand_answer m p s xs
      refused_answer =
          sym (h.answer ∙ ap (hand_answer m p' s') (split l) ∙ refused_one p' s' (get_or xs k 0) (drop (k + 1) xs) f e)

    -- no item is left
    module _ (l : length xs ≤ k) where
      none_left : drop k xs ≡ []
      none_left = drop_all k xs l

      pub all_count : k ≡ taken_count m p s xs
      all_count = sym (h.count ∙ ap (λ (ys : List ℕ). k + taken_count m p' s' ys) none_left ∙ omega arith)

      pub all_answer : (u : Unit {0}) → Ok u ≡ hand_answer m p s xs
      all_answer u = sym (h.answer ∙ ap (hand_answer m p' s') none_left)

  pub sofar_none : (p : m.Position) (s : Stocks) (xs : List ℕ) → Sofar p s xs 0 p s
  sofar_none p s xs = record { moved = refl; stocked = refl; count = omega arith; answer = refl }
