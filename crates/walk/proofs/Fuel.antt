-- The functions make the searches and sweeps that the relations describe, where the fuel is more than the number of points.
use Rattle.std.proofs.Common.{◌≡◌, ℕ, zero, suc, ◌<◌, ◌≤◌, Bool, true, false, ◌⊎◌, List, [], ◌∷◌, ◌++◌, sym, refl, ap, ◌∙◌, inl, inr, append_assoc, append-nil, arith}
use native.Mathlib.Decide.{dec_lt}
use Rattle.alphabet.specs.Meaning.{Meaning}
use Rattle.alphabet.specs.Items.{read_item}
use Rattle.pattern.specs.declared.step.Step.{Step}
use Rattle.pattern.specs.declared.step.Step.TheVariants.{Read, Pass, Fork, End}
use Rattle.walk.specs.Graphs.{Points, rests, none, add}
use Rattle.walk.specs.Search.{Reached, Search, marked, found, passed, forked, Sweep, done, taken, dropped, Sought, visit, seek, going, next, sweep_on, sweep, sweeps, lives}
use Rattle.walk.proofs.Order.{add_same, add_keeps, never_both}
use Rattle.walk.proofs.Stretches.{Within, Leads, search_keeps}
use Rattle.walk.proofs.Lists.{Lists, lists_first, lists_next}

-- how many points below n are not in M
abbrev pub one_more : Bool → ℕ → ℕ
one_more true m = m
one_more false m = suc m

abbrev pub left : ℕ → Points → ℕ
left zero M = 0
left (suc n) M = one_more (M n) (left n M)

left_step : (b : Bool) (m n : ℕ) → m ≤ n → one_more b m ≤ suc n
left_step true m n h = omega arith
left_step false m n h = omega arith

pub left_bound : (n : ℕ) (M : Points) → left n M ≤ n
left_bound zero M = omega arith
left_bound (suc n) M = left_step (M n) (left n M) n (left_bound n M)

left_mono : (b c : Bool) (m n : ℕ) → (b ≡ true → c ≡ true) → m ≤ n → one_more c m ≤ one_more b n
left_mono true true m n f h = h
left_mono true false m n f h = absurd (never_both (f refl) refl)
left_mono false true m n f h = omega arith
left_mono false false m n f h = omega arith

pub left_within : (n : ℕ) (M N : Points) → Within M N → left n N ≤ left n M
left_within zero M N w = omega arith
left_within (suc n) M N w = left_mono (M n) (N n) (left n N) (left n M) (w n) (left_within n M N w)

left_strict : (b c : Bool) (m n : ℕ) → (b ≡ true → c ≡ true) → m < n → one_more c m < one_more b n
left_strict true true m n f h = h
left_strict true false m n f h = absurd (never_both (f refl) refl)
left_strict false true m n f h = omega arith
left_strict false false m n f h = omega arith

lt_cases : (p n : ℕ) → p < suc n → (p ≡ n) ⊎ (p < n)
lt_cases p n h = elim (dec_lt p n) [ yes l ↦ inr l | no l ↦ inl (omega arith) ]

left_here : (b c : Bool) (m n : ℕ) → b ≡ false → c ≡ true → m ≤ n → one_more c m < one_more b n
left_here true c m n f g h = absurd (never_both refl f)
left_here false true m n f g h = omega arith
left_here false false m n f g h = absurd (never_both g refl)

pub left_add : (n p : ℕ) (M : Points) → p < n → M p ≡ false → left n (add p M) < left n M
left_add zero p M h f = absurd (omega arith)
left_add (suc n) p M h f =
    elim (lt_cases p n h) [
      | inl e ↦ left_here (M n) (add p M n) (left n (add p M)) (left n M) (ap M (sym e) ∙ f) (ap (add p M) (sym e) ∙ add_same p M)
          (left_within n M (add p M) (λ k g. add_keeps p k M g))
      | inr l ↦ left_strict (M n) (add p M n) (left n (add p M)) (left n M) (add_keeps p n M) (left_add n p M l f)
    ]

module _ (at : ℕ → Step) (n : ℕ) (inside : (p k : ℕ) → Leads at p k → k < n) where
  visit_searches : (M : Points) (p : ℕ) (b : Bool) (x : Step) (go : Points → ℕ → Sought) → M p ≡ b → at p ≡ x → p < n →
      ((N : Points) (q : ℕ) → left n N < left n M → q < n → Search at N q (go N q).reached (go N q).marks) →
      Search at M p (visit b x p M go).reached (visit b x p M go).marks
  unfolding Leads
  visit_searches M p true x go m e l ih = marked m
  visit_searches M p false (Read class k) go m e l ih = found m (ap rests e)
  visit_searches M p false End go m e l ih = found m (ap rests e)
  visit_searches M p false (Pass k) go m e l ih =
      passed m e (ih (add p M) k (left_add n p M l m) (inside p k (inl e)))
  visit_searches M p false (Fork a b) go m e l ih =
      let s = ih (add p M) a (left_add n p M l m) (inside p a (inr (inl (b, e)))) in
      let w : left n (go (add p M) a).marks ≤ left n (add p M) = left_within n (add p M) (go (add p M) a).marks (search_keeps at s) in
      let v : left n (add p M) < left n M = left_add n p M l m in
      forked m e s (ih (go (add p M) a).marks b (omega arith) (inside p b (inr (inr (a, e)))))

  pub seek_searches : (fuel : ℕ) (M : Points) (p : ℕ) → left n M < fuel → p < n → Search at M p (seek at fuel M p).reached (seek at fuel M p).marks
  seek_searches zero M p h l = absurd (omega arith)
  seek_searches (suc fuel) M p h l =
      visit_searches M p (M p) (at p) (seek at fuel) refl refl l (λ N q g k. seek_searches fuel N q (omega arith) k)

  pub seek_enough : (M : Points) (p : ℕ) → p < n → Search at M p (seek at (suc n) M p).reached (seek at (suc n) M p).marks
  seek_enough M p l = seek_searches (suc n) M p (let b = left_bound n M in omega arith) l

module _ {Symbol : Type 0} (L : Meaning Symbol) (at : ℕ → Step) (n : ℕ) (inside : (p k : ℕ) → Leads at p k → k < n)
    (reads_inside : (p : ℕ) (class k : ℕ) → at p ≡ Read class k → k < n) where
  sweep_read : (a : Symbol) (r : Reached) (ls : List Reached) (M : Points) (go : Points → List Reached) → ((N : Points) → (O : Points) × Sweep L at a N ls (go N) O) →
      (class k : ℕ) → at r.point ≡ Read class k → (b : Bool) → L.belongs class a ≡ b →
      (O : Points) × Sweep L at a M (r ∷ ls) (sweep_on L at (suc n) (going b k) (r.code ++ (read_item (L.number a) ∷ [])) ls M go) O
  sweep_read a r ls M go ih class k e true b =
      let s = seek_enough at n inside M k (reads_inside r.point class k e) in
      let t = ih (seek at (suc n) M k).marks in
      (t.0, taken e b s t.1)
  sweep_read a r ls M go ih class k e false b =
      let t = ih M in
      (t.0, dropped (λ class' k' (e' : at r.point ≡ Read class' k') b'. let z : class ≡ class' = cc in never_both (ap (λ x. L.belongs x a) z ∙ b') b) t.1)

  sweep_visit : (a : Symbol) (r : Reached) (ls : List Reached) (M : Points) (go : Points → List Reached) → ((N : Points) → (O : Points) × Sweep L at a N ls (go N) O) →
      (x : Step) → at r.point ≡ x →
      (O : Points) × Sweep L at a M (r ∷ ls) (sweep_on L at (suc n) (next L a x) (r.code ++ (read_item (L.number a) ∷ [])) ls M go) O
  sweep_visit a r ls M go ih (Read class k) e = sweep_read a r ls M go ih class k e (L.belongs class a) refl
  sweep_visit a r ls M go ih (Pass k) e =
      let t = ih M in (t.0, dropped (λ class' k' (e' : at r.point ≡ Read class' k') b'. let z : ◌≡◌ {A = ℕ} 0 1 = cc in omega arith) t.1)
  sweep_visit a r ls M go ih (Fork x y) e =
      let t = ih M in (t.0, dropped (λ class' k' (e' : at r.point ≡ Read class' k') b'. let z : ◌≡◌ {A = ℕ} 0 1 = cc in omega arith) t.1)
  sweep_visit a r ls M go ih End e =
      let t = ih M in (t.0, dropped (λ class' k' (e' : at r.point ≡ Read class' k') b'. let z : ◌≡◌ {A = ℕ} 0 1 = cc in omega arith) t.1)

  -- a sweep, with the marks after it
  pub sweep_done : (a : Symbol) (ls : List Reached) (M : Points) → (N : Points) × Sweep L at a M ls (sweep L at (suc n) a ls M) N
  sweep_done a [] M = (M, done)
  sweep_done a (r ∷ ls) M =
      sweep_visit a r ls M (sweep L at (suc n) a ls) (λ N. sweep_done a ls N) (at r.point) refl

  module _ (from : ℕ) (starts : from < n) where
    sweeps_list : (v w : List Symbol) (ls : List Reached) → Lists L at from v ls → Lists L at from (v ++ w) (sweeps L at (suc n) ls w)
    sweeps_list v [] ls h = rw (append-nil v) h
    sweeps_list v (a ∷ w) ls h =
        let s = sweep_done a ls none in
        let l = lists_next L at from v a ls (sweep L at (suc n) a ls none) s.0 h s.1 in
        rw (← (append_assoc v (a ∷ []) w)) (sweeps_list (v ++ (a ∷ [])) w (sweep L at (suc n) a ls none) l)

    pub lives_list : (w : List Symbol) → Lists L at from w (lives L at (suc n) from w)
    lives_list w =
        sweeps_list [] w (seek at (suc n) none from).reached
        (lists_first L at from (seek at (suc n) none from).reached (seek at (suc n) none from).marks (seek_enough at n inside none from starts))
