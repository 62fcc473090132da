-- Laws of stretches, and what a search finds.
use Rattle.std.proofs.Common.{◌≡◌, ℕ, true, false, ◌⊎◌, List, [], ◌∷◌, refl, ap, ◌∙◌, subst, inl, inr, arith}
use Rattle.alphabet.specs.Items.{first_branch, second_branch}
use Rattle.pattern.specs.declared.step.Step.{Step}
use Rattle.pattern.specs.declared.step.Step.TheVariants.{Pass, Fork}
use Rattle.walk.specs.Graphs.{Points, rests, add}
use Rattle.walk.specs.Codes.{Code, Earlier}
use Rattle.walk.proofs.Stages.{Stretch, stop, pass, first, second}
use Rattle.walk.specs.Search.{Reached, In, after, Ordered, Search, marked, found, passed, forked}
use Rattle.walk.proofs.Order.{add_same, add_keeps, add_cases, add_fresh, two_ways, never_both, earlier_cancel}
use Rattle.walk.proofs.Order.{in_left, in_right, in_either, in_after, in_before, ordered_after, ordered_append}

abbrev pub Within : Points → Points → Type 0
Within M N = (k : ℕ) → M k ≡ true → N k ≡ true

module _ (at : ℕ → Step) where
  -- a stretch by the point that it leaves

  pub at_text : {M : Points} {p q k : ℕ} {c : Code} → at p ≡ Pass k → Stretch at M p q c → Stretch at (add p M) k q c
  at_text e (stop f s) = let z : ◌≡◌ {A = ℕ} 0 1 = cc in absurd (omega arith)
  at_text {M} {p} {q} {k} {c = c} e (pass {k = l} f t s) = let z : l ≡ k = cc in subst (λ x. Stretch at (add p M) x q c) z s
  at_text e (first f t s) = let z : ◌≡◌ {A = ℕ} 0 1 = cc in absurd (omega arith)
  at_text e (second f t s) = let z : ◌≡◌ {A = ℕ} 0 1 = cc in absurd (omega arith)

  pub at_fork : {M : Points} {p q a b : ℕ} {c : Code} → at p ≡ Fork a b → Stretch at M p q c →
      ((d : Code) × (c ≡ first_branch ∷ d) × Stretch at (add p M) a q d) ⊎ ((d : Code) × (c ≡ second_branch ∷ d) × Stretch at (add p M) b q d)
  at_fork e (stop f s) = let z : ◌≡◌ {A = ℕ} 0 1 = cc in absurd (omega arith)
  at_fork e (pass f t s) = let z : ◌≡◌ {A = ℕ} 0 1 = cc in absurd (omega arith)
  at_fork {M} {p} {q} {a} {b} e (first {a = a'} {c = d} f t s) = let z : a' ≡ a = cc in inl (d, refl, subst (λ x. Stretch at (add p M) x q d) z s)
  at_fork {M} {p} {q} {a} {b} e (second {b = b'} {c = d} f t s) = let z : b' ≡ b = cc in inr (d, refl, subst (λ x. Stretch at (add p M) x q d) z s)

  pub ends_resting : {M : Points} {p q : ℕ} {c : Code} → Stretch at M p q c → rests (at q) ≡ true
  ends_resting (stop f s) = s
  ends_resting (pass f t s) = ends_resting s
  ends_resting (first f t s) = ends_resting s
  ends_resting (second f t s) = ends_resting s

  -- sets of points

  unfoldable pub Leads : ℕ → ℕ → Type 0
  Leads p k = ((at p ≡ Pass k)) ⊎ (((b : ℕ) × (at p ≡ Fork k b)) ⊎ ((a : ℕ) × (at p ≡ Fork a k)))

  -- what is in M and not in G leads to M only
  unfoldable pub Closed : Points → Points → Type 0
  Closed G M = (p k : ℕ) → M p ≡ true → G p ≡ false → Leads p k → M k ≡ true

  pub fresh_within : (G M : Points) (k : ℕ) → Within G M → M k ≡ false → G k ≡ false
  fresh_within G M k w f = elim (two_ways (G k)) [ inl h ↦ absurd (never_both (w k h) f) | inr h ↦ h ]

  pub within_add : (G M : Points) (p : ℕ) → Within G M → Within (add p G) (add p M)
  within_add G M p w k h = elim (add_cases p k G h) [ inl e ↦ rw e (add_same p M) | inr g ↦ add_keeps p k M (w k g) ]

  pub within_more : (G M : Points) (p : ℕ) → Within G M → Within G (add p M)
  within_more G M p w k h = add_keeps p k M (w k h)

  -- a stretch that begins in a closed set ends in it
  pub closed_ends : (G M : Points) {V : Points} {p q : ℕ} {c : Code} → Closed G M → Within G V → M p ≡ true → Stretch at V p q c → M q ≡ true
  unfolding Closed Leads
  closed_ends G M cl w m (stop f s) = m
  closed_ends G M {V} {p} cl w m (pass {k = k} f e s) =
      closed_ends G M cl (within_more G V p w) (cl p k m (fresh_within G V p w f) (inl e)) s
  closed_ends G M {V} {p} cl w m (first {a = a} {b = b} f e s) =
      closed_ends G M cl (within_more G V p w) (cl p a m (fresh_within G V p w f) (inr (inl (b, e)))) s
  closed_ends G M {V} {p} cl w m (second {a = a} {b = b} f e s) =
      closed_ends G M cl (within_more G V p w) (cl p b m (fresh_within G V p w f) (inr (inr (a, e)))) s

  -- a search marks more, its start too, and keeps the marks closed

  pub search_keeps : {M : Points} {p : ℕ} {rs : List Reached} {N : Points} → Search at M p rs N → Within M N
  search_keeps (marked h) k m = m
  search_keeps {M} {p = p} (found f s) k m = add_keeps p k M m
  search_keeps {M} {p = p} (passed f e s) k m = search_keeps s k (add_keeps p k M m)
  search_keeps {M} {p = p} (forked f e s t) k m = search_keeps t k (search_keeps s k (add_keeps p k M m))

  pub search_marks : {M : Points} {p : ℕ} {rs : List Reached} {N : Points} → Search at M p rs N → N p ≡ true
  search_marks (marked h) = h
  search_marks {M} {p = p} (found f s) = add_same p M
  search_marks {M} {p = p} (passed f e s) = search_keeps s p (add_same p M)
  search_marks {M} {p = p} (forked f e s t) = search_keeps t p (search_keeps s p (add_same p M))

  -- what is in the set and not grey leads to the set: kept as p is made grey, and as it is made black again

  closed_add : (G M : Points) (p : ℕ) → Closed G M → Closed (add p G) (add p M)
  unfolding Closed
  closed_add G M p cl x k m g l =
      elim (add_cases p x M m) [
        | inl e ↦ absurd (never_both (add_same p G) (rw e at g))
        | inr h ↦ add_keeps p k M (cl x k h (add_fresh p x G g) l)
      ]

  closed_drop : (G N : Points) (p : ℕ) → Closed (add p G) N → ((k : ℕ) → Leads p k → N k ≡ true) → Closed G N
  unfolding Closed
  closed_drop G N p cl to x k m g l =
      elim (two_ways (add p G x)) [
        | inl h ↦ elim (add_cases p x G h) [ inl e ↦ to k (rw e at l) | inr i ↦ absurd (never_both i g) ]
        | inr h ↦ cl x k m h l
      ]

  rest_leads_nowhere : (p k : ℕ) → rests (at p) ≡ true → Leads p k → ⊥
  unfolding Leads
  rest_leads_nowhere p k r (inl h) = let z : ◌≡◌ {A = ℕ} 0 1 = cc in omega arith
  rest_leads_nowhere p k r (inr (inl h)) = let z : ◌≡◌ {A = ℕ} 0 1 = cc in omega arith
  rest_leads_nowhere p k r (inr (inr h)) = let z : ◌≡◌ {A = ℕ} 0 1 = cc in omega arith

  text_leads : (p k l : ℕ) → at p ≡ Pass k → Leads p l → l ≡ k
  unfolding Leads
  text_leads p k l t (inl h) = cc
  text_leads p k l t (inr (inl h)) = cc
  text_leads p k l t (inr (inr h)) = cc

  fork_leads : (p a b l : ℕ) → at p ≡ Fork a b → Leads p l → (l ≡ a) ⊎ (l ≡ b)
  unfolding Leads
  fork_leads p a b l t (inl h) = inl cc
  fork_leads p a b l t (inr (inl h)) = inl cc
  fork_leads p a b l t (inr (inr h)) = inr cc

  pub search_closed : (G : Points) {M : Points} {p : ℕ} {rs : List Reached} {N : Points} → Search at M p rs N → Within G M → Closed G M → Closed G N
  unfolding Closed
  search_closed G (marked h) w cl = cl
  search_closed G {M} {p} (found f s) w cl = λ x k m g l.
      elim (add_cases p x M m) [
        | inl e ↦ absurd (rest_leads_nowhere p k s (rw e at l))
        | inr h ↦ add_keeps p k M (cl x k h g l)
      ]
  search_closed G {M} {p} {N = N} (passed {k = k} f e s) w cl =
      closed_drop G N p (search_closed (add p G) s (within_add G M p w) (closed_add G M p cl))
      (λ l h. rw (text_leads p k l e h) (search_marks s))
  search_closed G {M} {p} {N = O} (forked {N = N} {a = a} {b = b} f e s t) w cl =
      let c₁ = search_closed (add p G) s (within_add G M p w) (closed_add G M p cl) in
      closed_drop G O p (search_closed (add p G) t (λ k h. search_keeps s k (within_add G M p w k h)) c₁)
      (λ l h. elim (fork_leads p a b l e h) [ inl i ↦ rw i (search_keeps t a (search_marks s)) | inr i ↦ rw i (search_marks t) ])

  -- what is found was not marked, is marked, and is reached by a stretch that avoids the grey points
  pub search_sound : (G : Points) {M : Points} {p : ℕ} {rs : List Reached} {N : Points} → Search at M p rs N → Within G M →
      (q : ℕ) (c : Code) → In q c rs → (M q ≡ false) × (N q ≡ true) × Stretch at G p q c
  search_sound G (marked h) w q c i = absurd i
  search_sound G {M} {p} (found f s) w q c (inl e) =
      rw (e.0, e.1) (f, add_same p M, stop (fresh_within G M p w f) s)
  search_sound G {M} {p} (found f s) w q c (inr i) = absurd i
  search_sound G {M} {p} (passed f e s) w q c i =
      let h = search_sound (add p G) s (within_add G M p w) q c i in
      (add_fresh p q M h.0, h.1, pass (fresh_within G M p w f) e h.2)
  search_sound G {M} {p} (forked {N = N} {rs = rs} {ss = ss} f e s t) w q c i =
      elim (in_either q c (after (first_branch ∷ []) rs) (after (second_branch ∷ []) ss) i) [
        | inl j ↦
            let b = in_before q c (first_branch ∷ []) rs j in
            let h = search_sound (add p G) s (within_add G M p w) q b.0 b.2 in
            (add_fresh p q M h.0, search_keeps t q h.1, rw b.1 (first (fresh_within G M p w f) e h.2))
        | inr j ↦
            let b = in_before q c (second_branch ∷ []) ss j in
            let h = search_sound (add p G) t (λ k g. search_keeps s k (within_add G M p w k g)) q b.0 b.2 in
            (add_fresh p q M (fresh_within (add p M) N q (search_keeps s) h.0), h.1, rw b.1 (second (fresh_within G M p w f) e h.2))
      ]

  -- a resting point is not a point that a stretch leaves
  passes : (p : ℕ) (M : Points) (q : ℕ) (x : Step) → M p ≡ false → at p ≡ x → rests x ≡ false → rests (at q) ≡ true → M q ≡ false → add p M q ≡ false
  passes p M q x f e n r m =
      elim (two_ways (add p M q)) [
        | inl h ↦ elim (add_cases p q M h) [
          | inl i ↦ absurd (never_both r (ap (λ y. rests (at y)) i ∙ ap rests e ∙ n))
          | inr i ↦ absurd (never_both i m)
        ]
        | inr h ↦ h
      ]

  nil_earliest : (d : Code) → Earlier d [] → ⊥
  nil_earliest [] e = e
  nil_earliest (x ∷ d) e = e

  no_second : (c d : Code) → Earlier (second_branch ∷ c) (first_branch ∷ d) → ⊥
  no_second c d (inl e) = omega (arith, e.0)
  no_second c d (inr e) = omega (arith, e.0)

  -- a resting point that is newly marked is found
  pub search_complete : {M : Points} {p : ℕ} {rs : List Reached} {N : Points} → Search at M p rs N →
      (q : ℕ) → rests (at q) ≡ true → M q ≡ false → N q ≡ true → (c : Code) × In q c rs
  search_complete (marked h) q r m n = absurd (never_both n m)
  search_complete {M} {p} (found f s) q r m n =
      elim (add_cases p q M n) [ inl e ↦ ([], inl (e, refl)) | inr h ↦ absurd (never_both h m) ]
  search_complete {M} {p} (passed {k = k} f e s) q r m n = search_complete s q r (passes p M q (Pass k) f e refl r m) n
  search_complete {M} {p} (forked {N = N} {a = a} {b = b} {rs = rs} {ss = ss} f e s t) q r m n =
      elim (two_ways (N q)) [
        | inl h ↦
            let i = search_complete s q r (passes p M q (Fork a b) f e refl r m) h in
            (first_branch ∷ i.0, in_left q (first_branch ∷ i.0) (after (first_branch ∷ []) rs) (after (second_branch ∷ []) ss) (in_after q i.0 (first_branch ∷ []) rs i.1))
        | inr h ↦
            let i = search_complete t q r h n in
            (second_branch ∷ i.0, in_right q (second_branch ∷ i.0) (after (first_branch ∷ []) rs) (after (second_branch ∷ []) ss) (in_after q i.0 (second_branch ∷ []) ss i.1))
      ]

  pub search_ordered : {M : Points} {p : ℕ} {rs : List Reached} {N : Points} → Search at M p rs N → Ordered rs
  search_ordered (marked h) = tt
  search_ordered (found f s) = (λ q c i. absurd i, tt)
  search_ordered (passed f e s) = search_ordered s
  search_ordered (forked {rs = rs} {ss = ss} f e s t) =
      ordered_append (after (first_branch ∷ []) rs) (after (second_branch ∷ []) ss) (ordered_after (first_branch ∷ []) rs (search_ordered s)) (ordered_after (second_branch ∷ []) ss (search_ordered t))
      (λ q c r d i j. rw ((in_before q c (first_branch ∷ []) rs i).1, (in_before r d (second_branch ∷ []) ss j).1) (inl (refl, refl)))

  -- no stretch that avoids the grey points is earlier than what is found
  pub search_earliest : (G : Points) {M : Points} {p : ℕ} {rs : List Reached} {N : Points} → Search at M p rs N → Within G M → Closed G M →
      (q : ℕ) (c d : Code) → In q c rs → Stretch at G p q d → Earlier d c → ⊥
  search_earliest G (marked h) w cl q c d i t e = i
  search_earliest G (found f s) w cl q c d (inl e) t l = nil_earliest d (rw e.1 at l)
  search_earliest G (found f s) w cl q c d (inr i) t l = i
  search_earliest G {M} {p} (passed f e s) w cl q c d i t l =
      search_earliest (add p G) s (within_add G M p w) (closed_add G M p cl) q c d i (at_text e t) l
  search_earliest G {M} {p} (forked {N = N} {a = a} {b = b} {rs = rs} {ss = ss} f e s t) w cl q c d i u l =
      let w₁ = within_add G M p w in
      let c₁ = closed_add G M p cl in
      let w₂ : Within (add p G) N = λ k g. search_keeps s k (w₁ k g) in
      let c₂ = search_closed (add p G) s w₁ c₁ in
      elim (in_either q c (after (first_branch ∷ []) rs) (after (second_branch ∷ []) ss) i) [
        | inl j ↦
            let x = in_before q c (first_branch ∷ []) rs j in
            elim (at_fork e u) [
              | inl h ↦ search_earliest (add p G) s w₁ c₁ q x.0 h.0 x.2 h.2 (earlier_cancel (first_branch ∷ []) h.0 x.0 (rw (x.1, h.1) at l))
              | inr h ↦ no_second h.0 x.0 (rw (x.1, h.1) at l)
            ]
        | inr j ↦
            let x = in_before q c (second_branch ∷ []) ss j in
            elim (at_fork e u) [
              | inl h ↦ never_both (closed_ends (add p G) N c₂ (λ k g. g) (search_marks s) h.2) (search_sound (add p G) t w₂ q x.0 x.2).0
              | inr h ↦ search_earliest (add p G) t w₂ c₂ q x.0 h.0 x.2 h.2 (earlier_cancel (second_branch ∷ []) h.0 x.0 (rw (x.1, h.1) at l))
            ]
      ]
