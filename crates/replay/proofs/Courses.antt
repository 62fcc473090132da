-- The calls of a playback in turn.
use Rattle.std.proofs.Common.{◌≡◌, ℕ, ◌+◌, Bool, true, false, [], ◌∷◌, ◌++◌, Some, None, Ok, Err, Option, Result, sym, refl, ap, ◌∙◌, subst, inl, inr, append_assoc, append-nil, arith}
use Rattle.fault.specs.declared.refusal.Fault.{Fault}
use Rattle.fault.specs.declared.cause.Cause.TheVariants.{NotAWalk}
use Rattle.alphabet.specs.Meaning.{Meaning as Letters, Lawful}
use Rattle.pattern.specs.declared.step.Step.{Step}
use Rattle.pattern.specs.declared.pattern.Pattern.{Pattern}
use Rattle.walk.specs.Codes.{Code}
use Rattle.walk.proofs.Order.{never_both}
use Rattle.sink.specs.Meaning.{Meaning, Stocks}
use Rattle.walk.specs.Graphs.{graph_of}
use Rattle.replay.specs.declared.played.Played.{Played}
use Rattle.replay.specs.declared.played.Played.TheVariants as played
use Rattle.replay.specs.Tracing.{Verdict, complete, broken}
use Rattle.replay.specs.Outcome.{placed, reads_in}
use Rattle.replay.specs.Playing.{Stand, opened, LeftBy, Left, LeftSome, Tells, HandsOver, Breaks, Refuses, Plays}
use Rattle.replay.specs.Courses.{items_of, Course, still, call, PlaybackAgrees, BreaksForGood, ItemStays}
use Rattle.replay.proofs.Turning.{bit_not_read, symbol_read}

reads_of : (c d : Code) → reads_in (c ++ d) ≡ reads_in c + reads_in d
reads_of [] d = omega arith
reads_of (i ∷ c) d = let h = reads_of c d in omega (arith, h)

never_cons : {X : Type 0} (i : ℕ) (c : Code) → ◌≡◌ {A = Code} [] (i ∷ c) → X
never_cons i c e = let z : ◌≡◌ {A = ℕ} 0 1 = cc in absurd (omega arith)

first_same : (i j : ℕ) (c d : Code) → ◌≡◌ {A = Code} (i ∷ c) (j ∷ d) → i ≡ j
first_same i j c d e = cc

module _ {Symbol : Type 0} (L : Letters Symbol) (at : ℕ → Step) (m : Meaning) where
  -- one call: what is left before it is what it hands over, and what is left then
  call_leads : (t t' : Stand Symbol) (q q' : m.Position) (s s' : Stocks) (r : Result (Option Played) Fault) (x : Plays L at m t q s r t' q' s') (c : Code) (v : Verdict) →
      Left L at t' c v → Left L at t (items_of L at m t q s r t' q' s' x ++ c) v
  call_leads t t' q q' s s' (Ok None) x c v y = subst (λ (u : Stand Symbol). Left L at u c v) x.same y
  call_leads t t' q q' s s' (Ok (Some p)) x c v y = x.leads c v y
  call_leads t t' q q' s s' (Err f) (inl x) c v y = (x.passed.same c v).1 y
  call_leads t t' q q' s s' (Err f) (inr x) c v y = (x.passed.same c v).1 y

  call_leaves : (t t' : Stand Symbol) (q q' : m.Position) (s s' : Stocks) (r : Result (Option Played) Fault) (x : Plays L at m t q s r t' q' s') (c : Code) (v : Verdict) →
      Left L at t c v → (d : Code) × (c ≡ items_of L at m t q s r t' q' s' x ++ d) × Left L at t' d v
  call_leaves t t' q q' s s' (Ok None) x c v y = (c, refl, subst (λ (u : Stand Symbol). Left L at u c v) (sym x.same) y)
  call_leaves t t' q q' s s' (Ok (Some p)) x c v y = x.leaves c v y
  call_leaves t t' q q' s s' (Err f) (inl x) c v y = (c, refl, (x.passed.same c v).0 y)
  call_leaves t t' q q' s s' (Err f) (inr x) c v y = (c, refl, (x.passed.same c v).0 y)

  pub course_leads : {t t' : Stand Symbol} {d : Code} → Course L at m t d t' → (c : Code) (v : Verdict) → Left L at t' c v → Left L at t (d ++ c) v
  course_leads still c v y = y
  course_leads {t = t} (call {t' = t'} {c = d} q q' s s' r x k) c v y =
      subst (λ (e : Code). Left L at t e v) (sym (append_assoc (items_of L at m t q s r t' q' s' x) d c))
      (call_leads t t' q q' s s' r x (d ++ c) v (course_leads k c v y))

  pub course_leaves : {t t' : Stand Symbol} {d : Code} → Course L at m t d t' → (c : Code) (v : Verdict) → Left L at t c v → (e : Code) × (c ≡ d ++ e) × Left L at t' e v
  course_leaves still c v y = (c, refl, y)
  course_leaves {t = t} (call {t' = t'} {c = d} q q' s s' r x k) c v y =
      let i = items_of L at m t q s r t' q' s' x in
      let h = call_leaves t t' q q' s s' r x c v y in
      let j = course_leaves k h.0 v h.2 in
      (j.0, h.1 ∙ ap (λ (e : Code). i ++ e) j.1 ∙ sym (append_assoc i d j.0), j.2)

  -- the symbols read
  module _ (law : Lawful L) where
    pub told_count : (x : Played) (t t' : Stand Symbol) (i : ℕ) → Tells L at x t i t' → t'.read ≡ t.read + reads_in (i ∷ [])
    told_count (played.Branch p b) t t' i h = omega (arith, h.1.read, ap (λ (j : ℕ). reads_in (j ∷ [])) h.1.item, bit_not_read b)
    told_count (played.Read p) t t' i h =
        let y = h.1 in
        omega (arith, y.read, ap (λ (j : ℕ). reads_in (j ∷ [])) y.item, symbol_read (L.number y.symbol) (law.small y.class y.symbol y.belongs))
    told_count played.End t t' i h = omega (arith, h.read, ap (λ (j : ℕ). reads_in (j ∷ [])) h.item)

    call_count : (t t' : Stand Symbol) (q q' : m.Position) (s s' : Stocks) (r : Result (Option Played) Fault) (x : Plays L at m t q s r t' q' s') →
        t'.read ≡ t.read + reads_in (items_of L at m t q s r t' q' s' x)
    call_count t t' q q' s s' (Ok None) x = ap (λ (u : Stand Symbol). u.read) x.same ∙ omega arith
    call_count t t' q q' s s' (Ok (Some p)) x = told_count p x.there t' x.item x.tells ∙ ap (λ (n : ℕ). n + reads_in (x.item ∷ [])) x.passed.read
    call_count t t' q q' s s' (Err f) (inl x) = x.passed.read ∙ omega arith
    call_count t t' q q' s s' (Err f) (inr x) = x.passed.read ∙ omega arith

    course_count : {t t' : Stand Symbol} {d : Code} → Course L at m t d t' → t'.read ≡ t.read + reads_in d
    course_count still = omega arith
    course_count {t = t} (call {t' = t'} {c = d} q q' s s' r x k) =
        let i = items_of L at m t q s r t' q' s' x in
        omega (arith, course_count k, call_count t t' q q' s s' r x, reads_of i d)

  -- nothing is left for good
  pub breaks_again : (t t' t'' : Stand Symbol) (q q' p p' : m.Position) (s s' z z' : Stocks) (f : Fault) (r : Result (Option Played) Fault) →
      Breaks L at m t q s f t' q' s' → Plays L at m t' p z r t'' p' z' → r ≡ Err f
  breaks_again t t' t'' q q' p p' s s' z z' f (Ok None) x y = absurd (never_both y.ended (x.passed.ended ∙ x.going))
  breaks_again t t' t'' q q' p p' s s' z z' f (Ok (Some e)) x y = let h = y.leaves [] broken ((x.passed.same [] broken).0 x.left) in never_cons y.item h.0 h.1
  breaks_again t t' t'' q q' p p' s s' z z' f (Err g) x (inl y) = ap Err (y.fault ∙ ap (placed NotAWalk) x.passed.read ∙ sym x.fault)
  breaks_again t t' t'' q q' p p' s s' z z' f (Err g) x (inr y) = let h = y.first [] broken ((x.passed.same [] broken).0 x.left) in never_cons y.item h.0 h.1

  pub item_again : (t t' t'' : Stand Symbol) (q q' p p' : m.Position) (s s' z z' : Stocks) (f : Fault) (y : Played) → LeftSome L at t →
      (x : Refuses L at m t q s f t' q' s') (h : HandsOver L at m t' p z y t'' p' z') → h.item ≡ x.item
  item_again t t' t'' q q' p p' s s' z z' f y some x h =
      let c = some.0 in
      let d = x.first c some.1 some.2 in
      let e = h.leaves c some.1 ((x.passed.same c some.1).0 some.2) in
      first_same h.item x.item e.0 d.0 (sym e.1 ∙ d.1)

  pub left_ended : (b : Bool) (t : Stand Symbol) → b ≡ true → LeftBy L at b t [] complete
  left_ended true t e = (refl, refl)
  left_ended false t e = absurd (never_both e refl)

module _ {Symbol : Type 0} (L : Letters Symbol) (law : Lawful L) (P : Pattern) (m : Meaning) where
  pub playback_agrees : PlaybackAgrees L P m
  playback_agrees bytes w d t k = record {
    begins = course_leaves L (graph_of P) m k;
    ended = λ e. subst (λ (c : Code). Left L (graph_of P) (opened P bytes w) c complete) (append-nil d) (course_leads L (graph_of P) m k [] complete (left_ended L (graph_of P) m t.ended t e));
    breaks = λ q q' s s' f t' x. subst (λ (c : Code). Left L (graph_of P) (opened P bytes w) c broken) (append-nil d) (course_leads L (graph_of P) m k [] broken x.left);
    count = course_count L (graph_of P) m law k ∙ omega arith;
  }

  pub breaks_for_good : BreaksForGood L P m
  breaks_for_good = breaks_again L (graph_of P) m

  pub item_stays : ItemStays L P m
  item_stays = item_again L (graph_of P) m
