-- Stages that stand.
use Rattle.std.proofs.Common.{◌≡◌, ℕ, ◌<◌, List, [], ◌∷◌, ◌++◌, length, Some, None, sym, refl, ap, ◌∙◌, subst, inl, append_assoc, append-nil, arith, length-append}
use Rattle.fault.specs.declared.refusal.Fault.{Fault}
use Rattle.alphabet.specs.Meaning.{Meaning}
use Rattle.pattern.specs.declared.pattern.Pattern.{Pattern}
use Rattle.pattern.specs.Patterns.{entry_of}
use Rattle.walk.specs.Graphs.{graph_of}
use Rattle.walk.specs.Codes.{Code, Begins}
use Rattle.walk.specs.Walks.{Allowed, NoLive}
use Rattle.walk.specs.Search.{Reached, In, after}
use Rattle.walk.specs.Tree.{Member}
use Rattle.walk.proofs.Sharing.{begins_both}
use Rattle.walk.proofs.Ends.{shared_begins}
use Rattle.reader.specs.declared.state.Core.{Core}
use Rattle.reader.specs.Reading.{StateOf as ReadingOf, TooBig}
use Rattle.run.specs.Words.{end_of, Lives, Shares, Accepts, CodesAs, Hopeful}
use Rattle.run.specs.Sinks.{Standing}
use Rattle.run.specs.Stages.{Stands}
use Rattle.run.proofs.Patterned.{greedy_of}

begins_after : (g s h : Code) → Begins g s → Begins s h → Begins g h
begins_after g s h a b = (b.0 ++ a.0, a.1 ∙ ap (λ (x : Code). x ++ a.0) b.1 ∙ append_assoc h b.0 a.0)

module _ {S : Type 0} (L : Meaning S) (p : Pattern) where
  -- what is shared is one code, and there is none where no walk is live
  pub shares_one : (w : List S) (s t : Code) → Shares L p w s → Shares L p w t → s ≡ t
  shares_one w s t a b = begins_both s t (b.1 s a.0) (a.1 t b.0)

  none_shared : (w : List S) (g : Code) → NoLive L (graph_of p) (entry_of p) w → Shares L p w g → ⊥
  none_shared w g n a =
      let b = a.1 (g ++ (0 ∷ [])) (λ q c l. absurd (n q c l)) in
      let e = ap length b.1 in
      let k = length-append (g ++ (0 ∷ [])) b.0 in
      let m = length-append g (0 ∷ []) in
      omega (arith, e, k, m)

  -- a walk is live in every reading
  live_in : (w : List S) (h : Code) (rs : List Reached) → Shares L p w h →
      ((q : ℕ) (c : Code) → In q c (after h rs) → Lives L p w q c) →
      ((q : ℕ) (c : Code) → Allowed L (graph_of p) (entry_of p) w q c → (d : Code) × In q d (after h rs)) → (q : ℕ) × ((c : Code) × Lives L p w q c)
  live_in w h [] sh sound complete = absurd (none_shared w h (λ q c l. (complete q c l.0).1) sh)
  live_in w h (r ∷ rs) sh sound complete = (r.point, (h ++ r.code, sound r.point (h ++ r.code) (inl (refl, refl))))

  pub live_of : (s : Core) (w : List S) (h : Code) → ReadingOf L p s w h → (q : ℕ) × ((c : Code) × Lives L p w q c)
  live_of s w h R = live_in w h R.walks R.shared R.lists.sound R.lists.complete

  -- and where the tree counts too many
  some_member : (ts : List Code) → 0 < length ts → (t : Code) × Member t ts
  some_member [] h = absurd (omega arith)
  some_member (t ∷ ts) h = (t, inl refl)

  pub live_big : (w : List S) → TooBig L p w → (q : ℕ) × ((c : Code) × Lives L p w q c)
  live_big w B =
      let o = B.over in
      let e = B.counts.3 in
      let m = some_member B.counts.0 (omega (arith, o, e)) in
      let n = (B.counts.2 m.0).0 m.1 in
      (n.1.0, (B.common ++ n.1.1.0, n.1.1.1))

  -- what is handed over is foreseen, where it begins what is shared
  foreseen_if : (w : List S) (s h : Code) → Shares L p w s → Begins s h → (u : List S) → Accepts L p (w ++ u) → (g : Code) × CodesAs L p (w ++ u) g × Begins g h
  foreseen_if w s h sh b u a =
      let g = greedy_of p L (w ++ u) a in
      (g.0, g.1, begins_after g.0 s h (shared_begins L (graph_of p) (entry_of p) (end_of p) w u s g.0 sh g.1) b)

  module _ {P : Type 0} (t : Standing P) where
    -- an open stage
    pub stands_open : (w : List S) (h : Code) → Shares L p w h → Hopeful L p w → Stands L p (record { read = w; handed = h; fault = None; sink = t })
    stands_open w h sh hope =
        record {
          exact = λ _. sh;
          hopeful = λ _. hope;
          beginning = λ s k. ([], shares_one w s h k sh ∙ sym (append-nil h));
          foreseen = foreseen_if w h h sh ([], sym (append-nil h));
        }

    -- a failed stage, whose items begin what is shared
    pub stands_failed : (w : List S) (h : Code) (f : Fault) (s : Code) → Shares L p w s → Begins s h → Stands L p (record { read = w; handed = h; fault = Some f; sink = t })
    stands_failed w h f s sh b =
        record {
          exact = λ n. cc;
          hopeful = λ n. cc;
          beginning = λ g k. subst (λ (x : Code). Begins x h) (shares_one w s g sh k) b;
          foreseen = foreseen_if w s h sh b;
        }

    -- a failed stage with nothing handed over
    pub stands_nothing : (w : List S) (f : Fault) → Stands L p (record { read = w; handed = []; fault = Some f; sink = t })
    stands_nothing w f =
        record {
          exact = λ n. cc;
          hopeful = λ n. cc;
          beginning = λ s k. (s, refl);
          foreseen = λ u a. let g = greedy_of p L (w ++ u) a in (g.0, g.1, (g.0, refl));
        }
