-- One step of a sweep.
use Rattle.std.proofs.Common.{◌≡◌, ℕ, suc, ◌+◌, ◌<◌, ◌≤◌, false, List, [], ◌∷◌, ◌++◌, length, get_or, drop, replicate, Some, None, sym, refl, ap, ◌∙◌, subst, append_assoc, append-nil, arith}
use Rattle.std.proofs.lemmas.List.{drop_more}
use Rattle.alphabet.specs.Meaning.{Meaning}
use Rattle.alphabet.specs.Items.{read_item}
use Rattle.pattern.specs.declared.pattern.Pattern.{Pattern}
use Rattle.pattern.specs.declared.step.Step.{Step}
use Rattle.pattern.specs.declared.step.Step.TheVariants.{Read}
use Rattle.point_set.specs.Members.{members, point_count}
use Rattle.walk.specs.Graphs.{graph_of, Points, none}
use Rattle.walk.specs.Codes.{Code}
use Rattle.walk.specs.Search.{Reached, after, Sweep, done, taken, dropped}
use Rattle.tree.specs.declared.paths.PathTree.{PathTree}
use Rattle.tree.specs.Held.{Added, Released, room}
use Rattle.reader.specs.declared.state.Walk.{Walk}
use Rattle.reader.specs.declared.state.traversal.Traversal.{Traversal}
use Rattle.reader.specs.declared.state.traversal.Onward.{Onward}
use Rattle.reader.specs.Marks.{marked}
use Rattle.reader.specs.Spread.{Under, Spread}
use Rattle.reader.specs.State.{State, Standing, Spare, step_space}
use Rattle.reader.specs.Sweeping.{Goes, Partway, SomeWay, LeadsOn, Swept}
use Rattle.reader.proofs.Basics.{no_marks, unmarked_bound, under_length}
use Rattle.reader.proofs.Spreading.{planted}
use Rattle.reader.proofs.Carrying.{First, first, point_is, let_go, carried, spared}

-- at the end of the line no walk is left
pub none_left : (t : PathTree) (ws : List Walk) (rest : List Reached) → ws ≡ [] → Under t [] ws rest → rest ≡ []
none_left t [] [] e u = refl
none_left t [] (r ∷ rest) e u = absurd u
none_left t (w ∷ ws) rest e u = let z = ap length e in absurd (omega (arith, z))

pub sweep_append : {Symbol : Type 0} {L : Meaning Symbol} {at : ℕ → Step} {a : Symbol} {M : Points} {ls rs : List Reached} {N : Points} →
    Sweep L at a M ls rs N → {ks ss : List Reached} {O : Points} → Sweep L at a N ks ss O → Sweep L at a M (ls ++ ks) (rs ++ ss) O
sweep_append done u = u
sweep_append {L = L} {at = at} {a = a} {M} (taken {r = r} {ls = ls} {rs = rs} {ss = ts} e b s t) {ks = ks} {ss = ss} {O = O} u =
    subst (λ (x : List Reached). Sweep L at a M (r ∷ (ls ++ ks)) x O) (sym (append_assoc (after (r.code ++ (read_item (L.number a) ∷ [])) rs) ts ss)) (taken e b s (sweep_append t u))
sweep_append (dropped f t) u = dropped f (sweep_append t u)

pub more_done : (ls d rest : List Reached) (r : Reached) (tail : List Reached) → ls ≡ d ++ rest → rest ≡ r ∷ tail → ls ≡ (d ++ (r ∷ [])) ++ tail
more_done ls d rest r tail e f = e ∙ ap (λ (z : List Reached). d ++ z) f ∙ sym (append_assoc d (r ∷ []) tail)

module _ {Symbol : Type 0} (L : Meaning Symbol) (a : Symbol) (pattern : Pattern) where
  -- no walk is done with yet
  pub begun : {s : Traversal} {live to_go : List Walk} {walks : List Reached} → members s.marks ≡ replicate point_count false → s.found.items ≡ [] →
      to_go ≡ live → length to_go ≤ point_count → step_space ≤ room s.tree → Standing s.tree live walks → Partway L a pattern s to_go walks
  begun {s} {live} {to_go} {walks} m f e l h S =
      let b = unmarked_bound s.marks in
      let u = subst (λ (ws : List Walk). Under s.tree [] ws walks) (sym e) S.to_go in
      let n = under_length s.tree [] to_go walks u in
      let z = ap length f in
      record {
        done = [];
        rest = walks;
        news = [];
        all = refl;
        sweep = subst (λ (N : Points). Sweep L (graph_of pattern) a none [] [] N) (sym (no_marks s.marks m)) done;
        state = record { made = subst (λ (ws : List Walk). Under s.tree [] ws []) (sym f) tt; to_go = u; only = S.only; ordered = S.ordered };
        spare = record { space = omega (arith, b, n, l, h); spots = omega (arith, b, z) };
      }

  -- the next walk stands first
  pub to_next : {s : Traversal} (live : List Walk) (i : ℕ) (v : Walk) {ls : List Reached} → i < length live → Partway L a pattern s (drop i live) ls → Partway L a pattern s (get_or live i v ∷ drop (i + 1) live) ls
  to_next {s} live i v {ls} h P = subst (λ (ws : List Walk). Partway L a pattern s ws ls) (drop_more live i v h) P

  -- all are
  pub swept : {s : Traversal} {live : List Walk} {ls : List Reached} → live ≡ [] → Partway L a pattern s live ls → Swept L a pattern s ls
  swept {s} {live} {ls} e P =
      let q = none_left s.tree live P.rest e P.state.to_go in
      let d : P.done ≡ ls = sym (P.all ∙ ap (λ (x : List Reached). P.done ++ x) q ∙ append-nil P.done) in
      record {
        news = P.news;
        sweep = subst (λ (x : List Reached). Sweep L (graph_of pattern) a none x P.news (marked s.marks)) d P.sweep;
        state = subst (λ (x : List Reached). State s.tree s.found.items [] P.news x) q (subst (λ (ws : List Walk). State s.tree s.found.items ws P.news P.rest) e P.state);
      }

  module _ {s : Traversal} {v : Walk} where
    -- the first of the walks to go
    pub next_of : (w : SomeWay L a pattern s v) → First s.tree s.found.items v w.0 w.1.1.news w.1.1.rest
    next_of w = first w.1.1.state

    pub next_spare : (w : SomeWay L a pattern s v) → Spare s (suc (length (next_of w).tail))
    next_spare w = subst (λ (z : List Reached). Spare s (length z)) (next_of w).is w.1.1.spare

    -- it reads the symbol and goes on
    pub goes_on : {o : Onward} → Goes L a pattern v.point (Some o) → {t1 : PathTree} {h : ℕ} → Added s.tree v.slot o.item h t1 →
        {t2 : PathTree} → Released t1 v.slot t2 → {s' : Traversal} → Spread pattern (planted s t2) o.next h s' → LeadsOn L a pattern s v s'
    goes_on {o} g {t1} {h} E {t2} D {s'} X live ls P =
        let F = first P.state in
        let r = F.head in
        let x : Code = r.code ++ (read_item (L.number a) ∷ []) in
        let e' : graph_of pattern r.point ≡ Read g.0 o.next = subst (λ (p : ℕ). graph_of pattern p ≡ Read g.0 o.next) (point_is F.state) g.1 in
        record {
          done = P.done ++ (r ∷ []);
          rest = F.tail;
          news = P.news ++ after x X.walks;
          all = more_done ls P.done P.rest r F.tail P.all F.is;
          sweep = subst (λ (z : List Reached). Sweep L (graph_of pattern) a none (P.done ++ (r ∷ [])) (P.news ++ z) (marked s'.marks)) (append-nil (after x X.walks))
              (sweep_append P.sweep (taken e' g.2 X.search done));
          state = subst (λ (z : ℕ). State s'.tree s'.found.items live (P.news ++ after (r.code ++ (z ∷ [])) X.walks) F.tail) g.3 (carried F.state s.marks E D X);
          spare = spared F.state s.marks E D X (subst (λ (z : List Reached). Spare s (length z)) F.is P.spare);
        }

    -- it is let go
    pub stays_back : Goes L a pattern v.point None → {t' : PathTree} → Released s.tree v.slot t' → LeadsOn L a pattern s v (planted s t')
    stays_back n {t'} D live ls P =
        let F = first P.state in
        let r = F.head in
        let p = point_is F.state in
        record {
          done = P.done ++ (r ∷ []);
          rest = F.tail;
          news = P.news;
          all = more_done ls P.done P.rest r F.tail P.all F.is;
          sweep = subst (λ (z : List Reached). Sweep L (graph_of pattern) a none (P.done ++ (r ∷ [])) z (marked s.marks)) (append-nil P.news)
              (sweep_append P.sweep (dropped (λ class k e b. n class k (subst (λ (j : ℕ). graph_of pattern j ≡ Read class k) (sym p) e) b) done));
          state = let_go F.state D;
          spare = less (subst (λ (z : List Reached). Spare s (length z)) F.is P.spare);
        }
      where
        less : {n : ℕ} → Spare s (suc n) → Spare (planted s t') n
        less {n} Z = let a = Z.space in let m = D.left in record { space = omega (arith, a, m); spots = Z.spots }
