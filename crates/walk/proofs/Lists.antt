-- The list of the live walks, at first and after each symbol.
use Rattle.std.proofs.Common.{◌≡◌, ℕ, List, [], ◌∷◌, ◌++◌, refl, inl, inr, append_assoc}
use Rattle.alphabet.specs.Meaning.{Meaning}
use Rattle.alphabet.specs.Items.{read_item}
use Rattle.pattern.specs.declared.step.Step.{Step}
use Rattle.walk.specs.Graphs.{Points, none}
use Rattle.walk.specs.Codes.{Code, Earlier}
use Rattle.walk.specs.Walks.{Allowed, Live}
use Rattle.walk.proofs.Stages.{Stretch, Staged, last}
use Rattle.walk.specs.Search.{Reached, In, Ordered, Search, Sweep}
use Rattle.walk.proofs.Order.{never_both, earlier_trans, earlier_grows}
use Rattle.walk.proofs.Stretches.{Closed, closed_ends, search_marks, search_closed, search_sound, search_complete, search_ordered, search_earliest, ends_resting}
use Rattle.walk.proofs.Parting.{compare}
use Rattle.walk.proofs.Pieces.{to_staged, from_staged}
use Rattle.walk.proofs.Walking.{onward, extend, walk_rests}
use Rattle.walk.proofs.Sweeps.{Source, sweep_closed, sweep_marks, sweep_complete, sweep_sound, sweep_ordered, sweep_earliest}

below : (b b' x y d c : Code) → d ≡ b ++ (x ++ y) → Earlier b' b → Earlier d c → Earlier ((b' ++ x) ++ y) c
below b b' x y d c e f l =
    earlier_trans ((b' ++ x) ++ y) d c (rw (append_assoc b' x y, e) (earlier_grows b' b (x ++ y) (x ++ y) f)) l

beside : (b b' x y d c : Code) → d ≡ b ++ (x ++ y) → b' ≡ b → Earlier d c → Earlier ((b' ++ x) ++ y) c
beside b b' x y d c e f l = rw (append_assoc b' x y, f, ← e) l

module _ {Symbol : Type 0} (L : Meaning Symbol) (at : ℕ → Step) where
  pub nothing_closed : Closed at none none
  unfolding Closed
  nothing_closed p k m g l = absurd (never_both m refl)

  one_stretch : {p q : ℕ} {c : Code} → Staged L at [] p q c → Stretch at none p q c
  one_stretch (last s) = s

  module _ (from : ℕ) where
    pub record Lists (w : List Symbol) (ls : List Reached) : Type 0 where
      pub sound : (q : ℕ) (c : Code) → In q c ls → Live L at from w q c
      pub complete : (q : ℕ) (c : Code) → Allowed L at from w q c → (d : Code) × In q d ls
      pub ordered : Ordered ls

    -- a point has one live walk
    pub live_one : (w : List Symbol) (q : ℕ) (c d : Code) → Live L at from w q c → Live L at from w q d → c ≡ d
    live_one w q c d x y =
        elim (compare L at x.0 y.0) [
          | inl e ↦ absurd (y.1 c x.0 e)
          | inr (inl e) ↦ absurd (x.1 d y.0 e)
          | inr (inr e) ↦ e.1
        ]

    pub lists_all : (w : List Symbol) (ls : List Reached) → Lists w ls → (q : ℕ) (c : Code) → Live L at from w q c → In q c ls
    lists_all w ls h q c l =
        let i = h.complete q c l.0 in
        rw (live_one w q c i.0 l (h.sound q i.0 i.1)) i.1

    pub lists_first : (rs : List Reached) (N : Points) → Search at none from rs N → Lists [] rs
    lists_first rs N s = record {
      sound = λ q c i. (
        from_staged L at (last (search_sound at none s (λ k h. h) q c i).2),
        λ d t e. search_earliest at none s (λ k h. h) nothing_closed q c d i (one_stretch (to_staged L at t)) e,
      );
      complete = λ q c t. search_complete at s q (ends_resting at (one_stretch (to_staged L at t))) refl
          (closed_ends at none N (search_closed at none s (λ k h. h) nothing_closed) (λ k h. h) (search_marks at s) (one_stretch (to_staged L at t)));
      ordered = search_ordered at s;
    }

    pub lists_next : (w : List Symbol) (a : Symbol) (ls rs : List Reached) (N : Points) → Lists w ls → Sweep L at a none ls rs N → Lists (w ++ (a ∷ [])) rs
    lists_next w a ls rs N h s = record { sound = λ q c i. (goes q c i, least q c i); complete = full; ordered = sweep_ordered L at a s h.ordered }
      where
        goes : (q : ℕ) (c : Code) → In q c rs → Allowed L at from (w ++ (a ∷ [])) q c
        goes q c i =
            let z = (sweep_sound L at a s q c i).1 in
            rw (z.code, append_assoc z.before (read_item (L.number a) ∷ []) z.behind)
            (from_staged L at (extend L at a z.class z.next q z.behind (to_staged L at (h.sound z.via z.before z.old).0) z.is z.takes z.stretch))

        least : (q : ℕ) (c : Code) → In q c rs → (d : Code) → Allowed L at from (w ++ (a ∷ [])) q d → Earlier d c → ⊥
        least q c i d t e =
            let o = onward L at w a (to_staged L at t) in
            let j = h.complete o.via o.before (from_staged L at o.walk) in
            let x : Code = read_item (L.number a) ∷ [] in
            let z : Source L at a ls q ((j.0 ++ x) ++ o.behind) = record {
              via = o.via;
              before = j.0;
              class = o.class;
              next = o.next;
              behind = o.behind;
              old = j.1;
              is = o.is;
              takes = o.takes;
              stretch = o.stretch;
              code = refl;
            } in
            let no = sweep_earliest L at a s h.ordered nothing_closed q c ((j.0 ++ x) ++ o.behind) i z in
            elim (compare L at (h.sound o.via j.0 j.1).0 (from_staged L at o.walk)) [
              | inl f ↦ no (below o.before j.0 x o.behind d c o.code f e)
              | inr (inl f) ↦ (h.sound o.via j.0 j.1).1 o.before (from_staged L at o.walk) f
              | inr (inr f) ↦ no (beside o.before j.0 x o.behind d c o.code f.1 e)
            ]

        full : (q : ℕ) (c : Code) → Allowed L at from (w ++ (a ∷ [])) q c → (d : Code) × In q d rs
        full q c t =
            let o = onward L at w a (to_staged L at t) in
            let j = h.complete o.via o.before (from_staged L at o.walk) in
            sweep_complete L at a s q (walk_rests L at (to_staged L at t)) refl
            (closed_ends at none N (sweep_closed L at a s nothing_closed) (λ k g. g)
            (sweep_marks L at a s o.via j.0 o.class o.next j.1 o.is o.takes) o.stretch)
