-- From every point the end can be reached, so a symbol is dead exactly where no live walk is left.
use Rattle.std.proofs.Common.{◌≡◌, ℕ, suc, ◌+◌, ◌<◌, ◌≤◌, true, ◌↔◌, List, [], ◌∷◌, ◌++◌, refl, ap, subst, inl, inr, arith}
use native.Mathlib.Decide.{dec_lt}
use Rattle.std.proofs.lemmas.Option.{slice_get_past}
use Rattle.alphabet.specs.Meaning.{Meaning}
use Rattle.alphabet.specs.Items.{read_item}
use Rattle.pattern.specs.declared.step.Step.{Step}
use Rattle.pattern.specs.declared.step.Step.TheVariants.{Read, End}
use Rattle.pattern.specs.Expressions.{Expr, empty, read, text, seq, alt, star, size}
use Rattle.pattern.specs.Points.{entry, points, start, step_of}
use Rattle.pattern.proofs.Tables.{length_table}
use Rattle.pattern.proofs.Links.{entry_le}
use Rattle.walk.specs.Graphs.{Points, rests, none, steps, ClassesBelow}
use Rattle.walk.specs.Codes.{Code}
use Rattle.walk.specs.Walks.{Allowed, Live, Accepted, Dead, NoLive}
use Rattle.walk.proofs.Stages.{Stretch, stop, pass, first, second, Staged, last, reads}
use Rattle.walk.specs.Search.{seek}
use Rattle.walk.proofs.Stretches.{Leads, Closed, closed_ends, search_marks, search_closed, search_sound, search_complete, ends_resting}
use Rattle.walk.proofs.Pieces.{to_staged, from_staged}
use Rattle.walk.proofs.Walking.{walk_rests}
use Rattle.walk.proofs.Lists.{nothing_closed}
use Rattle.walk.proofs.Ends.{Tail, ended, more, split, join}
use Rattle.walk.proofs.Fuel.{seek_enough, lives_list}
use Rattle.walk.proofs.Laying.{Laid, steps_laid, To, leads_bound}

module _ {Symbol : Type 0} (L : Meaning Symbol) (at : ℕ → Step) where
  -- a walk that may come to a point again
  data Route : List Symbol → ℕ → ℕ → Type 0 where
    here : {p : ℕ} → Route [] p p
    free : {u : List Symbol} {p k q : ℕ} → Leads at p k → Route u k q → Route u p q
    reading : {a : Symbol} {u : List Symbol} {p k q class : ℕ} → at p ≡ Read class k → L.belongs class a ≡ true → Route u k q → Route (a ∷ u) p q

  onto : {u v : List Symbol} {p q r : ℕ} → Route u p q → Route v q r → Route (u ++ v) p r
  onto here y = y
  onto (free l x) y = free l (onto x y)
  onto (reading e b x) y = reading e b (onto x y)

  Way : ℕ → ℕ → Type 0
  Way p q = (u : List Symbol) × Route u p q

  then : (p q r : ℕ) → Way p q → Way q r → Way p r
  unfolding Way
  then p q r x y = (x.0 ++ y.0, onto x.1 y.1)

  module _ (below : ClassesBelow L.classes at) (some : (class : ℕ) → class < L.classes → (a : Symbol) × (L.belongs class a ≡ true)) where
    from_entry : (e : Expr) (b k : ℕ) → Laid at e b k → Way (entry e b k) k
    unfolding Way Leads
    from_entry empty b k d = ([], here)
    from_entry (read keep class) b k d = let s = some class (below b class k d) in (s.0 ∷ [], reading d s.1 here)
    from_entry (text bytes) b k d = ([], free (inl d) here)
    from_entry (seq E F) b k d =
        then (entry E b (entry F (b + size E) k)) (entry F (b + size E) k) k
        (from_entry E b (entry F (b + size E) k) d.0) (from_entry F (b + size E) k d.1)
    from_entry (alt E F) b k d = let x = from_entry E b k d.0 in (x.0, free (inr (inl (entry F (b + size E) k, d.2))) x.1)
    from_entry (star E) b k d = ([], free (inr (inr (entry E b (b + size E), d.1))) here)

    from_point : (e : Expr) (b k : ℕ) → Laid at e b k → (p : ℕ) → b ≤ p → p < b + size e → Way p k
    from_point empty b k d p x y = absurd (omega arith)
    from_point (read keep class) b k d p x y = let e : b ≡ p = omega arith in subst (λ z. Way z k) e (from_entry (read keep class) b k d)
    from_point (text bytes) b k d p x y = let e : b ≡ p = omega arith in subst (λ z. Way z k) e (from_entry (text bytes) b k d)
    from_point (seq E F) b k d p x y =
        elim (dec_lt p (b + size E)) [
          | yes z ↦ then p (entry F (b + size E) k) k (from_point E b (entry F (b + size E) k) d.0 p x z) (from_entry F (b + size E) k d.1)
          | no z ↦ from_point F (b + size E) k d.1 p (omega arith) (omega arith)
        ]
    from_point (alt E F) b k d p x y =
        elim (dec_lt p (b + size E)) [
          | yes z ↦ from_point E b k d.0 p x z
          | no z ↦ elim (dec_lt p (b + (size E + size F))) [
            | yes w ↦ from_point F (b + size E) k d.1 p (omega arith) (omega arith)
            | no w ↦ let e : b + (size E + size F) ≡ p = omega arith in subst (λ z. Way z k) e (from_entry (alt E F) b k d)
          ]
        ]
    from_point (star E) b k d p x y =
        elim (dec_lt p (b + size E)) [
          | yes z ↦ then p (b + size E) k (from_point E b (b + size E) d.0 p x z) (from_entry (star E) b k d)
          | no z ↦ let e : b + size E ≡ p = omega arith in subst (λ z. Way z k) e (from_entry (star E) b k d)
        ]

  module _ (n : ℕ) (inside : (p l : ℕ) → To (at p) l → l < n) where
    pub leads_inside : (p k : ℕ) → Leads at p k → k < n
    unfolding Leads
    leads_inside p k (inl h) = inside p k (rw h refl)
    leads_inside p k (inr (inl h)) = inside p k (rw h.1 (inl refl))
    leads_inside p k (inr (inr h)) = inside p k (rw h.1 (inr refl))

    pub reads_inside : (p : ℕ) (class k : ℕ) → at p ≡ Read class k → k < n
    reads_inside p class k e = inside p k (rw e refl)

    stretch_inside : {M : Points} {p q : ℕ} {c : Code} → p < n → Stretch at M p q c → q < n
    unfolding Leads
    stretch_inside l (stop f s) = l
    stretch_inside {p = p} l (pass {k = k} f e s) = stretch_inside (inside p k (rw e refl)) s
    stretch_inside {p = p} l (first {a = a} f e s) = stretch_inside (inside p a (rw e (inl refl))) s
    stretch_inside {p = p} l (second {b = b} f e s) = stretch_inside (inside p b (rw e (inr refl))) s

    walk_inside : {w : List Symbol} {p q : ℕ} {c : Code} → p < n → Staged L at w p q c → q < n
    walk_inside l (last s) = stretch_inside l s
    walk_inside l (reads {r = r} {k = k} {class = class} s e b t) = walk_inside (reads_inside r class k e) t

    -- a stretch that begins one step later
    shortcut : (p k q : ℕ) (c : Code) → p < n → Leads at p k → Stretch at none k q c → (d : Code) × Stretch at none p q d
    unfolding Closed
    shortcut p k q c l g s =
        let t = seek_enough at n leads_inside none p l in
        let cl = search_closed at none t (λ k h. h) (nothing_closed L at) in
        let m = closed_ends at none (seek at (suc n) none p).marks cl (λ k h. h) (cl p k (search_marks at t) refl g) s in
        let i = search_complete at t q (ends_resting at s) refl m in
        (i.0, (search_sound at none t (λ k h. h) q i.0 i.1).2)

    earlier_by_one : (u : List Symbol) (p k q : ℕ) (c : Code) → p < n → Leads at p k → Staged L at u k q c → (d : Code) × Staged L at u p q d
    earlier_by_one u p k q c l g (last s) = let h = shortcut p k q c l g s in (h.0, last h.1)
    earlier_by_one u p k q _ l g (reads {a = a} {r = r} {c = c} {d = d} s e b t) =
        let h = shortcut p k r c l g s in (h.0 ++ (read_item (L.number a) ∷ d), reads h.1 e b t)

    route_walk : {u : List Symbol} {p q : ℕ} → p < n → rests (at q) ≡ true → Route u p q → (c : Code) × Staged L at u p q c
    route_walk l r here = ([], last (stop refl r))
    route_walk {u = u} {p = p} {q = q} l r (free {k = k} g x) =
        let h = route_walk (leads_inside p k g) r x in earlier_by_one u p k q h.0 l g h.1
    route_walk {p = p} l r (reading {a = a} {k = k} {class = class} e b x) =
        let h = route_walk (reads_inside p class k e) r x in
        (read_item (L.number a) ∷ h.0, reads (stop refl (ap rests e)) e b h.1)

    -- the dead symbols
    module _ (from end : ℕ) (starts : from < n) (ends : rests (at end) ≡ true) where
      pub allowed_live : (w : List Symbol) (q : ℕ) (c : Code) → Allowed L at from w q c → (d : Code) × Live L at from w q d
      allowed_live w q c t =
          let ls = lives_list L at n leads_inside reads_inside from starts w in
          let i = ls.complete q c t in
          (i.0, ls.sound q i.0 i.1)

      pub dead_none : (w : List Symbol) → NoLive L at from w → Dead L at from end w
      dead_none w h u t =
          let z = split L at w u (to_staged L at t.1) in
          let l = allowed_live w z.via z.before (from_staged L at z.walk) in
          h z.via l.0 l.1

      tail_of : {u : List Symbol} {q : ℕ} → q < n → rests (at q) ≡ true → Route u q end → (d : Code) × Tail L at u q end d
      unfolding Leads
      tail_of l r here = ([], ended)
      tail_of l r (free (inl h) x) = let z : ◌≡◌ {A = ℕ} 0 1 = cc in absurd (omega arith)
      tail_of l r (free (inr (inl h)) x) = let z : ◌≡◌ {A = ℕ} 0 1 = cc in absurd (omega arith)
      tail_of l r (free (inr (inr h)) x) = let z : ◌≡◌ {A = ℕ} 0 1 = cc in absurd (omega arith)
      tail_of {q = q} l r (reading {a = a} {k = k} {class = class} e b x) =
          let h = route_walk (reads_inside q class k e) ends x in
          (read_item (L.number a) ∷ h.0, more e b h.1)

      -- a live walk goes on to the end
      goes_on : ((p : ℕ) → p < n → Way p end) → (w : List Symbol) (q : ℕ) (c : Code) → Live L at from w q c → (u : List Symbol) × Accepted L at from end (w ++ u)
      unfolding Way
      goes_on way w q c l =
          let x = to_staged L at l.0 in
          let i = walk_inside starts x in
          let y = way q i in
          let t = tail_of i (walk_rests L at x) y.1 in
          (y.0, (c ++ t.0, from_staged L at (join L at y.0 x t.1)))

      dead_all : ((p : ℕ) → p < n → Way p end) → (w : List Symbol) → Dead L at from end w → NoLive L at from w
      dead_all way w h q c l = let g = goes_on way w q c l in h g.0 g.1

-- at the graph of an expression

pub steps_end : (e : Expr) (p : ℕ) → size e ≤ p → steps e p ≡ End
steps_end e p h = ap step_of (slice_get_past (points e) p (rw (length_table e 0 (size e) 0) h))

pub steps_inside : (e : Expr) (p l : ℕ) → To (steps e p) l → l < suc (size e)
steps_inside e p l t =
    elim (dec_lt p (size e)) [
      | yes h ↦ let b = leads_bound (steps e) e 0 (size e) (size e) (steps_laid e) (omega arith) (omega arith) p l (omega arith) (omega arith) t in omega arith
      | no h ↦ absurd (subst (λ x. To x l) (steps_end e p (omega arith)) t)
    ]

pub start_inside : (e : Expr) → start e < suc (size e)
start_inside e = let b = entry_le e 0 (size e) (size e) (omega arith) (omega arith) in omega arith

pub end_rests : (e : Expr) → rests (steps e (size e)) ≡ true
end_rests e = ap rests (steps_end e (size e) (omega arith))

module _ {Symbol : Type 0} (L : Meaning Symbol) (some : (class : ℕ) → class < L.classes → (a : Symbol) × (L.belongs class a ≡ true))
    (e : Expr) (below : ClassesBelow L.classes (steps e)) where
  way_out : (p : ℕ) → p < suc (size e) → Way L (steps e) p (size e)
  unfolding Way
  way_out p h =
      elim (dec_lt p (size e)) [
        | yes l ↦ from_point L (steps e) below some e 0 (size e) (steps_laid e) p (omega arith) (omega arith)
        | no l ↦ ([], (let z : size e ≡ p = omega arith in subst (λ y. Route L (steps e) [] y (size e)) z here))
      ]

  pub dead_iff : (w : List Symbol) → NoLive L (steps e) (start e) w ↔ Dead L (steps e) (start e) (size e) w
  dead_iff w = (
    dead_none L (steps e) (suc (size e)) (steps_inside e) (start e) (size e) (start_inside e) (end_rests e) w,
    dead_all L (steps e) (suc (size e)) (steps_inside e) (start e) (size e) (start_inside e) (end_rests e) way_out w,
  )

  -- where a walk is live, some accepted input begins with the symbols read
  pub live_goes_on : (w : List Symbol) (q : ℕ) (c : Code) → Live L (steps e) (start e) w q c → (u : List Symbol) × Accepted L (steps e) (start e) (size e) (w ++ u)
  live_goes_on w q c l = goes_on L (steps e) (suc (size e)) (steps_inside e) (start e) (size e) (start_inside e) (end_rests e) way_out w q c l

  -- some input is accepted
  pub some_accepted : (u : List Symbol) × Accepted L (steps e) (start e) (size e) u
  unfolding Way
  some_accepted =
      let y = way_out (start e) (start_inside e) in
      let t = route_walk L (steps e) (suc (size e)) (steps_inside e) (start_inside e) (end_rests e) y.1 in
      (y.0, (t.0, from_staged L (steps e) t.1))
