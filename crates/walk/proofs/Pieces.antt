-- An allowed walk is the same in stretches and in one piece.
use Rattle.std.proofs.Common.{◌≡◌, ℕ, Bool, true, false, ◌||◌, ◌⊎◌, List, [], ◌∷◌, ◌++◌, sym, refl, ap, subst, inl, inr}
use Rattle.alphabet.specs.Meaning.{Meaning}
use Rattle.alphabet.specs.Items.{read_item}
use Rattle.pattern.specs.declared.step.Step.{Step}
use Rattle.pattern.specs.declared.step.Step.TheVariants.{Read, Pass, Fork, End}
use Rattle.walk.specs.Graphs.{Points, rests, is_read, none, add}
use Rattle.walk.specs.Codes.{Code}
use Rattle.walk.specs.Walks.{Walk, reads_among, NoReturn, Allowed}
use Rattle.walk.specs.Walks as walks
use Rattle.walk.proofs.Stages.{Stretch, stop, pass, first, second, Staged, last, reads, Path, ends, over, left, right, eats}
use Rattle.walk.proofs.Order.{add_same, add_cases, add_fresh, two_ways, never_both}

-- the points met since the last read, once p is left
abbrev pub since : Step → ℕ → Points → Points
since (Read class k) p met = none
since (Pass k) p met = add p met
since (Fork a b) p met = add p met
since End p met = add p met

-- no point of the list was met since the last read before it; `met` are those met before the list
abbrev pub Unmet : (ℕ → Step) → Points → List ℕ → Type 0
Unmet at met [] = Unit {0}
Unmet at met (p ∷ ps) = (met p ≡ false) × Unmet at (since (at p) p met) ps

neither : (a b : Bool) → (a || b) ≡ false → (a ≡ false) × (b ≡ false)
neither true b h = absurd (never_both refl h)
neither false b h = (refl, h)

none_of : (a b : Bool) → a ≡ false → b ≡ false → (a || b) ≡ false
none_of true b h k = h
none_of false b h k = k

since_fresh : (x : Step) (p q : ℕ) (met : Points) → is_read x ≡ false → since x p met q ≡ false → met q ≡ false
since_fresh (Read class k) p q met n h = absurd (never_both refl n)
since_fresh (Pass k) p q met n h = add_fresh p q met h
since_fresh (Fork a b) p q met n h = add_fresh p q met h
since_fresh End p q met n h = add_fresh p q met h

since_same : (x : Step) (p : ℕ) (met : Points) → is_read x ≡ false → since x p met p ≡ true
since_same (Read class k) p met n = absurd (never_both refl n)
since_same (Pass k) p met n = add_same p met
since_same (Fork a b) p met n = add_same p met
since_same End p met n = add_same p met

since_cases : (x : Step) (p q : ℕ) (met : Points) → since x p met q ≡ true → (is_read x ≡ false) × ((q ≡ p) ⊎ (met q ≡ true))
since_cases (Read class k) p q met h = absurd (never_both h refl)
since_cases (Pass k) p q met h = (refl, add_cases p q met h)
since_cases (Fork a b) p q met h = (refl, add_cases p q met h)
since_cases End p q met h = (refl, add_cases p q met h)

module _ (at : ℕ → Step) where
  unmet_early : (ys zs : List ℕ) (p : ℕ) (met : Points) → Unmet at met (ys ++ (p ∷ zs)) → reads_among at ys ≡ false → met p ≡ false
  unmet_early [] zs p met u n = u.0
  unmet_early (y ∷ ys) zs p met u n =
      let h = neither (is_read (at y)) (reads_among at ys) n in
      since_fresh (at y) y p met h.0 (unmet_early ys zs p (since (at y) y met) u.1 h.1)

  unmet_later : (ys zs : List ℕ) (met : Points) → Unmet at met (ys ++ zs) → (later : Points) × Unmet at later zs
  unmet_later [] zs met u = (met, u)
  unmet_later (y ∷ ys) zs met u = unmet_later ys zs (since (at y) y met) u.1

  unmet_rule : (ps : List ℕ) (met : Points) → Unmet at met ps → NoReturn at ps
  unmet_rule ps met u before between after p e =
      let v = unmet_later before (p ∷ (between ++ (p ∷ after))) met (subst (Unmet at met) e u) in
      elim (two_ways (reads_among at (p ∷ between))) [
        | inl h ↦ h
        | inr h ↦
            let n = neither (is_read (at p)) (reads_among at between) h in
            absurd (never_both (since_same (at p) p v.0 n.0) (unmet_early between after p (since (at p) p v.0) v.1.1 n.1))
      ]

  rule_unmet : (ps : List ℕ) (met : Points) → NoReturn at ps →
      ((ys zs : List ℕ) (q : ℕ) → ps ≡ ys ++ (q ∷ zs) → reads_among at ys ≡ false → met q ≡ false) → Unmet at met ps
  rule_unmet [] met n f = tt
  rule_unmet (p ∷ ps) met n f = (
    f [] ps p refl refl,
    rule_unmet ps (since (at p) p met) (λ before between after q e. n (p ∷ before) between after q (ap {B = List ℕ} (λ x. p ∷ x) e)) later,
  )
    where
      later : (ys zs : List ℕ) (q : ℕ) → ps ≡ ys ++ (q ∷ zs) → reads_among at ys ≡ false → since (at p) p met q ≡ false
      later ys zs q e r =
          elim (two_ways (since (at p) p met q)) [
            | inr h ↦ h
            | inl h ↦
                let s = since_cases (at p) p q met h in
                let i = none_of (is_read (at p)) (reads_among at ys) s.0 r in
                elim s.1 [
                  | inl g ↦ absurd (never_both (n [] ys zs p (ap {B = List ℕ} (λ x. p ∷ x) (subst (λ y. ps ≡ ys ++ (y ∷ zs)) g e))) i)
                  | inr g ↦ absurd (never_both g (f (p ∷ ys) zs q (ap {B = List ℕ} (λ x. p ∷ x) e) i))
                ]
          ]

module _ {Symbol : Type 0} (L : Meaning Symbol) (at : ℕ → Step) where
  -- a walk whose first stretch has met some points before
  data Begun : List Symbol → Points → ℕ → ℕ → Code → Type 0 where
    alone : {met : Points} {p q : ℕ} {c : Code} → Stretch at met p q c → Begun [] met p q c
    then : {a : Symbol} {w : List Symbol} {met : Points} {p r k q class : ℕ} {c d : Code} → Stretch at met p r c → at r ≡ Read class k → L.belongs class a ≡ true →
        Staged L at w k q d → Begun (a ∷ w) met p q (c ++ (read_item (L.number a) ∷ d))

  begun_walk : {w : List Symbol} {p q : ℕ} {c : Code} → Begun w none p q c → Staged L at w p q c
  begun_walk (alone s) = last s
  begun_walk (then s e b t) = reads s e b t

  begun_over : {w : List Symbol} {met : Points} {p q k : ℕ} {c : Code} → met p ≡ false → at p ≡ Pass k → Begun w (add p met) k q c → Begun w met p q c
  begun_over f e (alone s) = alone (pass f e s)
  begun_over f e (then s i b t) = then (pass f e s) i b t

  begun_left : {w : List Symbol} {met : Points} {p q a b : ℕ} {c : Code} → met p ≡ false → at p ≡ Fork a b → Begun w (add p met) a q c → Begun w met p q (0 ∷ c)
  begun_left f e (alone s) = alone (first f e s)
  begun_left f e (then s i b t) = then (first f e s) i b t

  begun_right : {w : List Symbol} {met : Points} {p q a b : ℕ} {c : Code} → met p ≡ false → at p ≡ Fork a b → Begun w (add p met) b q c → Begun w met p q (1 ∷ c)
  begun_right f e (alone s) = alone (second f e s)
  begun_right f e (then s i b t) = then (second f e s) i b t

  path_begun : {w : List Symbol} {met : Points} {p q : ℕ} {c : Code} → Path L at w met p q c → Begun w met p q c
  path_begun (ends f s) = alone (stop f s)
  path_begun (over f e t) = begun_over f e (path_begun t)
  path_begun (left f e t) = begun_left f e (path_begun t)
  path_begun (right f e t) = begun_right f e (path_begun t)
  path_begun (eats f e b t) = then (stop f (ap rests e)) e b (begun_walk (path_begun t))

  stretch_path : {met : Points} {p q : ℕ} {c : Code} → Stretch at met p q c → Path L at [] met p q c
  stretch_path (stop f s) = ends f s
  stretch_path (pass f e s) = over f e (stretch_path s)
  stretch_path (first f e s) = left f e (stretch_path s)
  stretch_path (second f e s) = right f e (stretch_path s)

  stretch_reads : (a : Symbol) (w : List Symbol) {met : Points} {p r : ℕ} {c : Code} (k q class : ℕ) (d : Code) → Stretch at met p r c → at r ≡ Read class k → L.belongs class a ≡ true →
      Path L at w none k q d → Path L at (a ∷ w) met p q (c ++ (read_item (L.number a) ∷ d))
  stretch_reads a w k q class d (stop f s) e b t = eats f e b t
  stretch_reads a w k q class d (pass f i s) e b t = over f i (stretch_reads a w k q class d s e b t)
  stretch_reads a w k q class d (first f i s) e b t = left f i (stretch_reads a w k q class d s e b t)
  stretch_reads a w k q class d (second f i s) e b t = right f i (stretch_reads a w k q class d s e b t)

  walk_path : {w : List Symbol} {p q : ℕ} {c : Code} → Staged L at w p q c → Path L at w none p q c
  walk_path (last s) = stretch_path s
  walk_path {q = q} (reads {a = a} {w = w} {k = k} {class = class} {d = d} s e b t) = stretch_reads a w k q class d s e b (walk_path t)

  -- the points that it comes to
  path_walk : {w : List Symbol} {met : Points} {p q : ℕ} {c : Code} → Path L at w met p q c → (ps : List ℕ) × Walk L at w p q ps c × Unmet at met ps
  path_walk {p = p} (ends f r) = (p ∷ [], walks.ends r, (f, tt))
  path_walk {met = met} {p = p} (over f e t) =
      let h = path_walk t in (p ∷ h.0, walks.passes e h.1, (f, subst (λ x. Unmet at (since x p met) h.0) (sym e) h.2))
  path_walk {met = met} {p = p} (left f e t) =
      let h = path_walk t in (p ∷ h.0, walks.first e h.1, (f, subst (λ x. Unmet at (since x p met) h.0) (sym e) h.2))
  path_walk {met = met} {p = p} (right f e t) =
      let h = path_walk t in (p ∷ h.0, walks.second e h.1, (f, subst (λ x. Unmet at (since x p met) h.0) (sym e) h.2))
  path_walk {met = met} {p = p} (eats f e b t) =
      let h = path_walk t in (p ∷ h.0, walks.reads e b h.1, (f, subst (λ x. Unmet at (since x p met) h.0) (sym e) h.2))

  walk_unmet : {w : List Symbol} {p q : ℕ} {ps : List ℕ} {c : Code} (met : Points) → Walk L at w p q ps c → Unmet at met ps → Path L at w met p q c
  walk_unmet met (walks.ends r) u = ends u.0 r
  walk_unmet {p = p} met (walks.passes {ps = ps} e t) u = over u.0 e (walk_unmet (add p met) t (subst (λ x. Unmet at (since x p met) ps) e u.1))
  walk_unmet {p = p} met (walks.first {ps = ps} e t) u = left u.0 e (walk_unmet (add p met) t (subst (λ x. Unmet at (since x p met) ps) e u.1))
  walk_unmet {p = p} met (walks.second {ps = ps} e t) u = right u.0 e (walk_unmet (add p met) t (subst (λ x. Unmet at (since x p met) ps) e u.1))
  walk_unmet {p = p} met (walks.reads {ps = ps} e b t) u = eats u.0 e b (walk_unmet none t (subst (λ x. Unmet at (since x p met) ps) e u.1))

  pub allowed_path : {w : List Symbol} {p q : ℕ} {c : Code} → Allowed L at p w q c → Path L at w none p q c
  allowed_path t = walk_unmet none t.1 (rule_unmet at t.0 none t.2 (λ ys zs q e r. refl))

  pub path_allowed : {w : List Symbol} {p q : ℕ} {c : Code} → Path L at w none p q c → Allowed L at p w q c
  path_allowed t = let h = path_walk t in (h.0, h.1, unmet_rule at h.0 none h.2)

  pub to_staged : {w : List Symbol} {p q : ℕ} {c : Code} → Allowed L at p w q c → Staged L at w p q c
  to_staged t = begun_walk (path_begun (allowed_path t))

  pub from_staged : {w : List Symbol} {p q : ℕ} {c : Code} → Staged L at w p q c → Allowed L at p w q c
  from_staged t = path_allowed (walk_path t)
