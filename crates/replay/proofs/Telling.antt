-- What is traced is a function of the bits and the symbols.
use Rattle.std.proofs.Common.{◌≡◌, ℕ, zero, suc, ◌+◌, ◌≤◌, Bool, true, false, List, [], ◌∷◌, sym, refl, ap, ◌∙◌, subst, ap₂, arith}
use Rattle.std.proofs.lemmas.Bool.{false_from_ne_true}
use Rattle.walk.specs.Graphs.{Points, none, add}
use Rattle.pattern.specs.declared.step.Step.{Step}
use Rattle.pattern.specs.declared.step.Step.TheVariants.{Read, Pass, Fork, End}
use Rattle.walk.specs.Codes.{Code}
use Rattle.walk.proofs.Order.{never_both}
use Rattle.alphabet.specs.Meaning.{Meaning}
use Rattle.alphabet.specs.Items.{read_item, end_mark}
use Rattle.replay.specs.Tracing.{Verdict, complete, broken, Traces, again, over, first, second, no_bit, reads, outside, no_symbol, ends, symbols_left, bits_left}
use Rattle.replay.specs.Computed.{Told, told, untold, more, few, if_so, visit, trace}
use Rattle.replay.proofs.Unreading.{few_is}

more_told : (t : Told) (i : ℕ) (c : Code) (v : Verdict) → more i t ≡ told c v → (d : Code) × (c ≡ i ∷ d) × (t ≡ told d v)
more_told (told d u) i c v e = let x : c ≡ i ∷ d = cc in let y : u ≡ v = cc in (d, x, ap (told d) y)
more_told untold i c v e = let z : ◌≡◌ {A = ℕ} 0 1 = cc in absurd (omega arith)

told_code : (c d : Code) (u v : Verdict) → told c u ≡ told d v → (c ≡ d) × (u ≡ v)
told_code c d u v e = ((cc), (cc))

module _ {Symbol : Type 0} (L : Meaning Symbol) (at : ℕ → Step) where
  abbrev pub Tells : List Bool → List Symbol → Points → ℕ → Code → Verdict → Type 0
  Tells bs w met p c v = (f : ℕ) × ((g : ℕ) → f ≤ g → trace L at g bs w met p ≡ told c v)

  after : (bs : List Bool) (w : List Symbol) (met : Points) (p : ℕ) (t : Told) (f : ℕ) → ((g : ℕ) → f ≤ g → visit L at (met p) (at p) bs w (add p met) (trace L at g) ≡ t) →
      (g : ℕ) → suc f ≤ g → trace L at g bs w met p ≡ t
  unfolding trace
  after bs w met p t f h zero l = absurd (omega arith)
  after bs w met p t f h (suc g) l = h g (omega arith)

  at_once : (bs : List Bool) (w : List Symbol) (met : Points) (p : ℕ) (c : Code) (v : Verdict) (b : Bool) (x : Step) → met p ≡ b → at p ≡ x →
      ((g : ℕ) → visit L at b x bs w (add p met) (trace L at g) ≡ told c v) → Tells bs w met p c v
  at_once bs w met p c v b x e k h = (1, after bs w met p (told c v) 0 (λ g l. ap₂ (λ (y : Bool) (z : Step). visit L at y z bs w (add p met) (trace L at g)) e k ∙ h g))

  in_time : (bs : List Bool) (w : List Symbol) (met : Points) (p : ℕ) (c : Code) (v : Verdict) (x : Step) (f : ℕ) → met p ≡ false → at p ≡ x →
      ((g : ℕ) → f ≤ g → visit L at false x bs w (add p met) (trace L at g) ≡ told c v) → Tells bs w met p c v
  in_time bs w met p c v x f e k h = (suc f, after bs w met p (told c v) f (λ g l. ap₂ (λ (y : Bool) (z : Step). visit L at y z bs w (add p met) (trace L at g)) e k ∙ h g l))

  pub tells : {bs : List Bool} {w : List Symbol} {met : Points} {p : ℕ} {c : Code} {v : Verdict} → Traces L at bs w met p c v → Tells bs w met p c v
  tells (again {bs = bs} {w = w} {met = met} {p = p} e) = at_once bs w met p [] broken true (at p) e refl (λ g. refl)
  tells (over {bs = bs} {w = w} {met = met} {p = p} {k = k} {c = c} {v = v} e i x) =
      let t = tells x in in_time bs w met p c v (Pass k) t.0 e i (λ g l. t.1 g l)
  tells (first {bs = bs} {w = w} {met = met} {p = p} {a = a} {b = b} {c = c} {v = v} e i x) =
      let t = tells x in in_time (false ∷ bs) w met p (0 ∷ c) v (Fork a b) t.0 e i (λ g l. ap (more 0) (t.1 g l))
  tells (second {bs = bs} {w = w} {met = met} {p = p} {a = a} {b = b} {c = c} {v = v} e i x) =
      let t = tells x in in_time (true ∷ bs) w met p (1 ∷ c) v (Fork a b) t.0 e i (λ g l. ap (more 1) (t.1 g l))
  tells (no_bit {w = w} {met = met} {p = p} {a = a} {b = b} e i) = at_once [] w met p [] broken false (Fork a b) e i (λ g. refl)
  tells (reads {bs = bs} {s = s} {w = w} {met = met} {p = p} {class = class} {k = k} {c = c} {v = v} e i y x) =
      let t = tells x in in_time bs (s ∷ w) met p (read_item (L.number s) ∷ c) v (Read class k) t.0 e i
      (λ g l. ap₂ (λ (b : Bool) (u : Told). if_so b (more (read_item (L.number s)) u)) y (t.1 g l))
  tells (outside {bs = bs} {s = s} {w = w} {met = met} {p = p} {class = class} {k = k} e i y) =
      at_once bs (s ∷ w) met p [] broken false (Read class k) e i (λ g. ap (λ (b : Bool). if_so b (more (read_item (L.number s)) (trace L at g bs w none k))) y)
  tells (no_symbol {bs = bs} {met = met} {p = p} {class = class} {k = k} e i) = at_once bs [] met p [] broken false (Read class k) e i (λ g. refl)
  tells (ends {bs = bs} {met = met} {p = p} e i f) = at_once bs [] met p (end_mark ∷ []) complete false End e i (λ g. ap (λ (b : Bool). if_so b (told (end_mark ∷ []) complete)) ((few_is bs).1 f))
  tells (symbols_left {bs = bs} {s = s} {w = w} {met = met} {p = p} e i) = at_once bs (s ∷ w) met p [] broken false End e i (λ g. refl)
  tells (bits_left {bs = bs} {met = met} {p = p} e i f) =
      at_once bs [] met p [] broken false End e i (λ g. ap (λ (b : Bool). if_so b (told (end_mark ∷ []) complete)) (false_from_ne_true (few 7 bs) (λ h. f ((few_is bs).0 h))))

  -- only one thing is traced
  pub one_trace : (bs : List Bool) (w : List Symbol) (met : Points) (p : ℕ) (c d : Code) (u v : Verdict) → Traces L at bs w met p c u → Traces L at bs w met p d v → (c ≡ d) × (u ≡ v)
  one_trace bs w met p c d u v x y =
      let s = tells x in
      let t = tells y in
      told_code c d u v (sym (s.1 (s.0 + t.0) (omega arith)) ∙ t.1 (s.0 + t.0) (omega arith))

  -- what is computed is traced
  abbrev SoundAt : ℕ → Type 0
  SoundAt g = (bs : List Bool) (w : List Symbol) (met : Points) (p : ℕ) (c : Code) (v : Verdict) → trace L at g bs w met p ≡ told c v → Traces L at bs w met p c v

  told_is : (bs : List Bool) (w : List Symbol) (met : Points) (p : ℕ) (c d : Code) (u v : Verdict) → told c u ≡ told d v → Traces L at bs w met p c u → Traces L at bs w met p d v
  told_is bs w met p c d u v e x = let h = told_code c d u v e in subst (λ (z : Verdict). Traces L at bs w met p d z) h.1 (subst (λ (z : Code). Traces L at bs w met p z u) h.0 x)

  read_sound : (g : ℕ) → SoundAt g → (b : Bool) (bs : List Bool) (s : Symbol) (w : List Symbol) (met : Points) (p class k : ℕ) (c : Code) (v : Verdict) →
      met p ≡ false → at p ≡ Read class k → L.belongs class s ≡ b → if_so b (more (read_item (L.number s)) (trace L at g bs w none k)) ≡ told c v → Traces L at bs (s ∷ w) met p c v
  read_sound g ih true bs s w met p class k c v f e y h =
      let t = more_told (trace L at g bs w none k) (read_item (L.number s)) c v h in
      subst (λ (z : Code). Traces L at bs (s ∷ w) met p z v) (sym t.1) (reads f e y (ih bs w none k t.0 v t.2))
  read_sound g ih false bs s w met p class k c v f e y h = told_is bs (s ∷ w) met p [] c broken v h (outside f e y)

  end_sound : (b : Bool) (bs : List Bool) (met : Points) (p : ℕ) (c : Code) (v : Verdict) → met p ≡ false → at p ≡ End → few 7 bs ≡ b → if_so b (told (end_mark ∷ []) complete) ≡ told c v → Traces L at bs [] met p c v
  end_sound true bs met p c v f e y h = told_is bs [] met p (end_mark ∷ []) c complete v h (ends f e ((few_is bs).0 y))
  end_sound false bs met p c v f e y h = told_is bs [] met p [] c broken v h (bits_left f e (λ z. never_both ((few_is bs).1 z) y))

  visit_sound : (g : ℕ) → SoundAt g → (b : Bool) (x : Step) (bs : List Bool) (w : List Symbol) (met : Points) (p : ℕ) (c : Code) (v : Verdict) → met p ≡ b → at p ≡ x →
      visit L at b x bs w (add p met) (trace L at g) ≡ told c v → Traces L at bs w met p c v
  visit_sound g ih true x bs w met p c v f e h = told_is bs w met p [] c broken v h (again f)
  visit_sound g ih false (Pass k) bs w met p c v f e h = over f e (ih bs w (add p met) k c v h)
  visit_sound g ih false (Fork a b) [] w met p c v f e h = told_is [] w met p [] c broken v h (no_bit f e)
  visit_sound g ih false (Fork a b) (false ∷ bs) w met p c v f e h =
      let t = more_told (trace L at g bs w (add p met) a) 0 c v h in
      subst (λ (z : Code). Traces L at (false ∷ bs) w met p z v) (sym t.1) (first f e (ih bs w (add p met) a t.0 v t.2))
  visit_sound g ih false (Fork a b) (true ∷ bs) w met p c v f e h =
      let t = more_told (trace L at g bs w (add p met) b) 1 c v h in
      subst (λ (z : Code). Traces L at (true ∷ bs) w met p z v) (sym t.1) (second f e (ih bs w (add p met) b t.0 v t.2))
  visit_sound g ih false (Read class k) bs [] met p c v f e h = told_is bs [] met p [] c broken v h (no_symbol f e)
  visit_sound g ih false (Read class k) bs (s ∷ w) met p c v f e h = read_sound g ih (L.belongs class s) bs s w met p class k c v f e refl h
  visit_sound g ih false End bs (s ∷ w) met p c v f e h = told_is bs (s ∷ w) met p [] c broken v h (symbols_left f e)
  visit_sound g ih false End bs [] met p c v f e h = end_sound (few 7 bs) bs met p c v f e refl h

  pub traced : (g : ℕ) → SoundAt g
  unfolding trace
  traced zero bs w met p c v h = let z : ◌≡◌ {A = ℕ} 0 1 = cc in absurd (omega arith)
  traced (suc g) bs w met p c v h = visit_sound g (traced g) (met p) (at p) bs w met p c v refl refl h
