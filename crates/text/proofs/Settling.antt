-- The way past texts, point by point.
use Rattle.std.proofs.Common.{◌≡◌, ℕ, zero, suc, ◌+◌, ◌-◌, ◌<◌, ◌≤◌, Bool, true, false, cond, eqb, ◌⊎◌, List, [], ◌∷◌, ◌++◌, Some, sym, refl, ap, ◌∙◌, subst, ap₂, inl, inr, arith}
use Rattle.std.proofs.lemmas.Bool.{eq-eqb, ne_eqb, cases_eq}
use Rattle.std.specs.List.{slice_get}
use Rattle.pattern.specs.declared.point.Point.{Point}
use Rattle.pattern.specs.declared.point.Point.TheVariants.{Read, Text, Choice, Star}
use Rattle.pattern.specs.Patterns.{own_bytes}
use Rattle.text.specs.Passing.{onward, settled_from, passed_from, NoText}

-- looking at a point where one does not stand changes nothing
onward_other : (i : ℕ) (p : Point) (k : ℕ) → (i ≡ k → ⊥) → onward i p k ≡ k
onward_other i (Read keep class next) k ne = refl
onward_other i (Text start len next) k ne = ap (λ (b : Bool). cond b next k) (ne_eqb i k ne)
onward_other i (Choice a b) k ne = refl
onward_other i (Star a b) k ne = refl

passed_other : (ts : List ℕ) (i : ℕ) (p : Point) (k : ℕ) → (i ≡ k → ⊥) → cond (eqb i k) (own_bytes ts p) [] ≡ []
passed_other ts i p k ne = ap (λ (b : Bool). cond b (own_bytes ts p) []) (ne_eqb i k ne)

-- nor does looking at any point that is no text
onward_plain : (i : ℕ) (p : Point) (k : ℕ) → NoText (Some p) → onward i p k ≡ k
onward_plain i (Read keep class next) k h = refl
onward_plain i (Text start len next) k h = absurd h
onward_plain i (Choice a b) k h = refl
onward_plain i (Star a b) k h = refl

bytes_plain : (ts : List ℕ) (p : Point) → NoText (Some p) → own_bytes ts p ≡ []
bytes_plain ts (Read keep class next) h = refl
bytes_plain ts (Text start len next) h = absurd h
bytes_plain ts (Choice a b) h = refl
bytes_plain ts (Star a b) h = refl

passed_plain : (ts : List ℕ) (i : ℕ) (p : Point) (k : ℕ) → NoText (Some p) → cond (eqb i k) (own_bytes ts p) [] ≡ []
passed_plain ts i p k h =
    elim (eqb i k) as (λ b. cond b (own_bytes ts p) [] ≡ []) [ true ↦ bytes_plain ts p h | false ↦ refl ]

-- points after the one where one stands
settled_low : (i : ℕ) (ps : List Point) (k : ℕ) → k < i → settled_from i ps k ≡ k
settled_low i [] k l = refl
settled_low i (p ∷ ps) k l = ap (settled_from (suc i) ps) (onward_other i p k (λ e. omega arith)) ∙ settled_low (suc i) ps k (omega arith)

passed_low : (ts : List ℕ) (i : ℕ) (ps : List Point) (k : ℕ) → k < i → passed_from ts i ps k ≡ []
passed_low ts i [] k l = refl
passed_low ts i (p ∷ ps) k l =
    ap₂ (λ (a b : List ℕ). a ++ b) (passed_other ts i p k (λ e. omega arith))
    (ap (passed_from ts (suc i) ps) (onward_other i p k (λ e. omega arith)) ∙ passed_low ts (suc i) ps k (omega arith))

-- one who stands at a point that is no text stays
pub settled_stays : (ps : List Point) (i j k : ℕ) → k ≡ i + j → NoText (slice_get ps j) → settled_from i ps k ≡ k
settled_stays [] i j k e h = refl
settled_stays (p ∷ ps) i zero k e h = ap (settled_from (suc i) ps) (onward_plain i p k h) ∙ settled_low (suc i) ps k (omega arith)
settled_stays (p ∷ ps) i (suc j) k e h =
    ap (settled_from (suc i) ps) (onward_other i p k (λ z. omega arith)) ∙ settled_stays ps (suc i) j k (omega arith) h

pub passed_silent : (ts : List ℕ) (ps : List Point) (i j k : ℕ) → k ≡ i + j → NoText (slice_get ps j) → passed_from ts i ps k ≡ []
passed_silent ts [] i j k e h = refl
passed_silent ts (p ∷ ps) i zero k e h =
    ap₂ (λ (a b : List ℕ). a ++ b) (passed_plain ts i p k h)
    (ap (passed_from ts (suc i) ps) (onward_plain i p k h) ∙ passed_low ts (suc i) ps k (omega arith))
passed_silent ts (p ∷ ps) i (suc j) k e h =
    ap₂ (λ (a b : List ℕ). a ++ b) (passed_other ts i p k (λ z. omega arith))
    (ap (passed_from ts (suc i) ps) (onward_other i p k (λ z. omega arith)) ∙ passed_silent ts ps (suc i) j k (omega arith) h)

-- one who stands at a text goes on to the next point, whose number is larger
text_onward : (i k start len next : ℕ) → i ≡ k → onward i (Text start len next) k ≡ next
text_onward i k start len next e = ap (λ (b : Bool). cond b next k) (eq-eqb i k e)

pub settled_goes : (ps : List Point) (i j k start len next : ℕ) → k ≡ i + j → k < next → slice_get ps j ≡ Some (Text start len next)
    → settled_from i ps k ≡ settled_from i ps next
settled_goes [] i j k start len next e l h = cc
settled_goes (p ∷ ps) i zero k start len next e l h =
    let q : p ≡ Text start len next = cc in
    ap (settled_from (suc i) ps)
    (ap (λ (x : Point). onward i x k) q
    ∙ text_onward i k start len next (omega arith)
    ∙ sym (onward_other i p next (λ z. omega arith)))
settled_goes (p ∷ ps) i (suc j) k start len next e l h =
    ap (settled_from (suc i) ps) (onward_other i p k (λ z. omega arith))
    ∙ settled_goes ps (suc i) j k start len next (omega arith) l h
    ∙ ap (settled_from (suc i) ps) (sym (onward_other i p next (λ z. omega arith)))

pub passed_writes : (ts : List ℕ) (ps : List Point) (i j k start len next : ℕ) → k ≡ i + j → k < next → slice_get ps j ≡ Some (Text start len next)
    → passed_from ts i ps k ≡ own_bytes ts (Text start len next) ++ passed_from ts i ps next
passed_writes ts [] i j k start len next e l h = cc
passed_writes ts (p ∷ ps) i zero k start len next e l h =
    let q : p ≡ Text start len next = cc in
    let here : cond (eqb i k) (own_bytes ts p) [] ≡ own_bytes ts (Text start len next) =
    ap (λ (b : Bool). cond b (own_bytes ts p) []) (eq-eqb i k (omega arith)) ∙ ap (own_bytes ts) q in
    let rest : passed_from ts (suc i) ps (onward i p k) ≡ passed_from ts i (p ∷ ps) next =
    ap (passed_from ts (suc i) ps)
    (ap (λ (x : Point). onward i x k) q
    ∙ text_onward i k start len next (omega arith)
    ∙ sym (onward_other i p next (λ z. omega arith)))
    ∙ ap (λ (a : List ℕ). a ++ passed_from ts (suc i) ps (onward i p next)) (sym (passed_other ts i p next (λ z. omega arith))) in
    ap₂ (λ (a b : List ℕ). a ++ b) here rest
passed_writes ts (p ∷ ps) i (suc j) k start len next e l h =
    let skip : (n : ℕ) → i < n → passed_from ts i (p ∷ ps) n ≡ passed_from ts (suc i) ps n =
    λ n m.
    ap₂ (λ (a b : List ℕ). a ++ b) (passed_other ts i p n (λ z. omega arith))
    (ap (passed_from ts (suc i) ps) (onward_other i p n (λ z. omega arith))) in
    skip k (omega arith)
    ∙ passed_writes ts ps (suc i) j k start len next (omega arith) l h
    ∙ ap (λ (b : List ℕ). own_bytes ts (Text start len next) ++ b) (sym (skip next (omega arith)))

-- a text goes on to a larger number
abbrev pub Up : ℕ → Point → Type 0
Up i (Read keep class next) = Unit {0}
Up i (Text start len next) = i < next
Up i (Choice a b) = Unit {0}
Up i (Star a b) = Unit {0}

-- each of the points does, the first having the number i
abbrev pub Rises : ℕ → List Point → Type 0
Rises i [] = Unit {0}
Rises i (p ∷ ps) = Up i p × Rises (suc i) ps

-- no earlier number is come to
onward_high : (i : ℕ) (p : Point) (k : ℕ) → Up i p → i ≤ k → i ≤ onward i p k
onward_high i (Read keep class next) k u l = l
onward_high i (Text start len next) k u l =
    elim (eqb i k) as (λ b. i ≤ cond b next k) [ true ↦ omega arith | false ↦ l ]
onward_high i (Choice a b) k u l = l
onward_high i (Star a b) k u l = l

-- past a text one stands past its number
plain_or_past : (i : ℕ) (p : Point) (k : ℕ) → Up i p → i ≤ k → (i < onward i p k) ⊎ ((onward i p k ≡ i) × NoText (Some p))
plain_or_past i (Read keep class next) k u l = elim (cases_eq i k) [ inl e ↦ inr (sym e, tt) | inr ne ↦ inl (omega arith) ]
plain_or_past i (Text start len next) k u l =
    elim (cases_eq i k) [
      | inl e ↦ inl (subst (λ (n : ℕ). i < n) (sym (text_onward i k start len next e)) u)
      | inr ne ↦ inl (subst (λ (n : ℕ). i < n) (sym (onward_other i (Text start len next) k ne)) (omega arith))
    ]
plain_or_past i (Choice a b) k u l = elim (cases_eq i k) [ inl e ↦ inr (sym e, tt) | inr ne ↦ inl (omega arith) ]
plain_or_past i (Star a b) k u l = elim (cases_eq i k) [ inl e ↦ inr (sym e, tt) | inr ne ↦ inl (omega arith) ]

-- the way ends at a point that is no text, the point number i + j
pub record Ends (i : ℕ) (ps : List Point) (k : ℕ) : Type 0 where
  pub index : ℕ
  pub is : settled_from i ps k ≡ i + index
  pub plain : NoText (slice_get ps index)

pub ends_from : (ps : List Point) (i k : ℕ) → Rises i ps → i ≤ k → Ends i ps k
ends_from [] i k r l = record { index = k - i; is = omega arith; plain = tt }
ends_from (p ∷ ps) i k r l =
    elim (plain_or_past i p k r.0 l) [
      | inl m ↦
          let e = ends_from ps (suc i) (onward i p k) r.1 (omega arith) in
          record { index = suc e.index; is = e.is ∙ omega arith; plain = e.plain }
      | inr h ↦
          record {
            index = 0;
            is = ap (settled_from (suc i) ps) h.0 ∙ settled_low (suc i) ps i (omega arith) ∙ omega arith;
            plain = h.1;
          }
    ]
