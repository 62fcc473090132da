-- The points of an expression: each leads to points of it or to its follower.
use Rattle.std.proofs.Common.{◌≡◌, ℕ, zero, suc, ◌+◌, ◌<◌, ◌≤◌, ◌⊎◌, List, [], ◌∷◌, ◌++◌, length, Some, sym, refl, ap, ◌∙◌, subst, inl, inr, add-zero, zero-add, arith, length-append}
use native.Mathlib.Decide.{dec_lt}
use Rattle.std.specs.List.{slice_get}
use Rattle.pattern.specs.declared.point.Point.{Point}
use Rattle.pattern.specs.declared.point.Point.TheVariants as point
use Rattle.pattern.specs.declared.step.Step.{Step}
use Rattle.pattern.specs.declared.step.Step.TheVariants.{Read, Pass, Fork, End}
use Rattle.pattern.specs.Expressions.{Expr, empty, read, text, seq, alt, star, size, texts}
use Rattle.pattern.specs.Points.{entry, table, step_of}
use Rattle.pattern.proofs.Tables.{length_table}
use Rattle.pattern.proofs.Links.{entry_le}
use Rattle.walk.specs.Graphs.{steps}

-- the graph T has the points of e from b on, where k follows e
abbrev pub Laid : (ℕ → Step) → Expr → ℕ → ℕ → Type 0
Laid T empty b k = Unit {0}
Laid T (read keep class) b k = T b ≡ Read class k
Laid T (text bytes) b k = T b ≡ Pass k
Laid T (seq E F) b k = Laid T E b (entry F (b + size E) k) × Laid T F (b + size E) k
Laid T (alt E F) b k = Laid T E b k × Laid T F (b + size E) k × (T (b + (size E + size F)) ≡ Fork (entry E b k) (entry F (b + size E) k))
Laid T (star E) b k = Laid T E b (b + size E) × (T (b + size E) ≡ Fork (entry E b (b + size E)) k)

-- T has the points of a table from b on
unfoldable pub Holds : (ℕ → Step) → ℕ → List Point → Type 0
Holds T b xs = (i : ℕ) → i < length xs → T (b + i) ≡ step_of (slice_get xs i)

nth_left : (xs ys : List Point) (i : ℕ) → i < length xs → slice_get (xs ++ ys) i ≡ slice_get xs i
nth_left [] ys i h = absurd (omega arith)
nth_left (x ∷ xs) ys zero h = refl
nth_left (x ∷ xs) ys (suc i) h = nth_left xs ys i (omega arith)

nth_right : (xs ys : List Point) (i : ℕ) → slice_get (xs ++ ys) (length xs + i) ≡ slice_get ys i
nth_right [] ys i = rw (zero-add i)
nth_right (x ∷ xs) ys i =
    let e : suc (length xs) + i ≡ suc (length xs + i) = omega arith in
    rw e (nth_right xs ys i)

holds_left : (T : ℕ → Step) (b : ℕ) (xs ys : List Point) → Holds T b (xs ++ ys) → Holds T b xs
unfolding Holds
holds_left T b xs ys h i l =
    let m : i < length (xs ++ ys) = rw (length-append xs ys) (omega arith) in
    h i m ∙ ap step_of (nth_left xs ys i l)

holds_right : (T : ℕ → Step) (b m : ℕ) (xs ys : List Point) → length xs ≡ m → Holds T b (xs ++ ys) → Holds T (b + m) ys
unfolding Holds
holds_right T b m xs ys e h i l =
    let n : length xs + i < length (xs ++ ys) = rw (length-append xs ys) (omega arith) in
    let j : (b + m) + i ≡ b + (length xs + i) = omega arith in
    ap T j ∙ h (length xs + i) n ∙ ap step_of (nth_right xs ys i)

holds_one : (T : ℕ → Step) (b : ℕ) (x : Point) → Holds T b (x ∷ []) → T b ≡ step_of (Some x)
unfolding Holds
holds_one T b x h = ap T (sym (add-zero b)) ∙ h 0 (omega arith)

pub laid : (T : ℕ → Step) (e : Expr) (b k t : ℕ) → Holds T b (table e b k t) → Laid T e b k
laid T empty b k t h = tt
laid T (read keep class) b k t h = holds_one T b (point.Read keep class k) h
laid T (text bytes) b k t h = holds_one T b (point.Text t (length bytes) k) h
laid T (seq E F) b k t h =
    let x = table E b (entry F (b + size E) k) t in
    let y = table F (b + size E) k (t + length (texts E)) in (
      laid T E b (entry F (b + size E) k) t (holds_left T b x y h),
      laid T F (b + size E) k (t + length (texts E)) (holds_right T b (size E) x y (length_table E b (entry F (b + size E) k) t) h),
    )
laid T (alt E F) b k t h =
    let x = table E b k t in
    let y = table F (b + size E) k (t + length (texts E)) in
    let z = point.Choice (entry E b k) (entry F (b + size E) k) in
    let g : Holds T b (x ++ y) = holds_left T b (x ++ y) (z ∷ []) h in
    let m : length (x ++ y) ≡ size E + size F = length-append x y ∙ (rw (length_table E b k t, length_table F (b + size E) k (t + length (texts E)))) in (
      laid T E b k t (holds_left T b x y g),
      laid T F (b + size E) k (t + length (texts E)) (holds_right T b (size E) x y (length_table E b k t) g),
      holds_one T (b + (size E + size F)) z (holds_right T b (size E + size F) (x ++ y) (z ∷ []) m h),
    )
laid T (star E) b k t h =
    let x = table E b (b + size E) t in
    let z = point.Star (entry E b (b + size E)) k in (
      laid T E b (b + size E) t (holds_left T b x (z ∷ []) h),
      holds_one T (b + size E) z (holds_right T b (size E) x (z ∷ []) (length_table E b (b + size E) t) h),
    )

pub steps_laid : (e : Expr) → Laid (steps e) e 0 (size e)
unfolding Holds
steps_laid e = laid (steps e) e 0 (size e) 0 (λ i l. ap (steps e) (zero-add i))

-- where a point leads, reads too
abbrev pub To : Step → ℕ → Type 0
To (Read class k) l = l ≡ k
To (Pass k) l = l ≡ k
To (Fork a b) l = (l ≡ a) ⊎ (l ≡ b)
To End l = ⊥

pub leads_bound : (T : ℕ → Step) (e : Expr) (b k m : ℕ) → Laid T e b k → k ≤ m → b + size e ≤ m → (p l : ℕ) → b ≤ p → p < b + size e → To (T p) l → l ≤ m
leads_bound T empty b k m d h i p l x y t = absurd (omega arith)
leads_bound T (read keep class) b k m d h i p l x y t =
    let e : p ≡ b = omega arith in
    let f : To (Read class k) l = subst (λ z. To z l) (ap T e ∙ d) t in
    omega arith
leads_bound T (text bytes) b k m d h i p l x y t =
    let e : p ≡ b = omega arith in
    let f : To (Pass k) l = subst (λ z. To z l) (ap T e ∙ d) t in
    omega arith
leads_bound T (seq E F) b k m d h i p l x y t =
    elim (dec_lt p (b + size E)) [
      | yes z ↦ leads_bound T E b (entry F (b + size E) k) m d.0 (entry_le F (b + size E) k m h (omega arith)) (omega arith) p l x z t
      | no z ↦ leads_bound T F (b + size E) k m d.1 h (omega arith) p l (omega arith) (omega arith) t
    ]
leads_bound T (alt E F) b k m d h i p l x y t =
    elim (dec_lt p (b + size E)) [
      | yes z ↦ leads_bound T E b k m d.0 h (omega arith) p l x z t
      | no z ↦ elim (dec_lt p (b + (size E + size F))) [
        | yes w ↦ leads_bound T F (b + size E) k m d.1 h (omega arith) p l (omega arith) (omega arith) t
        | no w ↦
            let e : p ≡ b + (size E + size F) = omega arith in
            let f : To (Fork (entry E b k) (entry F (b + size E) k)) l = subst (λ z. To z l) (ap T e ∙ d.2) t in
            let u = entry_le E b k m h (omega arith) in
            let v = entry_le F (b + size E) k m h (omega arith) in
            elim f [ inl g ↦ omega arith | inr g ↦ omega arith ]
      ]
    ]
leads_bound T (star E) b k m d h i p l x y t =
    elim (dec_lt p (b + size E)) [
      | yes z ↦ leads_bound T E b (b + size E) m d.0 (omega arith) (omega arith) p l x z t
      | no z ↦
          let e : p ≡ b + size E = omega arith in
          let f : To (Fork (entry E b (b + size E)) k) l = subst (λ z. To z l) (ap T e ∙ d.1) t in
          let u = entry_le E b (b + size E) m (omega arith) (omega arith) in
          elim f [ inl g ↦ omega arith | inr g ↦ omega arith ]
    ]
