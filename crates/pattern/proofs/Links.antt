-- What every point of a pattern keeps: its links lead to points or to the end, a text goes on to a larger number, and its bytes lie within the text bytes.
use Rattle.std.proofs.Common.{◌≡◌, ℕ, zero, suc, ◌+◌, ◌-◌, ◌<◌, ◌≤◌, List, [], ◌∷◌, ◌++◌, length, get_or, take, drop, Some, None, sym, inl, inr, ap, ◌∙◌, subst, arith, length-append}
use mathlib.Core.Logic.{∥∥₁_elim}
use mathlib.Core.HLevel.{×_prop}
use native.Mathlib.Bridge.{le_prop}
use Rattle.std.proofs.lemmas.Bool.{cases_lt}
use Rattle.std.proofs.lemmas.List.{get_or-take, length-take-le, take-take}
use Rattle.std.proofs.lemmas.Slice.{between_is}
use Rattle.std.proofs.lemmas.Option.{slice_get-get_or, slice_get_past}
use Rattle.std.specs.List.{slice_get}
use Rattle.pattern.specs.declared.point.Point.{Point}
use Rattle.pattern.specs.declared.point.Point.TheVariants.{Read, Text, Choice, Star}
use Rattle.pattern.specs.declared.pattern.Pattern.{Pattern}
use Rattle.pattern.specs.Expressions.{Expr, empty, read, text, seq, alt, star, size, texts}
use Rattle.pattern.specs.Points.{entry, table}
use Rattle.pattern.specs.Patterns.{points_of, text_of, bytes_at, Leads, LeadsIf}
use Rattle.pattern.proofs.Tables.{length_table}

-- P holds of each point of a list, by its number, the first being i
abbrev Each : (ℕ → Point → Type 0) → ℕ → List Point → Type 0
Each P i [] = Unit {0}
Each P i (p ∷ ps) = P i p × Each P (suc i) ps

module _ (P : ℕ → Point → Type 0) where
  each_append : (i j : ℕ) (ps qs : List Point) → j ≡ i + length ps → Each P i ps → Each P j qs → Each P i (ps ++ qs)
  each_append i j [] qs e h k = subst (λ n. Each P n qs) (let s : j ≡ i = omega arith in s) k
  each_append i j (p ∷ ps) qs e h k = (h.0, each_append (suc i) j ps qs (omega arith) h.1 k)

  each_at : (i j : ℕ) (ps : List Point) (d : Point) → j < length ps → Each P i ps → P (i + j) (get_or ps j d)
  each_at i j [] d l h = absurd (omega arith)
  each_at i zero (p ∷ ps) d l h = subst (λ n. P n p) (let s : i ≡ i + 0 = omega arith in s) h.0
  each_at i (suc j) (p ∷ ps) d l h = subst (λ n. P n (get_or ps j d)) (let s : suc i + j ≡ i + suc j = omega arith in s) (each_at (suc i) j ps d (omega arith) h.1)

-- the links of the point number i are at most m, and texts end at u or before
abbrev Sound : ℕ → ℕ → ℕ → Point → Type 0
Sound m u i (Read keep class to) = to ≤ m
Sound m u i (Text start len to) = ((to ≤ m) × (i < to)) × (start + len ≤ u)
Sound m u i (Choice a b) = (a ≤ m) × (b ≤ m)
Sound m u i (Star a b) = (a ≤ m) × (b ≤ m)

sound_prop : (m u i : ℕ) (p : Point) → IsProp (Sound m u i p)
sound_prop m u i (Read keep class to) = le_prop
sound_prop m u i (Text start len to) = ×_prop (×_prop le_prop le_prop) le_prop
sound_prop m u i (Choice a b) = ×_prop le_prop le_prop
sound_prop m u i (Star a b) = ×_prop le_prop le_prop

-- an entry lies between the first point's number and any bound of the points and the follower
pub entry_le : (e : Expr) (b k m : ℕ) → k ≤ m → b + size e ≤ m → entry e b k ≤ m
entry_le empty b k m p q = p
entry_le (read keep class) b k m p q = omega arith
entry_le (text bs) b k m p q = omega arith
entry_le (seq e f) b k m p q = entry_le e b (entry f (b + size e) k) m (entry_le f (b + size e) k m p (omega arith)) (omega arith)
entry_le (alt e f) b k m p q = omega arith
entry_le (star e) b k m p q = omega arith

pub entry_ge : (e : Expr) (b k : ℕ) → b + size e ≤ k → b ≤ entry e b k
entry_ge empty b k p = omega arith
entry_ge (read keep class) b k p = omega arith
entry_ge (text bs) b k p = omega arith
entry_ge (seq e f) b k p =
    let q = entry_ge f (b + size e) k (omega arith) in
    entry_ge e b (entry f (b + size e) k) q
entry_ge (alt e f) b k p = omega arith
entry_ge (star e) b k p = omega arith

-- a follower is never below the numbers of the points before it
table_sound : (e : Expr) (b k t m u : ℕ) → k ≤ m → b + size e ≤ k → t + length (texts e) ≤ u → Each (Sound m u) b (table e b k t)
table_sound empty b k t m u p q r = tt
table_sound (read keep class) b k t m u p q r = (p, tt)
table_sound (text bs) b k t m u p q r = (((p, omega arith), r), tt)
table_sound (seq e f) b k t m u p q r =
    let l = length-append (texts e) (texts f) in
    let g = entry f (b + size e) k in
    let s = length_table e b g t in
    each_append (Sound m u) b (b + size e) (table e b g t) (table f (b + size e) k (t + length (texts e))) (omega arith)
    (table_sound e b g t m u (entry_le f (b + size e) k m p (omega arith)) (entry_ge f (b + size e) k (omega arith)) (omega arith))
    (table_sound f (b + size e) k (t + length (texts e)) m u p (omega arith) (omega arith))
table_sound (alt e f) b k t m u p q r =
    let l = length-append (texts e) (texts f) in
    let x = table e b k t in
    let y = table f (b + size e) k (t + length (texts e)) in
    let s = length_table e b k t in
    let v = length_table f (b + size e) k (t + length (texts e)) in
    let w = length-append x y in
    each_append (Sound m u) b (b + (size e + size f)) (x ++ y) (Choice (entry e b k) (entry f (b + size e) k) ∷ []) (omega arith)
    (each_append (Sound m u) b (b + size e) x y (omega arith)
    (table_sound e b k t m u p (omega arith) (omega arith))
    (table_sound f (b + size e) k (t + length (texts e)) m u p (omega arith) (omega arith)))
    ((entry_le e b k m p (omega arith), entry_le f (b + size e) k m p (omega arith)), tt)
table_sound (star e) b k t m u p q r =
    let s = b + size e in
    let l = length_table e b s t in
    each_append (Sound m u) b s (table e b s t) (Star (entry e b s) k ∷ []) (omega arith)
    (table_sound e b s t m u (omega arith) (omega arith) r)
    ((entry_le e b s m (omega arith) (omega arith), p), tt)

-- a part of the bytes in use is the same part of all
pub part_of : (xs : List ℕ) (u start len : ℕ) → start + len ≤ u → take (start + len - start) (drop start xs) ≡ take len (drop start (take u xs))
part_of xs u start len h =
    between_is xs start (start + len)
    ∙ ap (drop start) (sym (take-take (start + len) u xs h))
    ∙ sym (between_is (take u xs) start (start + len))
    ∙ ap (λ n. take n (drop start (take u xs))) (omega arith)

module _ (p : Pattern) where
  pub count_points : length (points_of p) ≡ p.count
  count_points = length-take-le p.count p.points p.inside

  pub count_text : length (text_of p) ≡ p.used
  count_text = length-take-le p.used p.text p.little

  -- every point of a pattern, out of the pattern's invariant
  sound_at : (i : ℕ) (d : Point) → i < p.count → Sound p.count p.used i (get_or p.points i d)
  sound_at i d l =
      ∥∥₁_elim p.made (sound_prop p.count p.used i (get_or p.points i d))
      (λ w.
      let e = w.0 in
      let c = w.1 in
      let n = count_points in
      let s : size e ≡ p.count = omega (arith, ap length c.points, length_table e 0 (size e) 0, n) in
      let t : length (texts e) ≡ p.used = omega (arith, ap length c.text, count_text) in
      let all : Each (Sound p.count p.used) 0 (points_of p) =
      subst (Each (Sound p.count p.used) 0) (sym c.points) (table_sound e 0 (size e) 0 p.count p.used (omega arith) (omega arith) (omega arith)) in
      let here : Sound p.count p.used (0 + i) (get_or (points_of p) i d) = each_at (Sound p.count p.used) 0 i (points_of p) d (omega arith) all in
      let same : 0 + i ≡ i = omega arith in
      subst (Sound p.count p.used i) (get_or-take p.count p.points i d l) (subst (λ n. Sound p.count p.used n (get_or (points_of p) i d)) same here))

  pub entry_within : p.entry ≤ p.count
  entry_within =
      ∥∥₁_elim p.made le_prop
      (λ w.
      let e = w.0 in
      let c = w.1 in
      let s : size e ≡ p.count = omega (arith, ap length c.points, length_table e 0 (size e) 0, count_points) in
      let i = entry_le e 0 (size e) p.count (omega arith) (omega arith) in
      omega (arith, c.entry, i))

  -- a text lies within the text bytes in use
  pub text_within : (i : ℕ) (d : Point) (start len to : ℕ) → i < p.count → get_or p.points i d ≡ Text start len to → start + len ≤ p.used
  text_within i d start len to l e = (subst (Sound p.count p.used i) e (sound_at i d l)).1

  pub point_at : (i : ℕ) (d : Point) → i < p.count → Some (get_or p.points i d) ≡ slice_get (points_of p) i
  point_at i d l =
      sym (slice_get-get_or (points_of p) i d (omega (arith, count_points)) ∙ ap Some (get_or-take p.count p.points i d l))

  pub none_at : (i : ℕ) → p.count ≤ i → None ≡ slice_get (points_of p) i
  none_at i l = sym (slice_get_past (points_of p) i (omega (arith, count_points)))

  pub leads_at : (i : ℕ) (d : Point) → i < p.count → LeadsIf (length (points_of p)) i (Some (get_or p.points i d))
  leads_at i d l =
      let n = count_points in
      (omega arith, subst (λ m. Leads m i (get_or p.points i d)) (sym n) (go (get_or p.points i d) (sound_at i d l)))
    where
      go : (q : Point) → Sound p.count p.used i q → Leads p.count i q
      go (Read keep class to) h = h
      go (Text start len to) h = h.0
      go (Choice a b) h = h
      go (Star a b) h = h

  -- the bytes of a text lie within the text bytes in use
  pub text_inside : (i start len to : ℕ) → slice_get (points_of p) i ≡ Some (Text start len to) → start + len ≤ p.used
  text_inside i start len to e =
      elim (cases_lt i p.count) [
        | inl l ↦
            let same = point_at i (Choice 0 0) l ∙ e in
            let is : get_or p.points i (Choice 0 0) ≡ Text start len to = cc in
            text_within i (Choice 0 0) start len to l is
        | inr l ↦ absurd (let same = none_at i l ∙ e in let z : ◌≡◌ {A = ℕ} 0 1 = cc in omega arith)
      ]

  pub text_bytes : (i start len to : ℕ) → slice_get (points_of p) i ≡ Some (Text start len to)
      → take (start + len - start) (drop start p.text) ≡ bytes_at (text_of p) (slice_get (points_of p) i)
  text_bytes i start len to e =
      part_of p.text p.used start len (text_inside i start len to e) ∙ ap (bytes_at (text_of p)) (sym e)
