-- A draft before and after each of its operations.
use Rattle.std.proofs.Common.{◌≡◌, ℕ, ◌+◌, ◌-◌, ◌<◌, ◌≤◌, ◌==◌, suc, max, Bool, true, false, cond, ◌&&◌, leb, List, [], ◌∷◌, ◌++◌, map, length, get_or, take, drop, Ok, Err, sym, refl, ap, ◌∙◌, subst, append_assoc, arith, length-append, le-leb}
use mathlib.Core.Logic.{∥∥₁_elim, ∥∥₁_map}
use native.Mathlib.Bridge.{le_prop}
use borrow.Author.Tests.{lt-leb}
use borrow.Rule.Slice.PartMut.{put_mid}
use Rattle.std.specs.List.{refill}
use Rattle.std.proofs.lemmas.Bool.Decides.{nat_tests}
use Rattle.std.proofs.lemmas.Bool.{and_left, and_right}
use Rattle.std.proofs.lemmas.List.{append-nil, length_push}
use Rattle.fault.specs.declared.cause.Cause.TheVariants.{PatternLimit}
use Rattle.fault.specs.declared.refusal.Fault.{Fault}
use Rattle.pattern.specs.declared.point.Point.{Point}
use Rattle.pattern.specs.declared.point.Point.TheVariants.{Choice, Star}
use Rattle.pattern.specs.declared.pattern.draft.Part.{Part}
use Rattle.pattern.specs.declared.pattern.draft.Draft.{Draft}
use Rattle.pattern.specs.Limits.{most_points, most_text, most_standing}
use Rattle.pattern.specs.Expressions.{Expr, seq, alt, star, size, texts, standing}
use Rattle.pattern.specs.Points.{entry, table, open_end, known, fill, ComesFrom}
use Rattle.pattern.specs.Files.{total, bytes, within, refused, leaves, limited}
use Rattle.pattern.specs.Held.{laid, spot, parts, Hold}
use Rattle.pattern.specs.Drafts.{Holds, Done}
use Rattle.pattern.proofs.Fronts.{get_or_last, get_or_prior, popped, mapped_part}
use Rattle.pattern.proofs.Tables.{known_entry, fill_table, length_table}

within_from : (a b c : Bool) → a ≡ true → b ≡ true → c ≡ true → (a && (b && c)) ≡ true
within_from a b c p q r = ap (λ x. x && (b && c)) p ∙ ap (λ x. x && c) q ∙ r

pub within_limits : (es : List Expr) → total es ≤ most_points → length (bytes es) ≤ most_text → length es ≤ most_standing → within es ≡ true
within_limits es p q r =
    within_from (leb (total es) most_points) (leb (length (bytes es)) most_text) (leb (length es) most_standing)
    (le-leb (total es) most_points p) (le-leb (length (bytes es)) most_text q) (le-leb (length es) most_standing r)

-- a draft that holds some expressions is within the limits
pub done_in : {T : Type 0} (n at : ℕ) (es : List Expr) (d : Draft) (u : T) → Holds d es → Done (limited n es) at (Ok u) d
done_in n at es d u h =
    subst (λ b. Done (cond b (leaves n es) (refused PatternLimit)) at (Ok u) d) (sym (within_limits es h.few h.little h.low)) (refl, h)

-- a limit passed: no more points, no more text bytes or no more expressions have room
pub done_out : (T : Type 0) (n at : ℕ) (es : List Expr) (d : Draft) (y : Fault) → y ≡ record { cause = PatternLimit; place = at } → within es ≡ false
    → Done {T = T} (limited n es) at (Err y) d
done_out T n at es d y e h = subst (λ b. Done {T = T} (cond b (leaves n es) (refused PatternLimit)) at (Err y) d) (sym h) (ap Err e)

pub points_out : (es : List Expr) → most_points < total es → within es ≡ false
points_out es h = and_left (leb (total es) most_points) (leb (length (bytes es)) most_text && leb (length es) most_standing) (lt-leb (total es) most_points h)

pub bytes_out : (es : List Expr) → most_text < length (bytes es) → within es ≡ false
bytes_out es h =
    and_right (leb (total es) most_points) (leb (length (bytes es)) most_text && leb (length es) most_standing)
    (and_left (leb (length (bytes es)) most_text) (leb (length es) most_standing) (lt-leb (length (bytes es)) most_text h))

pub count_out : (es : List Expr) → most_standing < length es → within es ≡ false
count_out es h =
    and_right (leb (total es) most_points) (leb (length (bytes es)) most_text && leb (length es) most_standing)
    (and_right (leb (length (bytes es)) most_text) (leb (length es) most_standing) (lt-leb (length es) most_standing h))

-- what the test for a full vector says
pub is_full : (n k : ℕ) (b : Bool) → b ≡ (n == k) → b ≡ true → n ≡ k
is_full n k b e t = grind (arith, nat_tests)

pub has_room : (n k : ℕ) (b : Bool) → b ≡ (n == k) → n ≤ k → b ≡ false → n < k
has_room n k b e le t = grind (arith, nat_tests)

pub length_laid : (es : List Expr) → length (laid es) ≡ total es
length_laid [] = refl
length_laid (e ∷ es) =
    let t = table e (total es) open_end (length (bytes es)) in
    omega (arith, length-append (laid es) t, length_laid es, length_table e (total es) open_end (length (bytes es)))

pub length_parts : (es : List Expr) → length (parts es) ≡ length es
length_parts [] = refl
length_parts (e ∷ es) =
    omega (arith, length_push (parts es) (spot e es), length_parts es)

-- one more expression, of at most one point: b is the number of its point, t where its text begins
pub pushed : (e : Expr) (es : List Expr) (ps ns : List Point) (ts us : List ℕ) (qs rs : List Part) (b t : ℕ) → Hold ps ts qs es
    → b ≡ length ps → t ≡ length ts
    → ns ≡ ps ++ table e b open_end t
    → us ≡ ts ++ texts e
    → rs ≡ qs ++ record { start = b; entry = entry e b open_end } ∷ []
    → b + size e ≤ most_points → length ts + length (texts e) ≤ most_text → length qs < most_standing → standing e ≡ 1
    → Hold ns us rs (e ∷ es)
pushed e es ps ns ts us qs rs b t h hb ht hp hu hq few little low flat =
    let c : b ≡ total es = hb ∙ ap length h.points ∙ length_laid es in
    let k : length qs ≡ length es = ap length h.parts ∙ length_parts es in
    let text : us ≡ bytes (e ∷ es) = hu ∙ ap (λ l. l ++ texts e) h.text in
    record {
      points = hp ∙ ap (λ l. l ++ table e b open_end t) h.points
          ∙ ap (λ i. laid es ++ table e i open_end t) c ∙ ap (λ i. laid es ++ table e (total es) open_end i) (ht ∙ ap length h.text);
      few = omega arith;
      text = text;
      little = omega (arith, ap length h.text, length-append (bytes es) (texts e));
      parts = hq ∙ ap (λ l. l ++ record { start = b; entry = entry e b open_end } ∷ []) h.parts
          ∙ ap (λ i. parts es ++ record { start = i; entry = entry e i open_end } ∷ []) c;
      low = omega arith;
      stood = (omega arith, h.stood);
    }

-- in the parts ss that were read: the last, which is that of the newest expression, and the one before it, that of the expression before
abbrev pub newest : List Part → Part
newest ss = get_or ss (length ss - 1) (record { start = 0; entry = 0 })

abbrev pub prior : List Part → Part
prior ss = get_or ss (length ss - 2) (record { start = 0; entry = 0 })

module _ (ps : List Point) (ts : List ℕ) (qs ss : List Part) (same : ss ≡ qs) where
  newest_is : (e : Expr) (es : List Expr) → Hold ps ts qs (e ∷ es) → newest ss ≡ spot e es
  newest_is e es h = get_or_last ss (parts es) (spot e es) (record { start = 0; entry = 0 }) (same ∙ h.parts)

  prior_is : (e f : Expr) (es : List Expr) → Hold ps ts qs (f ∷ e ∷ es) → prior ss ≡ spot e es
  prior_is e f es h = get_or_prior ss (parts es) (spot e es) (spot f (e ∷ es)) (record { start = 0; entry = 0 }) (same ∙ h.parts)

  -- what holds of every list of at least one expression, or two, holds of those that stand
  pub one_stands : (P : List Expr → Type 0) → 1 ≤ length ss → ((e : Expr) (es : List Expr) → Hold ps ts qs (e ∷ es) → P (e ∷ es))
      → (es : List Expr) → Hold ps ts qs es → P es
  one_stands P le f [] h = absurd (omega (arith, ap length same, ap length h.parts))
  one_stands P le f (e ∷ es) h = f e es h

  pub two_stand : (P : List Expr → Type 0) → 2 ≤ length ss → ((e f : Expr) (es : List Expr) → Hold ps ts qs (f ∷ e ∷ es) → P (f ∷ e ∷ es))
      → (es : List Expr) → Hold ps ts qs es → P es
  two_stand P le g [] h = absurd (omega (arith, ap length same, ap length h.parts))
  two_stand P le g (e ∷ []) h = absurd (omega (arith, ap length same, ap length h.parts))
  two_stand P le g (f ∷ e ∷ es) h = g e f es h

  -- so the expressions that stand afterwards are found too
  pub one_held : (ns : List Point) (us : List ℕ) (rs : List Part) (f : Expr → Expr) → ∥ ((es : List Expr) × Hold ps ts qs es) ∥₁ → 1 ≤ length ss
      → ((e : Expr) (es : List Expr) → Hold ps ts qs (e ∷ es) → Hold ns us rs (f e ∷ es)) → ∥ ((es : List Expr) × Hold ns us rs es) ∥₁
  one_held ns us rs f held le g =
      ∥∥₁_map held (λ w. one_stands (λ _. (fs : List Expr) × Hold ns us rs fs) le (λ e es h. (f e ∷ es, g e es h)) w.0 w.1)

  pub two_held : (ns : List Point) (us : List ℕ) (rs : List Part) (f : Expr → Expr → Expr) → ∥ ((es : List Expr) × Hold ps ts qs es) ∥₁ → 2 ≤ length ss
      → ((d e : Expr) (es : List Expr) → Hold ps ts qs (e ∷ d ∷ es) → Hold ns us rs (f d e ∷ es)) → ∥ ((es : List Expr) × Hold ns us rs es) ∥₁
  two_held ns us rs f held le g =
      ∥∥₁_map held (λ w. two_stand (λ _. (fs : List Expr) × Hold ns us rs fs) le (λ d e es h. (f d e ∷ es, g d e es h)) w.0 w.1)

  -- the parts lie one after the other within the points
  pub newest_within : ∥ ((es : List Expr) × Hold ps ts qs es) ∥₁ → 1 ≤ length ss → (newest ss).start ≤ length ps
  newest_within held le = ∥∥₁_elim held le_prop (λ w. one_stands (λ es. (newest ss).start ≤ length ps) le go w.0 w.1)
    where
      go : (e : Expr) (es : List Expr) → Hold ps ts qs (e ∷ es) → (newest ss).start ≤ length ps
      go e es h =
          let t : (newest ss).start ≡ total es = ap (λ p. p.start) (newest_is e es h) in
          omega (arith, t, ap length h.points, length_laid (e ∷ es))

  pub prior_within : ∥ ((es : List Expr) × Hold ps ts qs es) ∥₁ → 2 ≤ length ss → (prior ss).start ≤ (newest ss).start
  prior_within held le = ∥∥₁_elim held le_prop (λ w. two_stand (λ es. (prior ss).start ≤ (newest ss).start) le go w.0 w.1)
    where
      go : (e f : Expr) (es : List Expr) → Hold ps ts qs (f ∷ e ∷ es) → (prior ss).start ≤ (newest ss).start
      go e f es h =
          let t : (newest ss).start ≡ total es + size e = ap (λ p. p.start) (newest_is f (e ∷ es) h) in
          let b : (prior ss).start ≡ total es = ap (λ p. p.start) (prior_is e f es h) in
          omega (arith, t, b)

-- two expressions in one: ss are the parts as they were read, mid and left what two pops leave, and rs has one part in the place of both
module _ (ps : List Point) (ts : List ℕ) (qs ss mid left rs : List Part) (k : ℕ) (read : ss ≡ qs) (one : mid ≡ take (length qs - 1) qs)
    (two : left ≡ take (length mid - 1) mid) (put : rs ≡ left ++ record { start = (prior ss).start; entry = k } ∷ [])
    (e f : Expr) (es : List Expr) (h : Hold ps ts qs (f ∷ e ∷ es)) where
  is_older : prior ss ≡ spot e es
  is_older = prior_is ps ts qs ss read e f es h

  is_later : newest ss ≡ spot f (e ∷ es)
  is_later = newest_is ps ts qs ss read f (e ∷ es) h

  rest : left ≡ parts es
  rest = popped mid left (parts es) (spot e es) (popped qs mid (parts (e ∷ es)) (spot f (e ∷ es)) h.parts one) two

  -- ys are the points of the older one with its follower put in
  joined_points : (ds ys : List Point) → ds ≡ ps → ys ≡ map (fill (newest ss).entry) (take ((newest ss).start - (prior ss).start) (drop (prior ss).start ds))
      → refill (length ps) ps (put_mid (prior ss).start ((newest ss).start - (prior ss).start) ds ys) ≡ laid (seq e f ∷ es)
  joined_points ds ys same hy =
      let b = total es in
      let t = length (bytes es) in
      let m = table e b open_end t in
      let q = table f (b + size e) open_end (length (bytes es ++ texts e)) in
      let o : (prior ss).start ≡ b = ap (λ p. p.start) is_older in
      let l : (newest ss).start ≡ b + size e = ap (λ p. p.start) is_later in
      let kf : (newest ss).entry ≡ entry f (b + size e) open_end = ap (λ p. p.entry) is_later in
      mapped_part (fill (newest ss).entry) ps ds (laid es) m q ys (prior ss).start ((newest ss).start - (prior ss).start)
      same h.points (o ∙ sym (length_laid es)) (omega (arith, o, l, length_table e b open_end t)) hy
      ∙ ap (λ x. (laid es ++ x) ++ q) (fill_table e b open_end (newest ss).entry t (omega (arith, h.few)))
      ∙ ap (λ x. (laid es ++ table e b x t) ++ q) kf
      ∙ ap (λ x. (laid es ++ table e b (entry f (b + size e) open_end) t) ++ table f (b + size e) open_end x) (length-append (bytes es) (texts e))
      ∙ append_assoc (laid es) (table e b (entry f (b + size e) open_end) t) (table f (b + size e) open_end (t + length (texts e)))

  joined_entry : k ≡ known (newest ss).entry (prior ss).entry → k ≡ entry (seq e f) (total es) open_end
  joined_entry hk =
      hk ∙ ap (known (newest ss).entry) (ap (λ p. p.entry) is_older)
      ∙ known_entry e (total es) open_end (newest ss).entry (omega (arith, h.few))
      ∙ ap (entry e (total es)) (ap (λ p. p.entry) is_later)

  -- one expression g in the place of both
  one_of_two : (g : Expr) (ns : List Point) → ns ≡ laid (g ∷ es) → k ≡ entry g (total es) open_end → total (g ∷ es) ≤ most_points
      → texts g ≡ texts e ++ texts f → standing g ≡ max (standing e) (suc (standing f)) → Hold ns ts rs (g ∷ es)
  one_of_two g ns hp hk few same high =
      let text : bytes (f ∷ e ∷ es) ≡ bytes (g ∷ es) = append_assoc (bytes es) (texts e) (texts f) ∙ ap (λ l. bytes es ++ l) (sym same) in
      record {
        points = hp;
        few = few;
        text = h.text ∙ text;
        little = omega (arith, h.little, ap length text);
        parts = put ∙ ap (λ l. l ++ record { start = (prior ss).start; entry = k } ∷ []) rest
            ∙ ap (λ i. parts es ++ record { start = i; entry = k } ∷ []) (ap (λ p. p.start) is_older)
            ∙ ap (λ i. parts es ++ record { start = total es; entry = i } ∷ []) hk;
        low = omega (arith, h.low);
        stood = (omega (arith, h.stood.0, h.stood.1.0), h.stood.1.1);
      }

  pub joined : (ds ys : List Point) → ds ≡ ps → ys ≡ map (fill (newest ss).entry) (take ((newest ss).start - (prior ss).start) (drop (prior ss).start ds))
      → k ≡ known (newest ss).entry (prior ss).entry
      → Hold (refill (length ps) ps (put_mid (prior ss).start ((newest ss).start - (prior ss).start) ds ys)) ts rs (seq e f ∷ es)
  joined ds ys same hy hk =
      one_of_two (seq e f) (refill (length ps) ps (put_mid (prior ss).start ((newest ss).start - (prior ss).start) ds ys))
      (joined_points ds ys same hy) (joined_entry hk) (omega (arith, h.few)) refl refl

  pub chosen : (ns : List Point) → ns ≡ ps ++ Choice (prior ss).entry (newest ss).entry ∷ [] → length ps < most_points → k ≡ length ps
      → Hold ns ts rs (alt e f ∷ es)
  chosen ns hp few hk =
      let b = total es in
      let t = length (bytes es) in
      let m = table e b open_end t in
      let q = table f (b + size e) open_end (length (bytes es ++ texts e)) in
      let c : length ps ≡ b + (size e + size f) = omega (arith, ap length h.points, length_laid (f ∷ e ∷ es)) in
      let last : Choice (prior ss).entry (newest ss).entry ≡ Choice (entry e b open_end) (entry f (b + size e) open_end) =
      ap (λ x. Choice x (newest ss).entry) (ap (λ p. p.entry) is_older) ∙ ap (Choice (entry e b open_end)) (ap (λ p. p.entry) is_later) in
      one_of_two (alt e f) ns
      (hp ∙ ap (λ l. l ++ Choice (prior ss).entry (newest ss).entry ∷ []) h.points
      ∙ ap (λ x. ((laid es ++ m) ++ q) ++ x ∷ []) last
      ∙ ap (λ x. ((laid es ++ m) ++ table f (b + size e) open_end x) ++ Choice (entry e b open_end) (entry f (b + size e) open_end) ∷ []) (length-append (bytes es) (texts e))
      ∙ ap (λ l. l ++ Choice (entry e b open_end) (entry f (b + size e) open_end) ∷ []) (append_assoc (laid es) m (table f (b + size e) open_end (t + length (texts e))))
      ∙ append_assoc (laid es) (m ++ table f (b + size e) open_end (t + length (texts e))) (Choice (entry e b open_end) (entry f (b + size e) open_end) ∷ []))
      (hk ∙ c) (omega (arith, c)) refl refl

-- a star: ss are the parts as they were read, left what a pop leaves, ys the points with the star as their follower
pub looped : (ps ns ds ys : List Point) (ts : List ℕ) (qs ss left rs : List Part) (n k : ℕ) → n ≡ length ps → ss ≡ qs → left ≡ take (length qs - 1) qs
    → ds ≡ ps → ys ≡ map (fill n) (take (length ds - (newest ss).start) (drop (newest ss).start ds))
    → ns ≡ refill (length ps) ps (put_mid (newest ss).start (length ds - (newest ss).start) ds ys) ++ Star k open_end ∷ []
    → k ≡ known n (newest ss).entry → n < most_points
    → rs ≡ left ++ record { start = (newest ss).start; entry = n } ∷ []
    → (e : Expr) (es : List Expr) → Hold ps ts qs (e ∷ es) → Hold ns ts rs (star e ∷ es)
looped ps ns ds ys ts qs ss left rs n k hn read one same hy hp hk few put e es h =
    let last = newest ss in
    let is_last : last ≡ spot e es = newest_is ps ts qs ss read e es h in
    let rest : left ≡ parts es = popped qs left (parts es) (spot e es) h.parts one in
    let b = total es in
    let t = length (bytes es) in
    let m = table e b open_end t in
    let o : last.start ≡ b = ap (λ p. p.start) is_last in
    let c : n ≡ b + size e = hn ∙ ap length h.points ∙ length_laid (e ∷ es) in
    let whole : length ds ≡ n = ap length same ∙ sym hn in
    let ke : k ≡ entry e b n = hk ∙ ap (known n) (ap (λ p. p.entry) is_last) ∙ known_entry e b open_end n (omega (arith, h.few)) in
    record {
      points = hp
          ∙ ap (λ l. l ++ Star k open_end ∷ [])
          (mapped_part (fill n) ps ds (laid es) m [] ys last.start (length ds - last.start) same (h.points ∙ sym (append-nil (laid es ++ m)))
          (o ∙ sym (length_laid es)) (omega (arith, o, c, whole, length_table e b open_end t)) hy
          ∙ append-nil (laid es ++ map (fill n) m)
          ∙ ap (λ l. laid es ++ l) (fill_table e b open_end n t (omega (arith, h.few))))
          ∙ ap (λ x. (laid es ++ table e b n t) ++ Star x open_end ∷ []) ke
          ∙ ap (λ x. (laid es ++ table e b x t) ++ Star (entry e b x) open_end ∷ []) c
          ∙ append_assoc (laid es) (table e b (b + size e) t) (Star (entry e b (b + size e)) open_end ∷ []);
      few = omega (arith, c);
      text = h.text;
      little = h.little;
      parts = put ∙ ap (λ l. l ++ record { start = last.start; entry = n } ∷ []) rest
          ∙ ap (λ i. parts es ++ record { start = i; entry = n } ∷ []) o
          ∙ ap (λ i. parts es ++ record { start = total es; entry = i } ∷ []) c;
      low = h.low;
      stood = (h.stood.0, h.stood.1);
    }

-- the pattern of the one expression that stands: x is its part, fs are the points with the end point as their follower
pub finished : (ps fs ns : List Point) (ts us : List ℕ) (qs ss : List Part) (n at : ℕ) (e : Expr) → Hold ps ts qs (e ∷ []) → ss ≡ qs
    → n ≡ length ps → fs ≡ map (fill n) ps → ns ≡ fs → us ≡ ts → at ≡ known n (get_or ss 0 (record { start = 0; entry = 0 })).entry → ComesFrom ns us at e
finished ps fs ns ts us qs ss n at e h same hn hf hp hu ha =
    let c : n ≡ size e = hn ∙ ap length h.points ∙ length_table e 0 open_end 0 in
    let p : get_or ss 0 (record { start = 0; entry = 0 }) ≡ spot e [] = ap (λ l. get_or l 0 (record { start = 0; entry = 0 })) (same ∙ h.parts) in
    record {
      points = hp ∙ hf ∙ ap (map (fill n)) h.points ∙ fill_table e 0 open_end n 0 (omega (arith, h.few)) ∙ ap (λ k. table e 0 k 0) c;
      text = hu ∙ h.text;
      entry = ha ∙ ap (λ q. known n q.entry) p ∙ known_entry e 0 open_end n (omega (arith, h.few)) ∙ ap (entry e 0) c;
      few = omega (arith, h.few);
      little = h.little;
      low = omega (arith, h.stood.0);
    }
