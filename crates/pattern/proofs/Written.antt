-- Decoding what an expression writes.
use Rattle.std.proofs.Common.{◌≡◌, ℕ, zero, suc, pred, ◌+◌, ◌-◌, ◌*◌, ◌/◌, ◌%◌, ◌<◌, ◌≤◌, max, Bool, true, false, cond, List, [], ◌∷◌, ◌++◌, length, take, drop, Some, None, Err, Result, sym, refl, ap, ◌∙◌, subst, inl, inr, append_assoc, arith, length-append, le-ltb, lt-ltb, le-leb}
use Rattle.std.proofs.lemmas.Bool.{cases_lt}
use Rattle.std.proofs.lemmas.List.{append-nil, take_at, drop_at}
use Rattle.fault.specs.declared.cause.Cause.TheVariants.{Malformed, PatternLimit}
use Rattle.fault.specs.declared.refusal.Fault.{Fault}
use Rattle.pattern.specs.Limits.{most_points, most_text, most_standing, most_file, largest_number}
use Rattle.pattern.specs.Numbers.{Long, under, groups, small, number, grouped, shortest}
use Rattle.pattern.specs.Expressions.{Expr, empty, read, text, seq, alt, star, size, texts, standing, Writable, read_number, written}
use Rattle.pattern.specs.Files.{total, bytes, within, refused, leaves, limited, given, reading, texting, effect, onward, operations, decoded}
use Rattle.pattern.specs.Laws.{ReadsBack}
use Rattle.pattern.proofs.Numerals.{small_in}
use Rattle.pattern.proofs.Drafting.{within_limits}
use Rattle.pattern.proofs.Operating.{pass_over}

-- what k + 1 groups can hold
abbrev room : ℕ → ℕ
room zero = 128
room (suc k) = 128 * room k

groups_grouped : (k n : ℕ) (rest : List ℕ) → n < room k
    → groups (suc k) (grouped k n ++ rest) ≡ Some (record { value = n; bytes = length (grouped k n) })
groups_grouped zero n rest h = ap (λ t. cond t (Some (record { value = n; bytes = 1 })) (under n None)) (lt-ltb n 128 h)
groups_grouped (suc k) n rest h = elim (cases_lt n 128) [ inl l ↦ one l | inr l ↦ more l (groups_grouped k (n / 128) rest (omega arith)) ]
  where
    Goal : List ℕ → Type 0
    Goal bs = groups (suc (suc k)) (bs ++ rest) ≡ Some (record { value = n; bytes = length bs })

    one : n < 128 → Goal (grouped (suc k) n)
    one l =
        subst Goal (sym (ap (λ t. cond t (n ∷ []) ((n % 128 + 128) ∷ grouped k (n / 128))) (lt-ltb n 128 l)))
        (ap (λ t. cond t (Some (record { value = n; bytes = 1 })) (under n (groups (suc k) rest))) (lt-ltb n 128 l))

    more : 128 ≤ n → groups (suc k) (grouped k (n / 128) ++ rest) ≡ Some (record { value = n / 128; bytes = length (grouped k (n / 128)) }) → Goal (grouped (suc k) n)
    more l ih =
        let q = n / 128 in
        let b = n % 128 + 128 in
        let high : 128 ≤ b = omega arith in
        let value : b % 128 + 128 * q ≡ n = omega arith in
        subst Goal (sym (ap (λ t. cond t (n ∷ []) (b ∷ grouped k q)) (le-ltb n 128 l)))
        (ap (λ t. cond t (Some (record { value = b; bytes = 1 })) (under b (groups (suc k) (grouped k q ++ rest)))) (le-ltb b 128 high)
        ∙ ap (under b) ih
        ∙ ap (λ v. Some (record { value = v; bytes = suc (length (grouped k q)) })) value)

number_shortest : (n : ℕ) (rest : List ℕ) → n ≤ largest_number → number (shortest n ++ rest) ≡ Some (record { value = n; bytes = length (shortest n) })
number_shortest n rest h = ap small (groups_grouped 2 n rest (omega arith)) ∙ small_in (record { value = n; bytes = length (shortest n) }) h

-- an operation within the limits goes on
onward_in : (n : ℕ) (es : List Expr) (place : ℕ) (f : ℕ → List Expr → Result Expr Fault) → within es ≡ true → onward (limited n es) place f ≡ f n es
onward_in n es place f h = ap (λ b. onward (cond b (leaves n es) (refused PatternLimit)) place f) h

-- there is room for an expression over those that stand
pub record Room (es : List Expr) (e : Expr) : Type 0 where
  pub points : total es + size e ≤ most_points
  pub text : length (bytes es) + length (texts e) ≤ most_text
  pub standing : length es + standing e ≤ most_standing

fits : (es : List Expr) (e : Expr) → Room es e → 1 ≤ standing e → within (e ∷ es) ≡ true
fits es e r s =
    let l = length-append (bytes es) (texts e) in
    within_limits (e ∷ es) r.points (omega (arith, r.text)) (omega (arith, r.standing))

stands : (e : Expr) → 1 ≤ standing e
stands empty = omega arith
stands (read keep class) = omega arith
stands (text bs) = omega arith
stands (seq e f) = let i = stands e in omega arith
stands (alt e f) = let i = stands e in omega arith
stands (star e) = stands e

effect_read : (keep : Bool) (bs : List ℕ) (es : List Expr) → effect (read_number keep ∷ bs) es ≡ given (number bs) (reading keep 1 es)
effect_read false bs es = refl
effect_read true bs es = refl

-- past an operation of one byte and its k further bytes
gone : (b : ℕ) (bs rest : List ℕ) (n place : ℕ) (es fs : List Expr) → within fs ≡ true → n ≡ suc (length bs)
    → effect (b ∷ (bs ++ rest)) es ≡ limited n fs
    → operations (b ∷ (bs ++ rest)) 0 place es ≡ operations rest 0 (place + n) fs
gone b bs rest n place es fs w s e =
    let l = length-append bs rest in
    let k : pred n ≡ length bs = omega arith in
    ap (λ t. onward t place (λ n fs. operations (bs ++ rest) (pred n) (suc place) fs)) e
    ∙ onward_in n fs place (λ n fs. operations (bs ++ rest) (pred n) (suc place) fs) w
    ∙ pass_over (bs ++ rest) (pred n) (suc place) fs (omega arith)
    ∙ ap (λ xs. operations xs 0 (suc place + pred n) fs) (drop_at bs rest (pred n) (sym k))
    ∙ ap (λ p. operations rest 0 p fs) (omega arith)

text_effect : (bs rest : List ℕ) (es : List Expr) → length bs ≤ most_text
    → effect (3 ∷ ((shortest (length bs) ++ bs) ++ rest)) es ≡ limited (suc (length (shortest (length bs) ++ bs))) (text bs ∷ es)
text_effect bs rest es h =
    let n = length bs in
    let ws = shortest n in
    let whole : (ws ++ bs) ++ rest ≡ ws ++ (bs ++ rest) = append_assoc ws bs rest in
    let tail = ws ++ (bs ++ rest) in
    let r : Long = record { value = n; bytes = length ws } in
    let a = length-append ws (bs ++ rest) in
    let b = length-append bs rest in
    let c = length-append ws bs in
    let d : drop (length ws) tail ≡ bs ++ rest = drop_at ws (bs ++ rest) (length ws) refl in
    let there : n ≤ length tail - length ws = omega arith in
    ap (λ xs. effect (3 ∷ xs) es) whole
    ∙ ap (λ o. given o (texting 1 tail es)) (number_shortest n (bs ++ rest) (omega arith))
    ∙ ap (λ t. cond t (limited (1 + length ws + n) (text (take n (drop (length ws) tail)) ∷ es)) (refused Malformed)) (le-leb n (length tail - length ws) there)
    ∙ ap (λ xs. limited (1 + length ws + n) (text xs ∷ es)) (ap (take n) d ∙ take_at bs rest n refl)
    ∙ ap (λ m. limited m (text bs ∷ es)) (omega arith)

-- room for the parts of an expression of two parts
module _ (e f : Expr) (es : List Expr) (g : Expr) (more : size e + size f ≤ size g) (same : texts g ≡ texts e ++ texts f)
    (high : standing g ≡ max (standing e) (suc (standing f))) (r : Room es g) where
  room_first : Room es e
  room_first =
      let l = length-append (texts e) (texts f) in
      record { points = omega (arith, r.points); text = omega (arith, r.text, ap length same); standing = omega (arith, r.standing) }

  room_second : Room (e ∷ es) f
  room_second =
      let l = length-append (texts e) (texts f) in
      let k = length-append (bytes es) (texts e) in
      record { points = omega (arith, r.points); text = omega (arith, r.text, ap length same); standing = omega (arith, r.standing) }

-- the bytes of an expression leave it standing over those before it
reads_on : (e : Expr) (rest : List ℕ) (place : ℕ) (es : List Expr) → Room es e → Writable e
    → operations (written e ++ rest) 0 place es ≡ operations rest 0 (place + length (written e)) (e ∷ es)
reads_on empty rest place es r w = gone 0 [] rest 1 place es (empty ∷ es) (fits es empty r (omega arith)) refl refl
reads_on (read keep class) rest place es r w =
    gone (read_number keep) (shortest class) rest (suc (length (shortest class))) place es (read keep class ∷ es) (fits es (read keep class) r (omega arith)) refl
    (effect_read keep (shortest class ++ rest) es
    ∙ ap (λ o. given o (reading keep 1 es)) (number_shortest class rest w)
    ∙ ap (λ m. limited m (read keep class ∷ es)) (omega arith))
reads_on (text bs) rest place es r w =
    gone 3 (shortest (length bs) ++ bs) rest (suc (length (shortest (length bs) ++ bs))) place es (text bs ∷ es) (fits es (text bs) r (omega arith)) refl
    (text_effect bs rest es (omega (arith, r.text)))
reads_on (seq e f) rest place es r w =
    let l = length-append (written e) (written f ++ 4 ∷ []) in
    let k = length-append (written f) (4 ∷ []) in
    ap (λ xs. operations xs 0 place es) (append_assoc (written e) (written f ++ 4 ∷ []) rest ∙ ap (λ xs. written e ++ xs) (append_assoc (written f) (4 ∷ []) rest))
    ∙ reads_on e (written f ++ 4 ∷ rest) place es (room_first e f es (seq e f) (omega arith) refl refl r) w.0
    ∙ reads_on f (4 ∷ rest) (place + length (written e)) (e ∷ es) (room_second e f es (seq e f) (omega arith) refl refl r) w.1
    ∙ gone 4 [] rest 1 (place + length (written e) + length (written f)) (f ∷ e ∷ es) (seq e f ∷ es) (fits es (seq e f) r (stands (seq e f))) refl refl
    ∙ ap (λ p. operations rest 0 p (seq e f ∷ es)) (omega arith)
reads_on (alt e f) rest place es r w =
    let l = length-append (written e) (written f ++ 5 ∷ []) in
    let k = length-append (written f) (5 ∷ []) in
    ap (λ xs. operations xs 0 place es) (append_assoc (written e) (written f ++ 5 ∷ []) rest ∙ ap (λ xs. written e ++ xs) (append_assoc (written f) (5 ∷ []) rest))
    ∙ reads_on e (written f ++ 5 ∷ rest) place es (room_first e f es (alt e f) (omega arith) refl refl r) w.0
    ∙ reads_on f (5 ∷ rest) (place + length (written e)) (e ∷ es) (room_second e f es (alt e f) (omega arith) refl refl r) w.1
    ∙ gone 5 [] rest 1 (place + length (written e) + length (written f)) (f ∷ e ∷ es) (alt e f ∷ es) (fits es (alt e f) r (stands (alt e f))) refl refl
    ∙ ap (λ p. operations rest 0 p (alt e f ∷ es)) (omega arith)
reads_on (star e) rest place es r w =
    let l = length-append (written e) (6 ∷ []) in
    ap (λ xs. operations xs 0 place es) (append_assoc (written e) (6 ∷ []) rest)
    ∙ reads_on e (6 ∷ rest) place es (record { points = omega (arith, r.points); text = r.text; standing = r.standing }) w
    ∙ gone 6 [] rest 1 (place + length (written e)) (e ∷ es) (star e ∷ es) (fits es (star e) r (stands (star e))) refl refl
    ∙ ap (λ p. operations rest 0 p (star e ∷ es)) (omega arith)

decoded_in : (xs : List ℕ) → length xs ≤ most_file → decoded xs ≡ operations xs 0 0 []
decoded_in xs h = ap (λ t. cond t (operations xs 0 0 []) (Err (record { cause = PatternLimit; place = 0 }))) (le-leb (length xs) most_file h)

pub reads_back : ReadsBack
reads_back e w =
    decoded_in (written e) w.file
    ∙ ap (λ xs. operations xs 0 0 []) (sym (append-nil (written e)))
    ∙ reads_on e [] 0 [] (record { points = omega (arith, w.points); text = omega (arith, w.text); standing = omega (arith, w.standing) }) w.classes
