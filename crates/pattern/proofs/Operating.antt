-- An operation of a file by what was read of it.
use Rattle.std.proofs.Common.{◌≡◌, ℕ, zero, suc, pred, ◌+◌, ◌-◌, ◌<◌, ◌≤◌, Bool, true, false, cond, leb, List, [], ◌∷◌, length, take, drop, Some, None, Ok, Err, Option, Result, sym, refl, ap, ◌∙◌, subst, arith, le-leb, leb-true}
use Rattle.std.proofs.lemmas.List.{drop-drop, length-drop}
use Rattle.fault.specs.declared.cause.Cause.TheVariants.{Malformed, PatternLimit}
use Rattle.fault.specs.declared.refusal.Fault.{Fault}
use Rattle.pattern.specs.declared.operation.Operation.{Operation}
use Rattle.pattern.specs.declared.operation.Operation.TheVariants.{Empty, Drops, Keeps, Text, Sequence, Choice, Star}
use Rattle.pattern.specs.declared.pattern.load.Loader.{Loader}
use Rattle.pattern.specs.Numbers.{Long, number}
use Rattle.pattern.specs.Expressions.{Expr, empty, read, text, seq, alt, star}
use Rattle.pattern.specs.Operations.{operation_of}
use Rattle.pattern.specs.Files.{within, Effect, refused, leaves, limited, on_one, on_two, given, known_as, reading, texting, operate, effect, final, onward, operations}
use Rattle.pattern.specs.Drafts.{Holds, Done}
use Rattle.pattern.specs.Loading.{Taken, Works}
use Rattle.pattern.proofs.Numerals.{number_inside}

-- the number v was taken off the unread bytes of a loader
pub record Took (old new : Loader) (v : ℕ) : Type 0 where
  pub long : Long
  pub is : number old.rest.now ≡ Some long
  pub value : v ≡ long.value
  pub draft : new.draft ≡ old.draft
  pub rest : new.rest.now ≡ drop long.bytes old.rest.now
  pub place : new.place ≡ old.place

pub took : (old new : Loader) (v : ℕ) → Taken (number old.rest.now) old new (Some v) → Took old new v
took old new v t = go (number old.rest.now) refl t
  where
    go : (o : Option Long) → number old.rest.now ≡ o → Taken o old new (Some v) → Took old new v
    go None is h = absurd (let e = h.0 in let z : ◌≡◌ {A = ℕ} 0 1 = cc in omega arith)
    go (Some x) is h =
        let e = h.0 in
        let same : v ≡ x.value = cc in
        record { long = x; is = is; value = same; draft = h.1; rest = h.2; place = h.3 }

-- what a draft answers is what the loader does, once the bytes are read
module _ (n k m : ℕ) (old new : Loader) (r : Result (Unit {0}) Fault) (all : n + k ≡ m) (rest : new.rest.now ≡ drop k old.rest.now) where
  pub limited_works : (es : List Expr) → Done (limited m es) old.place r new.draft → Works n (limited m es) old new r
  limited_works es = go (within es)
    where
      go : (b : Bool) → Done (cond b (leaves m es) (refused PatternLimit)) old.place r new.draft → Works n (cond b (leaves m es) (refused PatternLimit)) old new r
      go true h = (h.0, h.1, (k, all, rest))
      go false h = h

  pub one_works : (f : Expr → Expr) (es : List Expr) → Done (on_one f m es) old.place r new.draft → Works n (on_one f m es) old new r
  one_works f [] h = h
  one_works f (e ∷ es) h = limited_works (f e ∷ es) h

  pub two_works : (f : Expr → Expr → Expr) (es : List Expr) → Done (on_two f m es) old.place r new.draft → Works n (on_two f m es) old new r
  two_works f [] h = h
  two_works f (e ∷ []) h = h
  two_works f (e ∷ d ∷ es) h = limited_works (f d e ∷ es) h

-- what is done after n bytes
pub works_after : (n : ℕ) (t : Effect) (old mid new : Loader) (r : Result (Unit {0}) Fault) → mid.rest.now ≡ drop n old.rest.now → mid.place ≡ old.place
    → Works n t mid new r → Works 0 t old new r
works_after n (refused c) old mid new r e p h = h ∙ ap (λ q. Err (record { cause = c; place = q })) p
works_after n (leaves m es) old mid new r e p h = (
  h.0,
  h.1,
  (m, omega arith, h.2.2 ∙ ap (drop h.2.0) e ∙ drop-drop h.2.0 n old.rest.now ∙ ap (λ i. drop i old.rest.now) h.2.1),
)

-- an operation by its number and the bytes after it
pub operation_works : (old mid new : Loader) (v : ℕ) (a : Took old mid v) (o : Operation) (es : List Expr) (r : Result (Unit {0}) Fault)
    → operation_of v ≡ Some o → Works 0 (operate o a.long.bytes mid.rest.now es) old new r → Works 0 (effect old.rest.now es) old new r
operation_works old mid new v a o es r e h =
    let x = a.long in
    let f : Long → Effect = λ q. known_as (operation_of q.value) (λ o. operate o q.bytes (drop q.bytes old.rest.now) es) in
    subst (λ t. Works 0 t old new r)
    (sym (ap (λ q. given q f) a.is
    ∙ ap (λ k. known_as k (λ o. operate o x.bytes (drop x.bytes old.rest.now) es)) (ap operation_of (sym a.value) ∙ e)
    ∙ ap (λ bs. operate o x.bytes bs es) (sym a.rest)))
    h

-- what a loader does once the number v of an operation is taken: its draft does it, or it reads on
module _ (old mid new : Loader) (v : ℕ) (es : List Expr) (r : Result (Unit {0}) Fault) (t : Taken (number old.rest.now) old mid (Some v)) (h : Holds old.draft es) where
  abbrev begun : Took old mid v
  begun = took old mid v t

  abbrev taken : ℕ
  taken = begun.long.bytes

  held : Holds mid.draft es
  held = subst (λ d. Holds d es) (sym begun.draft) h

  at_place : (m : Effect) → Done m mid.place r new.draft → Done m old.place r new.draft
  at_place m = subst (λ p. Done m p r new.draft) begun.place

  pub empty_works : operation_of v ≡ Some Empty → new.rest.now ≡ mid.rest.now
      → ((n : ℕ) (es : List Expr) → Holds mid.draft es → Done (limited n (empty ∷ es)) mid.place r new.draft) → Works 0 (effect old.rest.now es) old new r
  empty_works e same d =
      operation_works old mid new v begun Empty es r e
      (limited_works 0 taken taken old new r (omega arith) (same ∙ begun.rest) (empty ∷ es) (at_place (limited taken (empty ∷ es)) (d taken es held)))

  pub star_works : operation_of v ≡ Some Star → new.rest.now ≡ mid.rest.now
      → ((n : ℕ) (es : List Expr) → Holds mid.draft es → Done (on_one star n es) mid.place r new.draft) → Works 0 (effect old.rest.now es) old new r
  star_works e same d =
      operation_works old mid new v begun Star es r e
      (one_works 0 taken taken old new r (omega arith) (same ∙ begun.rest) star es (at_place (on_one star taken es) (d taken es held)))

  pub sequence_works : operation_of v ≡ Some Sequence → new.rest.now ≡ mid.rest.now
      → ((n : ℕ) (es : List Expr) → Holds mid.draft es → Done (on_two seq n es) mid.place r new.draft) → Works 0 (effect old.rest.now es) old new r
  sequence_works e same d =
      operation_works old mid new v begun Sequence es r e
      (two_works 0 taken taken old new r (omega arith) (same ∙ begun.rest) seq es (at_place (on_two seq taken es) (d taken es held)))

  pub choice_works : operation_of v ≡ Some Choice → new.rest.now ≡ mid.rest.now
      → ((n : ℕ) (es : List Expr) → Holds mid.draft es → Done (on_two alt n es) mid.place r new.draft) → Works 0 (effect old.rest.now es) old new r
  choice_works e same d =
      operation_works old mid new v begun Choice es r e
      (two_works 0 taken taken old new r (omega arith) (same ∙ begun.rest) alt es (at_place (on_two alt taken es) (d taken es held)))

  pub read_on : (o : Operation) → operation_of v ≡ Some o
      → ((n : ℕ) (es : List Expr) → Holds mid.draft es → Works n (operate o n mid.rest.now es) mid new r) → Works 0 (effect old.rest.now es) old new r
  read_on o e w =
      operation_works old mid new v begun o es r e
      (works_after taken (operate o taken mid.rest.now es) old mid new r begun.rest begun.place (w taken es held))

-- a text by its length and the bytes after it
pub text_works : (old mid new : Loader) (v n : ℕ) (a : Took old mid v) (bytes : List ℕ) (es : List Expr) (r : Result (Unit {0}) Fault)
    → v ≤ length mid.rest.now → bytes ≡ take v mid.rest.now → new.rest.now ≡ drop v mid.rest.now
    → Done (limited (n + a.long.bytes + a.long.value) (text bytes ∷ es)) mid.place r new.draft
    → Works n (given (number old.rest.now) (texting n old.rest.now es)) old new r
text_works old mid new v n a bytes es r le eb er h =
    let x = a.long in
    let bs = old.rest.now in
    let m = n + x.bytes + x.value in
    let same : bytes ≡ take x.value (drop x.bytes bs) = eb ∙ ap (λ k. take k mid.rest.now) a.value ∙ ap (take x.value) a.rest in
    let there : x.value ≤ length bs - x.bytes = omega (arith, le, a.value, ap length a.rest, length-drop x.bytes bs) in
    let whole : given (number bs) (texting n bs es) ≡ limited m (text bytes ∷ es) =
    ap (λ o. given o (texting n bs es)) a.is
    ∙ ap (λ t. cond t (limited m (text (take x.value (drop x.bytes bs)) ∷ es)) (refused Malformed)) (le-leb x.value (length bs - x.bytes) there)
    ∙ ap (λ ys. limited m (text ys ∷ es)) (sym same) in
    let rest : new.rest.now ≡ drop (x.bytes + x.value) bs =
    er ∙ ap (λ k. drop k mid.rest.now) a.value ∙ ap (drop x.value) a.rest ∙ drop-drop x.value x.bytes bs in
    subst (λ t. Works n t old new r) (sym whole)
    (limited_works n (x.bytes + x.value) m old new r (omega arith) rest (text bytes ∷ es)
    (subst (λ p. Done (limited m (text bytes ∷ es)) p r new.draft) a.place h))

-- an operation takes at least one byte, and no more than there are
abbrev Fits : Effect → ℕ → Type 0
Fits (refused c) m = Unit {0}
Fits (leaves n es) m = (1 ≤ n) × (n ≤ m)

limited_fits : (n m : ℕ) (es : List Expr) → 1 ≤ n → n ≤ m → Fits (limited n es) m
limited_fits n m es p q = go (within es)
  where
    go : (b : Bool) → Fits (cond b (leaves n es) (refused PatternLimit)) m
    go true = (p, q)
    go false = tt

one_fits : (f : Expr → Expr) (n m : ℕ) (es : List Expr) → 1 ≤ n → n ≤ m → Fits (on_one f n es) m
one_fits f n m [] p q = tt
one_fits f n m (e ∷ es) p q = limited_fits n m (f e ∷ es) p q

two_fits : (f : Expr → Expr → Expr) (n m : ℕ) (es : List Expr) → 1 ≤ n → n ≤ m → Fits (on_two f n es) m
two_fits f n m [] p q = tt
two_fits f n m (e ∷ []) p q = tt
two_fits f n m (e ∷ d ∷ es) p q = limited_fits n m (f d e ∷ es) p q

given_fits : (bs : List ℕ) (f : Long → Effect) (m : ℕ) → ((r : Long) → 1 ≤ r.bytes → r.bytes ≤ length bs → Fits (f r) m) → Fits (given (number bs) f) m
given_fits bs f m h = go (number bs) refl
  where
    go : (o : Option Long) → number bs ≡ o → Fits (given o f) m
    go None e = tt
    go (Some r) e = let i = number_inside bs r e in h r i.0 i.1

texting_fits : (n m : ℕ) (bs : List ℕ) (es : List Expr) (r : Long) → 1 ≤ n → n + length bs ≤ m → 1 ≤ r.bytes → r.bytes ≤ length bs → Fits (texting n bs es r) m
texting_fits n m bs es r p q u v = go (leb r.value (length bs - r.bytes)) refl
  where
    go : (b : Bool) → leb r.value (length bs - r.bytes) ≡ b
        → Fits (cond b (limited (n + r.bytes + r.value) (text (take r.value (drop r.bytes bs)) ∷ es)) (refused Malformed)) m
    go true e =
        let l = leb-true r.value (length bs - r.bytes) e in
        limited_fits (n + r.bytes + r.value) m (text (take r.value (drop r.bytes bs)) ∷ es) (omega arith) (omega arith)
    go false e = tt

operate_fits : (o : Operation) (n m : ℕ) (bs : List ℕ) (es : List Expr) → 1 ≤ n → n + length bs ≤ m → Fits (operate o n bs es) m
operate_fits Empty n m bs es p q = limited_fits n m (empty ∷ es) p (omega arith)
operate_fits Drops n m bs es p q =
    given_fits bs (reading false n es) m (λ r u v. limited_fits (n + r.bytes) m (read false r.value ∷ es) (omega arith) (omega arith))
operate_fits Keeps n m bs es p q =
    given_fits bs (reading true n es) m (λ r u v. limited_fits (n + r.bytes) m (read true r.value ∷ es) (omega arith) (omega arith))
operate_fits Text n m bs es p q = given_fits bs (texting n bs es) m (λ r u v. texting_fits n m bs es r p q u v)
operate_fits Sequence n m bs es p q = two_fits seq n m es p (omega arith)
operate_fits Choice n m bs es p q = two_fits alt n m es p (omega arith)
operate_fits Star n m bs es p q = one_fits star n m es p (omega arith)

known_fits : (k : Option Operation) (f : Operation → Effect) (m : ℕ) → ((o : Operation) → Fits (f o) m) → Fits (known_as k f) m
known_fits None f m h = tt
known_fits (Some o) f m h = h o

effect_fits : (bs : List ℕ) (es : List Expr) → Fits (effect bs es) (length bs)
effect_fits bs es =
    given_fits bs (λ r. known_as (operation_of r.value) (λ o. operate o r.bytes (drop r.bytes bs) es)) (length bs)
    (λ r u v. known_fits (operation_of r.value) (λ o. operate o r.bytes (drop r.bytes bs) es) (length bs)
    (λ o. operate_fits o r.bytes (length bs) (drop r.bytes bs) es u (omega (arith, length-drop r.bytes bs))))

-- the bytes that an operation took are passed over
pub pass_over : (bs : List ℕ) (k place : ℕ) (es : List Expr) → k ≤ length bs → operations bs k place es ≡ operations (drop k bs) 0 (place + k) es
pass_over [] zero place es h = ap (λ p. final p es) (omega arith)
pass_over [] (suc k) place es h = absurd (omega arith)
pass_over (b ∷ bs) zero place es h = ap (λ p. operations (b ∷ bs) 0 p es) (omega arith)
pass_over (b ∷ bs) (suc k) place es h = pass_over bs k (suc place) es (omega arith) ∙ ap (λ p. operations (drop k bs) 0 p es) (omega arith)

-- the rest of a file, by its first operation
first : (bs : List ℕ) (place : ℕ) (es : List Expr) → 0 < length bs
    → operations bs 0 place es ≡ onward (effect bs es) place (λ n fs. operations (drop 1 bs) (pred n) (suc place) fs)
first [] place es l = absurd (omega arith)
first (b ∷ bs) place es l = refl

module _ (old new : Loader) (es : List Expr) (l : 0 < length old.rest.now) where
  pub operations_on : Works 0 (effect old.rest.now es) old new (Ok tt)
      → (fs : List Expr) × Holds new.draft fs × (length new.rest.now < length old.rest.now)
      × (operations new.rest.now 0 (old.place + (length old.rest.now - length new.rest.now)) fs ≡ operations old.rest.now 0 old.place es)
  operations_on w = go (effect old.rest.now es) refl w (effect_fits old.rest.now es)
    where
      go : (t : Effect) → effect old.rest.now es ≡ t → Works 0 t old new (Ok tt) → Fits t (length old.rest.now)
          → (fs : List Expr) × Holds new.draft fs × (length new.rest.now < length old.rest.now)
          × (operations new.rest.now 0 (old.place + (length old.rest.now - length new.rest.now)) fs ≡ operations old.rest.now 0 old.place es)
      go (refused c) e k i = absurd (let w : ◌≡◌ {A = ℕ} 0 1 = cc in omega arith)
      go (leaves n fs) e k i =
          let bs = old.rest.now in
          let same : k.2.0 ≡ n = omega (arith, k.2.1) in
          let left : new.rest.now ≡ drop n bs = k.2.2 ∙ ap (λ j. drop j bs) same in
          let shorter = ap length left in
          let long : pred n ≤ length (drop 1 bs) = omega (arith, i.0, i.1, length-drop 1 bs) in
          let to : 1 + pred n ≡ n = omega (arith, i.0) in
          let place : suc old.place + pred n ≡ old.place + (length bs - length new.rest.now) = omega (arith, i.0, i.1, shorter, length-drop n bs) in (
            fs,
            k.1,
            omega (arith, i.0, i.1, shorter, length-drop n bs),
            sym (first bs old.place es l ∙ ap (λ t. onward t old.place (λ n fs. operations (drop 1 bs) (pred n) (suc old.place) fs)) e
                ∙ pass_over (drop 1 bs) (pred n) (suc old.place) fs long
                ∙ ap (λ ys. operations ys 0 (suc old.place + pred n) fs) (drop-drop (pred n) 1 bs ∙ ap (λ j. drop j bs) to ∙ sym left)
                ∙ ap (λ p. operations new.rest.now 0 p fs) place),
          )
