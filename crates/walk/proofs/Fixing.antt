-- A walk is fixed by its code, by its choices, and by the bytes that file them.
use Rattle.std.proofs.Common.{◌≡◌, ℕ, zero, suc, ◌+◌, ◌-◌, ◌*◌, ◌/◌, ◌%◌, ◌<◌, ◌≤◌, Bool, true, false, cond, eqb, ltb, ◌⊎◌, List, [], ◌∷◌, ◌++◌, length, replicate, sym, refl, ap, ◌∙◌, subst, inl, inr, append_assoc, append-nil, zero-add, arith, length-append, ne_eqb, eqb-true}
use lib.ListN.{length-replicate}
use borrow.Author.Tests.{eqb-false}
use Rattle.alphabet.specs.Meaning.{Meaning}
use Rattle.alphabet.specs.Items.{first_branch, second_branch, first_read}
use Rattle.alphabet.specs.Choices.{choices, number_from, byte_of, packed_after}
use Rattle.walk.specs.Codes.{Code, Earlier}
use Rattle.walk.specs.Theorems.{Order, WalksPart, CodeFixes, ChoicesFix, BytesFix}
use Rattle.walk.proofs.Parting.{in_step, same_if}
use Rattle.walk.proofs.Order.{never_both, earlier_irrefl, earlier_asym, earlier_trans}

pub walks_part : {Symbol : Type 0} (L : Meaning Symbol) → WalksPart L
walks_part L at w p q r ps qs c d s t = in_step L at s t

pub order : Order
order = record { not_itself = earlier_irrefl; not_both = earlier_asym; through = earlier_trans }

pub code_fixes : {Symbol : Type 0} (L : Meaning Symbol) → CodeFixes L
code_fixes L at w p q r ps qs c s t = same_if (in_step L at s t) (earlier_irrefl c) (earlier_irrefl c)

-- where codes part, their choices do

-- the choices of one item and of what follows it
choices_cons : (x : ℕ) (c d : Code) (rest : List Bool) → choices (x ∷ d) ≡ choices (x ∷ c) ++ rest → choices d ≡ choices c ++ rest
choices_cons x c d rest e = go (ltb x first_read) e
  where
    go : (t : Bool) → cond t (eqb x second_branch ∷ choices d) (choices d) ≡ cond t (eqb x second_branch ∷ choices c) (choices c) ++ rest → choices d ≡ choices c ++ rest
    go true e = cc
    go false e = e

first_parts : (c d : Code) (rest : List Bool) → Earlier c d → choices d ≡ choices c ++ rest → ⊥
first_parts [] d rest l e = l
first_parts (x ∷ c) [] rest l e = l
first_parts (x ∷ c) (y ∷ d) rest (inl l) e =
    let h : choices (second_branch ∷ d) ≡ choices (first_branch ∷ c) ++ rest = rw (l.0, l.1) at e in
    let z : ◌≡◌ {A = Bool} true false = cc in
    never_both refl z
first_parts (x ∷ c) (y ∷ d) rest (inr l) e =
    first_parts c d rest l.1 (choices_cons x c d rest (subst (λ z. choices (z ∷ d) ≡ choices (x ∷ c) ++ rest) (sym l.0) e))

second_parts : (c d : Code) (rest : List Bool) → Earlier d c → choices d ≡ choices c ++ rest → ⊥
second_parts c [] rest l e = l
second_parts [] (y ∷ d) rest l e = l
second_parts (x ∷ c) (y ∷ d) rest (inl l) e =
    let h : choices (first_branch ∷ d) ≡ choices (second_branch ∷ c) ++ rest = rw (l.0, l.1) at e in
    let z : ◌≡◌ {A = Bool} true false = cc in
    never_both refl z
second_parts (x ∷ c) (y ∷ d) rest (inr l) e =
    second_parts c d rest l.1 (choices_cons x c d rest (subst (λ z. choices (z ∷ d) ≡ choices (x ∷ c) ++ rest) l.0 e))

pub choices_fix : {Symbol : Type 0} (L : Meaning Symbol) → ChoicesFix L
choices_fix L at w p q r ps qs c d rest s t e =
    same_if (in_step L at s t) (λ l. first_parts c d rest l e) (λ l. second_parts c d rest l e)

-- bytes give back the bits that they file

-- the n lowest bits of a number, the highest of them first
unfoldable bits : ℕ → ℕ → List Bool
bits zero v = []
bits (suc n) v = bits n (v / 2) ++ (eqb (v % 2) 1 ∷ [])

unfoldable bits_of : List ℕ → List Bool
bits_of [] = []
bits_of (v ∷ vs) = bits 8 v ++ bits_of vs

halved : (a : ℕ) (b : Bool) → (2 * a + cond b 1 0) / 2 ≡ a
halved a true = omega arith
halved a false = omega arith

lowest : (a : ℕ) (b : Bool) → eqb ((2 * a + cond b 1 0) % 2) 1 ≡ b
lowest a true = let h : (2 * a + 1) % 2 ≡ 1 = omega arith in ap (λ n. eqb n 1) h
lowest a false = let h : (2 * a + 0) % 2 ≡ 0 = omega arith in ap (λ n. eqb n 1) h

bits_number : (xs : List Bool) (a k : ℕ) → bits (length xs + k) (number_from a xs) ≡ bits k a ++ xs
unfolding bits
bits_number [] a k = ap (λ n. bits n a) (zero-add k) ∙ sym (append-nil (bits k a))
bits_number (b ∷ xs) a k =
    let v : ℕ = 2 * a + cond b 1 0 in
    let e : suc (length xs) + k ≡ length xs + suc k = omega arith in
    ap (λ n. bits n (number_from v xs)) e
    ∙ bits_number xs v (suc k)
    ∙ ap (λ n. (bits k n ++ (eqb (v % 2) 1 ∷ [])) ++ xs) (halved a b)
    ∙ ap (λ t. (bits k a ++ (t ∷ [])) ++ xs) (lowest a b)
    ∙ append_assoc (bits k a) (b ∷ []) xs

byte_bits : (xs : List Bool) → length xs ≤ 8 → bits 8 (byte_of xs) ≡ xs ++ replicate (8 - length xs) false
unfolding bits
byte_bits xs h =
    let ys = xs ++ replicate (8 - length xs) false in
    let e : length ys + 0 ≡ 8 = omega (arith, length-append xs (replicate (8 - length xs) false), length-replicate (8 - length xs) false) in
    subst (λ n. bits n (number_from 0 ys) ≡ ys) e (bits_number ys 0 0)

-- the bits of a full byte and what follows it
full : (xs : List Bool) → length xs ≡ 8 → bits 8 (byte_of xs) ≡ xs
full xs h =
    let e : 8 - length xs ≡ 0 = omega arith in
    byte_bits xs (omega arith) ∙ ap (λ n. xs ++ replicate n false) e ∙ append-nil xs

packed_bits : (held bs : List Bool) → length held < 8 → (m : ℕ) × (bits_of (packed_after held bs) ≡ (held ++ bs) ++ replicate m false)
unfolding bits_of
packed_bits [] [] h = (0, refl)
packed_bits (b ∷ held) [] h = (
  8 - length (b ∷ held),
  ap (λ t. bits_of (cond t [] (byte_of (b ∷ held) ∷ []))) (ne_eqb (length (b ∷ held)) 0 (λ e. omega arith))
      ∙ append-nil (bits 8 (byte_of (b ∷ held))) ∙ byte_bits (b ∷ held) (omega arith)
      ∙ ap (λ xs. xs ++ replicate (8 - length (b ∷ held)) false) (sym (append-nil (b ∷ held))),
)
packed_bits held (b ∷ bs) h = go (eqb (length held) 7) refl (λ more k. packed_bits more bs k)
  where
    l : length (held ++ (b ∷ [])) ≡ length held + 1
    l = length-append held (b ∷ [])

    go : (t : Bool) → eqb (length held) 7 ≡ t →
        ((more : List Bool) → length more < 8 → (m : ℕ) × (bits_of (packed_after more bs) ≡ (more ++ bs) ++ replicate m false)) →
        (m : ℕ) × (bits_of (cond t (byte_of (held ++ (b ∷ [])) ∷ packed_after [] bs) (packed_after (held ++ (b ∷ [])) bs)) ≡ (held ++ (b ∷ bs)) ++ replicate m false)
    go true e ih =
        let i = ih [] (omega arith) in
        let f = full (held ++ (b ∷ [])) (omega (arith, l, eqb-true (length held) 7 e)) in
        (i.0, ap (λ xs. xs ++ bits_of (packed_after [] bs)) f ∙ ap (λ xs. (held ++ (b ∷ [])) ++ xs) i.1 ∙ simp append_assoc)
    go false e ih =
        let n = eqb-false (length held) 7 e in
        let i = ih (held ++ (b ∷ [])) (omega (arith, l, n)) in
        (i.0, i.1 ∙ simp append_assoc)

one_begins : (xs ys us vs : List Bool) → xs ++ us ≡ ys ++ vs → ((rest : List Bool) × (ys ≡ xs ++ rest)) ⊎ ((rest : List Bool) × (xs ≡ ys ++ rest))
one_begins [] ys us vs e = inl (ys, refl)
one_begins (x ∷ xs) [] us vs e = inr (x ∷ xs, refl)
one_begins (x ∷ xs) (y ∷ ys) us vs e =
    let h : x ≡ y = cc in
    elim (one_begins xs ys us vs (cc)) [
      | inl i ↦ let k = i.1 in inl (i.0, (cc))
      | inr i ↦ let k = i.1 in inr (i.0, (cc))
    ]

pub bytes_fix : {Symbol : Type 0} (L : Meaning Symbol) → BytesFix L
bytes_fix L at w p q r ps qs c d s t e =
    let x = packed_bits [] (choices c) (omega arith) in
    let y = packed_bits [] (choices d) (omega arith) in
    elim (one_begins (choices c) (choices d) (replicate x.0 false) (replicate y.0 false) (sym x.1 ∙ ap bits_of e ∙ y.1)) [
      | inl i ↦ choices_fix L at w p q r ps qs c d i.0 s t i.1
      | inr i ↦ let h = choices_fix L at w p r q qs ps d c i.0 t s i.1 in record { points = sym h.points; ending = sym h.ending; code = sym h.code }
    ]
