-- The bits of packed choices are the choices and a filling, and no other bytes have these bits.
use Rattle.std.proofs.Common.{◌≡◌, ℕ, zero, suc, ◌+◌, ◌-◌, ◌*◌, ◌<◌, ◌≤◌, Bool, true, false, cond, ◌&&◌, T, eqb, ltb, List, [], ◌∷◌, ◌++◌, length, get_or, Fits, w8, replicate, sym, refl, ap, ◌∙◌, subst, ap₂, inl, inr, append_assoc, append-nil, arith, eqb→eq, length-append}
use lib.Dec.{eqb_refl}
use lib.ListN.{length-replicate}
use Rattle.std.proofs.lemmas.Bool.{cases_lt, cases_eq, ltb-true, lt-ltb}
use Rattle.std.proofs.lemmas.Bool.Decides.{nat_tests}
use Rattle.walk.proofs.Order.{T_true, never_both}
use Rattle.alphabet.specs.Choices.{number_from, byte_of, last_byte, packed_after, packed}
use Rattle.replay.specs.Bits.{highest, bits_of, Filling, all_bytes, Bytes}

-- tests of all short lists of bits, and of all bytes

both : (a b : Bool) → T (a && b) → T a × T b
both true b t = (tt, t)
both false b t = absurd t

abbrev all_lists : ℕ → (List Bool → Bool) → Bool
all_lists zero f = f []
all_lists (suc n) f = f [] && (all_lists n (λ xs. f (false ∷ xs)) && all_lists n (λ xs. f (true ∷ xs)))

all_lists_tell : (n : ℕ) (f : List Bool → Bool) → T (all_lists n f) → (xs : List Bool) → length xs ≤ n → T (f xs)
all_lists_tell zero f t [] l = t
all_lists_tell zero f t (x ∷ xs) l = absurd (omega arith)
all_lists_tell (suc n) f t [] l = (both (f []) _ t).0
all_lists_tell (suc n) f t (false ∷ xs) l = all_lists_tell n (λ ys. f (false ∷ ys)) (both (all_lists n (λ ys. f (false ∷ ys))) _ (both (f []) _ t).1).0 xs (omega arith)
all_lists_tell (suc n) f t (true ∷ xs) l = all_lists_tell n (λ ys. f (true ∷ ys)) (both (all_lists n (λ ys. f (false ∷ ys))) _ (both (f []) _ t).1).1 xs (omega arith)

abbrev all_below : ℕ → (ℕ → Bool) → Bool
all_below zero f = true
all_below (suc n) f = f n && all_below n f

all_below_tell : (n : ℕ) (f : ℕ → Bool) → T (all_below n f) → (i : ℕ) → i < n → T (f i)
all_below_tell zero f t i l = absurd (omega arith)
all_below_tell (suc n) f t i l =
    elim (cases_eq i n) [
      | inl e ↦ subst (λ k. T (f k)) (sym e) (both (f n) _ t).0
      | inr e ↦ all_below_tell n f (both (f n) _ t).1 i (omega arith)
    ]

abbrev same_bit : Bool → Bool → Bool
same_bit true b = b
same_bit false true = false
same_bit false false = true

same_bit_tells : (a b : Bool) → T (same_bit a b) → a ≡ b
same_bit_tells true true t = refl
same_bit_tells true false t = absurd t
same_bit_tells false true t = absurd t
same_bit_tells false false t = refl

abbrev same : List Bool → List Bool → Bool
same [] [] = true
same [] (y ∷ d) = false
same (x ∷ c) [] = false
same (x ∷ c) (y ∷ d) = same_bit x y && same c d

same_tells : (c d : List Bool) → T (same c d) → c ≡ d
same_tells [] [] t = refl
same_tells [] (y ∷ d) t = absurd t
same_tells (x ∷ c) [] t = absurd t
same_tells (x ∷ c) (y ∷ d) t =
    let h = both (same_bit x y) (same c d) t in
    ap₂ (λ (a : Bool) (b : List Bool). a ∷ b) (same_bit_tells x y h.0) (same_tells c d h.1)

-- the byte that begins with some bits has them, and then zeros
abbrev filled_test : List Bool → Bool
filled_test xs = same (highest 8 (byte_of xs)) (xs ++ replicate (8 - length xs) false)

filled_all : T (all_lists 8 filled_test)
unfolding highest
filled_all = tt

filled : (xs : List Bool) → length xs ≤ 8 → highest 8 (byte_of xs) ≡ xs ++ replicate (8 - length xs) false
filled xs l = same_tells _ _ (all_lists_tell 8 filled_test filled_all xs l)

-- the bits of a byte tell the byte
valued_all : T (all_below 256 (λ v. eqb (number_from 0 (highest 8 v)) v))
unfolding highest
valued_all = tt

valued : (v : ℕ) → v < 256 → number_from 0 (highest 8 v) ≡ v
valued v l = eqb→eq _ _ (all_below_tell 256 (λ v. eqb (number_from 0 (highest 8 v)) v) valued_all v l)

small_all : T (all_lists 8 (λ xs. ltb (byte_of xs) 256))
small_all = tt

small : (xs : List Bool) → length xs ≤ 8 → byte_of xs < 256
small xs l = let h = T_true _ (all_lists_tell 8 (λ xs. ltb (byte_of xs) 256) small_all xs l) in ltb-true (byte_of xs) 256 h

bits_none : bits_of [] ≡ []
unfolding bits_of
bits_none = refl

bits_cons : (x : ℕ) (xs : List ℕ) → bits_of (x ∷ xs) ≡ highest 8 x ++ bits_of xs
unfolding bits_of
bits_cons x xs = refl

-- bytes

both_true : (a b : Bool) → (a && b) ≡ true → (a ≡ true) × (b ≡ true)
both_true true b h = (refl, h)
both_true false b h = absurd (never_both h refl)

and_true : (a b : Bool) → a ≡ true → b ≡ true → (a && b) ≡ true
and_true true b h k = k
and_true false b h k = h

bytes_cons : (x : ℕ) (xs : List ℕ) → x < 256 → Bytes xs → Bytes (x ∷ xs)
bytes_cons x xs l h = and_true (ltb x 256) (all_bytes xs) (lt-ltb x 256 l) h

bytes_first : (x : ℕ) (xs : List ℕ) → Bytes (x ∷ xs) → x < 256
bytes_first x xs h = ltb-true x 256 (both_true (ltb x 256) (all_bytes xs) h).0

bytes_rest : (x : ℕ) (xs : List ℕ) → Bytes (x ∷ xs) → Bytes xs
bytes_rest x xs h = (both_true (ltb x 256) (all_bytes xs) h).1

-- each number fits a byte
pub all_fit : (xs : List ℕ) → ((i : ℕ) → Fits w8 (get_or xs i 0)) → Bytes xs
all_fit [] h = refl
all_fit (x ∷ xs) h = bytes_cons x xs (let l : Fits w8 x = h 0 in omega (arith, l)) (all_fit xs (λ i. h (suc i)))

-- packing

pub record Unpacked (held bs : List Bool) : Type 0 where
  pub rest : List Bool
  pub bits : bits_of (packed_after held bs) ≡ held ++ (bs ++ rest)
  pub filling : Filling rest
  pub bytes : Bytes (packed_after held bs)

unpack_last : (held : List Bool) → length held ≤ 7 → Unpacked held []
unpack_last [] l = record { rest = []; bits = bits_none; filling = (0, omega arith, refl); bytes = refl }
unpack_last (x ∷ xs) l =
    let ys = x ∷ xs in
    let v = byte_of ys in
    let e : eqb (suc (length xs)) 0 ≡ false = grind (arith, nat_tests) in
    let step : last_byte ys ≡ v ∷ [] = ap (λ (t : Bool). cond t [] (v ∷ [])) e in
    record {
      rest = replicate (8 - length ys) false;
      bits = ap bits_of step ∙ bits_cons v [] ∙ ap (λ (z : List Bool). highest 8 v ++ z) bits_none ∙ append-nil (highest 8 v) ∙ filled ys (omega arith);
      filling = (8 - length ys, omega arith, refl);
      bytes = subst Bytes (sym step) (bytes_cons v [] (small ys (omega arith)) refl);
    }

regroup : (xs ys : List Bool) (b : Bool) → (xs ++ (b ∷ [])) ++ ys ≡ xs ++ (b ∷ ys)
regroup xs ys b = append_assoc xs (b ∷ []) ys

module _ (b : Bool) (bs held : List Bool) (l : length held ≤ 7) where
  unpack_more : (t : Bool) → eqb (length held) 7 ≡ t → Unpacked [] bs → (length (held ++ (b ∷ [])) ≤ 7 → Unpacked (held ++ (b ∷ [])) bs) → Unpacked held (b ∷ bs)
  unpack_more true e fresh on =
      let full : length held ≡ 7 = eqb→eq (length held) 7 (rw e tt) in
      let eight : length (held ++ (b ∷ [])) ≡ 8 = omega (arith, length-append held (b ∷ [])) in
      let v = byte_of (held ++ (b ∷ [])) in
      let step : packed_after held (b ∷ bs) ≡ v ∷ packed_after [] bs = ap (λ (t : Bool). cond t (v ∷ packed_after [] bs) (packed_after (held ++ (b ∷ [])) bs)) e in
      let byte : highest 8 v ≡ held ++ (b ∷ []) =
      filled (held ++ (b ∷ [])) (omega arith) ∙ ap (λ (n : ℕ). (held ++ (b ∷ [])) ++ replicate (8 - n) false) eight ∙ append-nil (held ++ (b ∷ [])) in
      record {
        rest = fresh.rest;
        bits = ap bits_of step ∙ bits_cons v (packed_after [] bs) ∙ ap₂ (λ (y z : List Bool). y ++ z) byte fresh.bits ∙ regroup held (bs ++ fresh.rest) b;
        filling = fresh.filling;
        bytes = subst Bytes (sym step) (bytes_cons v (packed_after [] bs) (small (held ++ (b ∷ [])) (omega arith)) fresh.bytes);
      }
  unpack_more false e fresh on =
      let ne : length held ≡ 7 → ⊥ = λ f. never_both (T_true _ (eqb_refl 7)) (ap (λ (n : ℕ). eqb n 7) (sym f) ∙ e) in
      let less : length held < 7 = elim (cases_lt (length held) 7) [ inl k ↦ k | inr k ↦ absurd (ne (omega arith)) ] in
      let i = on (omega (arith, length-append held (b ∷ []))) in
      let v = byte_of (held ++ (b ∷ [])) in
      let step : packed_after held (b ∷ bs) ≡ packed_after (held ++ (b ∷ [])) bs = ap (λ (t : Bool). cond t (v ∷ packed_after [] bs) (packed_after (held ++ (b ∷ [])) bs)) e in
      record { rest = i.rest; bits = ap bits_of step ∙ i.bits ∙ regroup held (bs ++ i.rest) b; filling = i.filling; bytes = subst Bytes (sym step) i.bytes }

unpacked_after : (bs held : List Bool) → length held ≤ 7 → Unpacked held bs
unpacked_after [] held l = unpack_last held l
unpacked_after (b ∷ bs) held l = unpack_more b bs held l (eqb (length held) 7) refl (unpacked_after bs [] (omega arith)) (λ k. unpacked_after bs (held ++ (b ∷ [])) k)

-- the bits of packed bits are these and a filling
pub unpacked : (bs : List Bool) → Unpacked [] bs
unpacked bs = unpacked_after bs [] (omega arith)

-- the same bits are in the same bytes

split_same : (u v a b : List Bool) → length u ≡ length v → u ++ a ≡ v ++ b → (u ≡ v) × (a ≡ b)
split_same [] [] a b l e = (refl, e)
split_same [] (y ∷ v) a b l e = absurd (omega arith)
split_same (x ∷ u) [] a b l e = absurd (omega arith)
split_same (x ∷ u) (y ∷ v) a b l e =
    let k : x ≡ y = cc in
    let m : u ++ a ≡ v ++ b = cc in
    let h = split_same u v a b (omega arith) m in
    (ap₂ (λ (p : Bool) (q : List Bool). p ∷ q) k h.0, h.1)

length_highest : (v : ℕ) → length (highest 8 v) ≡ 8
unfolding highest
length_highest v = refl

length_bits : (xs : List ℕ) → length (bits_of xs) ≡ 8 * length xs
unfolding bits_of
length_bits [] = refl
length_bits (x ∷ xs) = omega (arith, length-append (highest 8 x) (bits_of xs), length_highest x, length_bits xs)

same_bytes : (xs ys : List ℕ) → Bytes xs → Bytes ys → bits_of xs ≡ bits_of ys → xs ≡ ys
same_bytes [] [] h k e = refl
same_bytes [] (y ∷ ys) h k e = absurd (omega (arith, sym (length_bits []) ∙ ap length e ∙ length_bits (y ∷ ys)))
same_bytes (x ∷ xs) [] h k e = absurd (omega (arith, sym (length_bits (x ∷ xs)) ∙ ap length e ∙ length_bits []))
same_bytes (x ∷ xs) (y ∷ ys) h k e =
    let i = split_same (highest 8 x) (highest 8 y) (bits_of xs) (bits_of ys) (length_highest x ∙ sym (length_highest y)) (sym (bits_cons x xs) ∙ e ∙ bits_cons y ys) in
    ap₂ (λ (p : ℕ) (q : List ℕ). p ∷ q) (sym (valued x (bytes_first x xs h)) ∙ ap (number_from 0) i.0 ∙ valued y (bytes_first y ys k)) (same_bytes xs ys (bytes_rest x xs h) (bytes_rest y ys k) i.1)

-- so much of a filling as makes whole bytes
bits_count : (xs : List ℕ) (bs rest : List Bool) (z : ℕ) → bits_of xs ≡ bs ++ rest → rest ≡ replicate z false → 8 * length xs ≡ length bs + z
bits_count xs bs rest z e f =
    sym (length_bits xs) ∙ ap length e ∙ length-append bs rest ∙ ap (λ (n : ℕ). length bs + n) (ap length f ∙ length-replicate z false)

-- bytes whose bits are these and a filling are these bits packed
pub packs : (xs : List ℕ) (bs rest : List Bool) → Bytes xs → bits_of xs ≡ bs ++ rest → Filling rest → xs ≡ packed bs
packs xs bs rest h e f =
    let u = unpacked bs in
    let a = bits_count xs bs rest f.0 e f.2 in
    let b = bits_count (packed bs) bs u.rest u.filling.0 u.bits u.filling.2 in
    let n : f.0 ≡ u.filling.0 = omega (arith, a, b, f.1, u.filling.1) in
    same_bytes xs (packed bs) h u.bytes
    (e ∙ ap (λ (t : List Bool). bs ++ t) (f.2 ∙ ap (λ (n : ℕ). replicate n false) n ∙ sym u.filling.2) ∙ sym u.bits)
