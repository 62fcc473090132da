-- The bits of filed bytes, one at a time.
use Rattle.std.proofs.Common.{◌≡◌, ℕ, zero, suc, ◌+◌, ◌-◌, ◌*◌, ◌%◌, ◌<◌, ◌≤◌, Bool, true, false, ltb, ◌↔◌, List, [], ◌∷◌, ◌++◌, length, get_or, drop, replicate, sym, refl, ap, subst, arith}
use Rattle.std.specs.List.{All}
use Rattle.std.proofs.lemmas.List.{length-replicate, drop_more, drop_all}
use Rattle.std.proofs.lemmas.List.Elements.{All-head, All-tail, All-replicate}
use Rattle.walk.proofs.Order.{never_both}
use Rattle.replay.specs.Bits.{highest, bits_of, Filling}
use Rattle.replay.specs.Computed.{few}

-- at most n bits, each of them 0

few_filling : (n : ℕ) (bs : List Bool) → few n bs ≡ true → (z : ℕ) × (z ≤ n) × (bs ≡ replicate z false)
few_filling n [] h = (0, omega arith, refl)
few_filling zero (b ∷ bs) h = absurd (never_both h refl)
few_filling (suc n) (true ∷ bs) h = absurd (never_both h refl)
few_filling (suc n) (false ∷ bs) h = let i = few_filling n bs h in (suc i.0, omega (arith, i.1), ap (λ (l : List Bool). false ∷ l) i.2)

filling_few : (n z : ℕ) → z ≤ n → few n (replicate z false) ≡ true
filling_few n zero h = refl
filling_few zero (suc z) h = absurd (omega arith)
filling_few (suc n) (suc z) h = filling_few n z (omega arith)

pub few_is : (bs : List Bool) → (few 7 bs ≡ true) ↔ Filling bs
few_is bs = (few_filling 7 bs, λ h. subst (λ (l : List Bool). few 7 l ≡ true) (sym h.2) (filling_few 7 h.0 (omega (arith, h.1))))

-- the next bit of the byte at hand
pub next_bit : (left v : ℕ) (rest : List Bool) → 0 < left → highest left v ++ rest ≡ ltb 127 v ∷ (highest (left - 1) (v % 128 * 2) ++ rest)
unfolding highest
next_bit zero v rest h = absurd (omega arith)
next_bit (suc left) v rest h = ap (λ n. ltb 127 v ∷ (highest n (v % 128 * 2) ++ rest)) (omega arith)

-- fewer than eight bits, each of them 0

zeros : (bs : List Bool) → All (λ b. b ≡ false) bs → bs ≡ replicate (length bs) false
zeros [] h = refl
zeros (b ∷ bs) h = let i = zeros bs (All-tail (λ b. b ≡ false) b bs h) in let e : b ≡ false = All-head (λ b. b ≡ false) b bs h in cc

pub filling_is : (bs : List Bool) → ((length bs ≤ 7) × All (λ b. b ≡ false) bs) ↔ Filling bs
filling_is bs = (
  λ h. (length bs, h.0, zeros bs h.1),
  λ h. rw h.2 (omega (arith, h.1, length-replicate h.0 false), All-replicate (λ b. b ≡ false) h.0 false refl),
)

-- the next byte is at hand
pub next_byte : (left v next b : ℕ) (bytes : List ℕ) → left ≡ 0 → next < length bytes → b ≡ get_or bytes next b → highest left v ++ bits_of (drop next bytes) ≡ highest 8 b ++ bits_of (drop (next + 1) bytes)
unfolding highest bits_of
next_byte left v next b bytes e h f = rw (e, drop_more bytes next b h, sym f) refl

-- no byte is left
pub none_left : (left v next : ℕ) (bytes : List ℕ) → left ≡ 0 → length bytes ≤ next → highest left v ++ bits_of (drop next bytes) ≡ []
unfolding highest bits_of
none_left left v next bytes e h = rw (e, drop_all next bytes h) refl
