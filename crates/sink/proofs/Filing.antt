-- The bits that a sink of bits files are the choices of the items, packed.
use Rattle.std.proofs.Common.{◌≡◌, ℕ, suc, Bool, true, false, cond, eqb, ltb, List, [], ◌∷◌, ◌++◌, length, is_ok, Ok, Err, Result, sym, refl, ap, ◌∙◌, subst, inl, inr, append_assoc, arith}
use mathlib.Core.Path.{fun_ext}
use Rattle.std.proofs.lemmas.List.{take_all}
use Rattle.std.proofs.lemmas.Bool.{cases_Bool}
use Rattle.fault.specs.declared.refusal.Fault.{Fault}
use Rattle.alphabet.specs.Items.{first_read, end_mark}
use Rattle.alphabet.specs.Choices.{choices, byte_of, packed, packed_after}
use Rattle.sink.specs.Meaning.{Meaning, Stocks, nothing, alone, take_answer, grown, fronted}
use Rattle.sink.specs.BitsMeaning.{BitsPosition, unfilled, ended, bits_meaning, bits_next, bits_added, with_branch}
use Rattle.sink.specs.Handing.{moved_by, grown_by, taken_count, hand_answer, all_taken}
use Rattle.sink.specs.Writing.{if_taken, taken_items, stocks_then}
use Rattle.sink.specs.Laws.{FilesChoices}
use Rattle.sink.proofs.Handings.{front_taken, rest_taken, Expects, expects_taken}

pub all_counted : (m : Meaning) (p : m.Position) (s : Stocks) (xs : List ℕ) → all_taken m p s xs ≡ true → taken_count m p s xs ≡ length xs
all_counted m p s [] h = refl
all_counted m p s (x ∷ xs) h =
    let a = take_answer m p s x in
    let b = hand_answer m (m.next p x) (grown m p s x) xs in
    ap (λ (t : Bool). cond t (suc (taken_count m (m.next p x) (grown m p s x) xs)) 0) (front_taken a b h)
    ∙ ap suc (all_counted m (m.next p x) (grown m p s x) xs (rest_taken a b h))

pub all_items : (m : Meaning) (p : m.Position) (s : Stocks) (xs : List ℕ) → all_taken m p s xs ≡ true → taken_items m p s xs ≡ xs
all_items m p s xs h = take_all (taken_count m p s xs) xs (let e = all_counted m p s xs h in omega arith)

-- after the end mark nothing is expected
nothing_after : (xs : List ℕ) → Expects bits_meaning ended (xs ++ end_mark ∷ []) → false ≡ true
nothing_after [] h = h.0
nothing_after (x ∷ xs) h = h.0

abbrev code_of : List ℕ → List ℕ
code_of xs = xs ++ end_mark ∷ []

-- from unfilled bits and stocks on, the items add to channel 0 what the bits and the choices pack to, and the sink ends
pub record Files (bs : List Bool) (s : Stocks) (code : List ℕ) : Type 0 where
  pub position : moved_by bits_meaning (unfilled bs) code ≡ ended
  pub stock : (c : ℕ) → grown_by bits_meaning (unfilled bs) s code c ≡ s c ++ alone (packed_after bs (choices code)) [] c

alone_append : (a b : List ℕ) (c : ℕ) → alone a [] c ++ alone b [] c ≡ alone (a ++ b) [] c
alone_append a b c = elim (eqb c 0) as (λ t. cond t a [] ++ cond t b [] ≡ cond t (a ++ b) []) [ true ↦ refl | false ↦ refl ]

-- one item that is no end mark
files_more : (bs bs' : List Bool) (s : Stocks) (x : ℕ) (code added : List ℕ) → bits_next (unfilled bs) x ≡ unfilled bs' → bits_added (unfilled bs) x ≡ added
    → packed_after bs (choices (x ∷ code)) ≡ added ++ packed_after bs' (choices code)
    → Files bs' (grown bits_meaning (unfilled bs) s x) code → Files bs s (x ∷ code)
files_more bs bs' s x code added e f g h = record {
  position = ap (λ (p : BitsPosition). moved_by bits_meaning p code) e ∙ h.position;
  stock = λ c.
      let s' = grown bits_meaning (unfilled bs) s x in
      ap (λ (p : BitsPosition). grown_by bits_meaning p s' code c) e
      ∙ h.stock c
      ∙ append_assoc (s c) (alone (bits_added (unfilled bs) x) [] c) (alone (packed_after bs' (choices code)) [] c)
      ∙ ap (λ (t : List ℕ). s c ++ t)
      (alone_append (bits_added (unfilled bs) x) (packed_after bs' (choices code)) c
      ∙ ap (λ (t : List ℕ). alone t [] c) (ap (λ (t : List ℕ). t ++ packed_after bs' (choices code)) f ∙ sym g));
}

files : (xs : List ℕ) (bs : List Bool) (s : Stocks) → Expects bits_meaning (unfilled bs) (code_of xs) → Files bs s (code_of xs)
files [] bs s h = record { position = refl; stock = λ c. refl }
files (x ∷ xs) bs s h =
    let s' = grown bits_meaning (unfilled bs) s x in
    let code = code_of xs in
    let rest : (p : BitsPosition) → bits_next (unfilled bs) x ≡ p → Expects bits_meaning p code = λ p f. subst (λ (q : BitsPosition). Expects bits_meaning q code) f h.1 in
    elim (cases_Bool (ltb x first_read)) [
      | inl b ↦
          elim (cases_Bool (eqb (length bs) 7)) [
            | inl e ↦
                let f : bits_next (unfilled bs) x ≡ unfilled [] = simp (b, e) in
                files_more bs [] s x code (byte_of (with_branch bs x) ∷ []) f (simp (b, e)) (simp (b, e)) (files xs [] s' (rest (unfilled []) f))
            | inr e ↦
                let f : bits_next (unfilled bs) x ≡ unfilled (with_branch bs x) = simp (b, e) in
                files_more bs (with_branch bs x) s x code [] f (simp (b, e)) (simp (b, e)) (files xs (with_branch bs x) s' (rest (unfilled (with_branch bs x)) f))
          ]
      | inr b ↦
          elim (cases_Bool (eqb x end_mark)) [
            | inl e ↦
                let f : bits_next (unfilled bs) x ≡ ended = simp (b, e) in
                absurd (let z : false ≡ true = nothing_after xs (rest ended f) in let w : ◌≡◌ {A = ℕ} 0 1 = cc in omega arith)
            | inr e ↦
                let f : bits_next (unfilled bs) x ≡ unfilled bs = simp (b, e) in
                files_more bs bs s x code [] f (simp (b, e)) (simp b) (files xs bs s' (rest (unfilled bs) f))
          ]
    ]

-- whatever the limits, what is expected of a code is filed so
pub files_expected : (xs : List ℕ) → Expects bits_meaning (unfilled []) (code_of xs) → FilesChoices (code_of xs)
files_expected xs h =
    let r = files xs [] nothing h in
    record { position = r.position; stock = fun_ext r.stock }

pub files_choices : (xs : List ℕ) → all_taken bits_meaning (unfilled []) nothing (code_of xs) ≡ true → FilesChoices (code_of xs)
files_choices xs h = files_expected xs (expects_taken bits_meaning (unfilled []) nothing (code_of xs) h)

-- what is answered after the items is answered only where all are taken
ok_taken : (a : Result (Unit {0}) Fault) (b : Result ℕ Fault) (n : ℕ) → Ok n ≡ if_taken a b → is_ok a ≡ true
ok_taken (Ok x) b n h = refl
ok_taken (Err f) b n h = absurd (let z : ◌≡◌ {A = ℕ} 0 1 = cc in omega arith)

-- what is poured after all items is what they have added
pub written_all : (m : Meaning) (p : m.Position) (s : Stocks) (code : List ℕ) (c : ℕ) (r b : Result ℕ Fault) (want old new : List ℕ)
    → r ≡ if_taken (hand_answer m p s code) b
    → new ≡ cond (is_ok r) (fronted (stocks_then m p s code c) old) old
    → (all_taken m p s code ≡ true → grown_by m p s code c ≡ want)
    → new ≡ cond (is_ok r) (fronted want old) old
written_all m p s code c (Ok n) b want old new e f g =
    let h = ok_taken (hand_answer m p s code) b n e in
    f ∙ ap (λ (xs : List ℕ). fronted xs old) (ap (λ (ys : List ℕ). grown_by m p s ys c) (all_items m p s code h) ∙ g h)
written_all m p s code c (Err y) b want old new e f g = f

pub filed_all : (xs code : List ℕ) → code ≡ code_of xs → all_taken bits_meaning (unfilled []) nothing code ≡ true
    → grown_by bits_meaning (unfilled []) nothing code 0 ≡ packed (choices code)
filed_all xs code e h =
    let all = sym (ap (all_taken bits_meaning (unfilled []) nothing) e) ∙ h in
    ap (λ (ys : List ℕ). grown_by bits_meaning (unfilled []) nothing ys 0) e
    ∙ ap (λ (t : Stocks). t 0) (files_choices xs all).stock
    ∙ ap (λ (ys : List ℕ). packed (choices ys)) (sym e)
