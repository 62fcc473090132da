-- A replay into a fresh sink of bits files the bytes again, alone and beside another sink.
use Rattle.std.proofs.Common.{◌≡◌, ℕ, Bool, true, false, cond, List, [], ◌∷◌, is_ok, Some, None, Ok, Err, Option, Result, sym, refl, ap, ◌∙◌, subst, arith}
use Rattle.std.specs.List.{slice_get}
use Rattle.fault.specs.declared.refusal.Fault.{Fault}
use Rattle.alphabet.specs.Items.{end_mark}
use Rattle.alphabet.specs.Choices.{choices, packed}
use Rattle.alphabet.specs.Meaning.{Meaning as Letters}
use Rattle.pattern.specs.declared.pattern.Pattern.{Pattern}
use Rattle.pattern.specs.declared.point.Point.{Point}
use Rattle.pattern.specs.declared.point.Point.TheVariants as point
use Rattle.pattern.specs.Expressions.{Expr}
use Rattle.walk.specs.Codes.{Code}
use Rattle.walk.specs.Theorems.{GreedyIn}
use Rattle.sink.specs.Meaning.{Meaning, Stocks, nothing, alone, take_answer, grown, fits}
use Rattle.sink.specs.PairMeaning.{pair_meaning, pair_stocks}
use Rattle.sink.specs.BitsMeaning.{BitsPosition, bits_meaning, unfilled, ended}
use Rattle.sink.specs.Handing.{moved_by, grown_by, hand_answer, all_taken}
use Rattle.sink.proofs.PairLaws.{pair_grown, takes_first, takes_second}
use Rattle.sink.proofs.Filing.{files_choices}
use Rattle.text.specs.declared.manner.Manner.{Manner}
use Rattle.text.specs.Passing.{settled}
use Rattle.text.specs.TextMeaning as text
use Rattle.text.specs.TextMeaning.{TextPosition, text_meaning, text_next, text_expected, expected_at, next_at, place, kind_of}
use Rattle.text.specs.TextState.{start_of}
use Rattle.text.proofs.Taking.{adds_text}
use Rattle.replay.specs.Tracing.{complete}
use Rattle.replay.specs.Outcome.{Outcome}
use Rattle.replay.specs.Theorems.{marked, Filed}
use Rattle.replay.specs.Refiling.{Refiles, RefilesBeside, RefilesGreedy, RefilesText}
use Rattle.replay.proofs.Packing.{unpacked}
use Rattle.replay.proofs.Follow.{choices_marked, outcome_whole, replay_walks, replay_accepted}

-- pairs, item after item

both_taken : (a b : Result (Unit {0}) Fault) → is_ok (cond (is_ok a) b a) ≡ true → (Ok tt ≡ a) × (is_ok b ≡ true)
both_taken (Ok x) b h = (refl, h)
both_taken (Err f) b h = let z : ◌≡◌ {A = ℕ} 0 1 = cc in absurd (omega arith)

all_of : (a b : Result (Unit {0}) Fault) → a ≡ Ok tt → is_ok b ≡ true → is_ok (cond (is_ok a) b a) ≡ true
all_of (Ok x) b h k = k
all_of (Err f) b h k = let z : ◌≡◌ {A = ℕ} 0 1 = cc in absurd (omega arith)

module _ (m n : Meaning) where
  grown_pair : (p : m.Position) (q : n.Position) (s t : Stocks) (i : ℕ) → grown (pair_meaning m n) (p, q) (pair_stocks s t) i ≡ pair_stocks (grown m p s i) (grown n q t i)
  grown_pair p q s t i = pair_grown s t (m.added p i) (n.added q i)

  grown_pair_by : (p : m.Position) (q : n.Position) (s t : Stocks) (c : Code) → grown_by (pair_meaning m n) (p, q) (pair_stocks s t) c ≡ pair_stocks (grown_by m p s c) (grown_by n q t c)
  grown_pair_by p q s t [] = refl
  grown_pair_by p q s t (i ∷ c) =
      ap (λ (z : Stocks). grown_by (pair_meaning m n) (m.next p i, n.next q i) z c) (grown_pair p q s t i) ∙ grown_pair_by (m.next p i) (n.next q i) (grown m p s i) (grown n q t i) c

  pub moved_pair_by : (p : m.Position) (q : n.Position) (c : Code) → moved_by (pair_meaning m n) (p, q) c ≡ (moved_by m p c, moved_by n q c)
  moved_pair_by p q [] = refl
  moved_pair_by p q (i ∷ c) = moved_pair_by (m.next p i) (n.next q i) c

  -- what a pair takes, each takes
  each_taken : (p : m.Position) (q : n.Position) (s t : Stocks) (c : Code) → all_taken (pair_meaning m n) (p, q) (pair_stocks s t) c ≡ true →
      (all_taken m p s c ≡ true) × (all_taken n q t c ≡ true)
  each_taken p q s t [] h = (refl, refl)
  each_taken p q s t (i ∷ c) h =
      let a = take_answer (pair_meaning m n) (p, q) (pair_stocks s t) i in
      let b = hand_answer (pair_meaning m n) (m.next p i, n.next q i) (grown (pair_meaning m n) (p, q) (pair_stocks s t) i) c in
      let k = both_taken a b h in
      let r = each_taken (m.next p i) (n.next q i) (grown m p s i) (grown n q t i) c
      (subst (λ (z : Stocks). all_taken (pair_meaning m n) (m.next p i, n.next q i) z c ≡ true) (grown_pair p q s t i) k.1) in (
        all_of (take_answer m p s i) (hand_answer m (m.next p i) (grown m p s i) c) (takes_first m n p q s t i tt k.0) r.0,
        all_of (take_answer n q t i) (hand_answer n (n.next q i) (grown n q t i) c) (takes_second m n p q s t i tt k.0) r.1,
      )

-- the bits of a code with the end mark

bits_moved : (c : Code) → all_taken bits_meaning (unfilled []) nothing (marked c) ≡ true → moved_by bits_meaning (unfilled []) (marked c) ≡ ended
bits_moved c h = (files_choices c h).position

bits_stocked : (c : Code) (bytes : List ℕ) → bytes ≡ packed (choices c) → all_taken bits_meaning (unfilled []) nothing (marked c) ≡ true →
    grown_by bits_meaning (unfilled []) nothing (marked c) ≡ alone bytes []
bits_stocked c bytes e h = (files_choices c h).stock ∙ ap (λ (z : List ℕ). alone z []) (ap packed (choices_marked c) ∙ sym e)

module _ {Symbol : Type 0} (L : Letters Symbol) (P : Pattern) where
  pub refiles : Refiles L P
  refiles e h bytes each w r p s x n k =
      let t = replay_accepted L P e h bytes each w bits_meaning (unfilled []) nothing r p s x n k in
      (t.3.moved ∙ bits_moved t.0 t.3.taken, t.3.stocked ∙ bits_stocked t.0 bytes t.1.packs t.3.taken)

  pub refiles_beside : (m : Meaning) → RefilesBeside L P m
  refiles_beside m e h bytes each w q t r p s x n k =
      let y = replay_accepted L P e h bytes each w (pair_meaning bits_meaning m) (unfilled [], q) (pair_stocks nothing t) r p s x n k in
      let c = y.0 in
      let all = (each_taken bits_meaning m (unfilled []) q nothing t (marked c) y.3.taken).0 in
      record {
        code = c;
        filed = y.1;
        count = y.2;
        moved = y.3.moved ∙ moved_pair_by bits_meaning m (unfilled []) q (marked c) ∙ ap (λ (z : BitsPosition). (z, moved_by m q (marked c))) (bits_moved c all);
        stocked = y.3.stocked ∙ grown_pair_by bits_meaning m (unfilled []) q nothing t (marked c)
            ∙ ap (λ (z : Stocks). pair_stocks z (grown_by m q t (marked c))) (bits_stocked c bytes y.1.packs all);
      }

  -- a code that is the greedy one is filed
  greedy_filed : (e : Expr) (w : List Symbol) (g : Code) (y : GreedyIn L e w g) → Filed L e (packed (choices g)) w y.0
  greedy_filed e w g y = record { walk = y.1.0; packs = ap (λ (d : Code). packed (choices d)) y.2 ∙ ap packed (choices_marked y.0) }

  pub refiles_greedy : (m : Meaning) → RefilesGreedy L P m
  refiles_greedy m e h known w g y q t all r p s x =
      let c = y.0 in
      let n = pair_meaning bits_meaning m in
      let bytes = packed (choices g) in
      let f = (replay_walks L P bytes w n (unfilled [], q) (pair_stocks nothing t) r p s (unpacked (choices g)).bytes x e h).any known in
      let o = subst (λ (d : Code). Outcome n (unfilled [], q) (pair_stocks nothing t) d complete r p s) (sym y.2) (f.hands c (greedy_filed e w g y)) in
      let k = outcome_whole n (unfilled [], q) (pair_stocks nothing t) g r p s o all in
      let bits = (each_taken bits_meaning m (unfilled []) q nothing t g all).0 in
      let marked_bits = subst (λ (d : Code). all_taken bits_meaning (unfilled []) nothing d ≡ true) y.2 bits in
      record {
        answers = k.0;
        moved = k.1 ∙ moved_pair_by bits_meaning m (unfilled []) q g
            ∙ ap (λ (z : BitsPosition). (z, moved_by m q g)) (ap (moved_by bits_meaning (unfilled [])) y.2 ∙ bits_moved c marked_bits);
        stocked = k.2 ∙ grown_pair_by bits_meaning m (unfilled []) q nothing t g
            ∙ ap (λ (z : Stocks). pair_stocks z (grown_by m q t g)) (ap (grown_by bits_meaning (unfilled []) nothing) y.2 ∙ bits_stocked c bytes (greedy_filed e w g y).packs marked_bits);
      }

-- after the end mark a sink of text has ended

expected_so : (b c : Bool) (f g : Fault) → ◌≡◌ {A = Result (Unit {0}) Fault} (Ok tt) (cond b (cond c (Ok tt) (Err f)) (Err g)) → b ≡ true
expected_so true c f g h = refl
expected_so false c f g h = let z : ◌≡◌ {A = ℕ} 0 1 = cc in absurd (omega arith)

never_false : {X : Type 0} → false ≡ true → X
never_false e = let z : ◌≡◌ {A = ℕ} 0 1 = cc in absurd (omega arith)

end_at : (ps : List Point) (ts : List ℕ) (m : Manner) (o : Option Point) → expected_at m (kind_of o) end_mark ≡ true → place ps ts m (next_at (kind_of o) end_mark) ≡ text.ended
end_at ps ts m None h = refl
end_at ps ts m (Some (point.Read keep class next)) h = never_false h
end_at ps ts m (Some (point.Text start len next)) h = never_false h
end_at ps ts m (Some (point.Choice a b)) h = never_false h
end_at ps ts m (Some (point.Star a b)) h = never_false h

text_last : (q : TextPosition) (s : Stocks) → Ok tt ≡ take_answer text_meaning q s end_mark → text_next q end_mark ≡ text.ended
text_last (text.at ps ts m k) s h = end_at ps ts m (slice_get ps (settled ps k)) (expected_so (text_expected (text.at ps ts m k) end_mark) (fits text_meaning (text.at ps ts m k) s end_mark) _ _ h)
text_last text.ended s h = refl

text_moved : (q : TextPosition) (s : Stocks) (c : Code) → all_taken text_meaning q s (marked c) ≡ true → moved_by text_meaning q (marked c) ≡ text.ended
text_moved q s [] h = text_last q s (both_taken (take_answer text_meaning q s end_mark) (Ok tt) h).0
text_moved q s (i ∷ c) h =
    text_moved (text_next q i) (grown text_meaning q s i) c
    (both_taken (take_answer text_meaning q s i) (hand_answer text_meaning (text_next q i) (grown text_meaning q s i) (marked c)) h).1

module _ {Symbol : Type 0} (L : Letters Symbol) (P : Pattern) where
  pub refiles_text : RefilesText L P
  refiles_text e h known w g y manner all r p s x =
      let q = start_of P manner in
      let k = refiles_greedy L P text_meaning e h known w g y q nothing all r p s x in
      let t = subst (λ (d : Code). all_taken text_meaning q nothing d ≡ true) y.2 (each_taken bits_meaning text_meaning (unfilled []) q nothing nothing g all).1 in
      record {
        answers = k.answers;
        moved = k.moved ∙ ap (λ (z : TextPosition). (ended, z)) (ap (moved_by text_meaning q) y.2 ∙ text_moved q nothing y.0 t);
        stocked = k.stocked ∙ ap (λ (z : Stocks). pair_stocks (alone (packed (choices g)) []) z) (adds_text q g);
      }
