-- When the sink of text takes an item, and what its one channel holds then.
use Rattle.std.proofs.Common.{◌≡◌, ℕ, ◌+◌, ◌<◌, ◌≤◌, true, false, cond, eqb, leb, List, [], ◌∷◌, ◌++◌, length, Some, None, Ok, Err, Option, Result, sym, refl, ap, ◌∙◌, append_assoc, append-nil, subst, arith, length-append}
use mathlib.Core.Path.{fun_ext}
use Rattle.std.proofs.lemmas.Bool.{le-leb, lt-leb}
use Rattle.std.specs.List.{slice_get}
use Rattle.std.specs.Result.{IsOk}
use Rattle.fault.specs.declared.refusal.Fault.{Fault}
use Rattle.fault.specs.declared.cause.Cause.TheVariants.{NotExpected, ChannelFull}
use Rattle.alphabet.specs.Items.{end_mark}
use Rattle.pattern.specs.declared.point.Point.{Point}
use Rattle.pattern.specs.declared.point.Point.TheVariants as point
use Rattle.pattern.specs.Patterns.{points_of, text_of}
use Rattle.sink.specs.Held.{held}
use Rattle.sink.specs.Limits.{stock_bytes}
use Rattle.sink.specs.Meaning.{Stocks, nothing, alone, sink_fault, take_answer, grown}
use Rattle.sink.specs.Handing.{moved_by, grown_by}
use Rattle.sink.proofs.Handings.{Expects}
use Rattle.text.specs.declared.text.Text.{Text}
use Rattle.text.specs.declared.manner.Manner.{Manner}
use Rattle.text.specs.declared.kind.Kind.{Kind}
use Rattle.text.specs.declared.moving.Move.{Move}
use Rattle.text.specs.Passing.{settled, passed}
use Rattle.text.specs.Moving.{Moves, Moved}
use Rattle.text.specs.Planning.{Plans}
use Rattle.text.specs.TextMeaning.{TextPosition, at, ended, place, kind_of, next_at, met, expected_at, text_meaning, text_expected, text_next, text_added, text_of_items}
use Rattle.text.specs.TextState.{place_in, text_position, text_stock}

module _ (q : TextPosition) (h : List ℕ) (i : ℕ) where
  text_takes : text_expected q i ≡ true → length h + length (text_added q i) ≤ stock_bytes → take_answer text_meaning q (alone h []) i ≡ Ok tt
  text_takes e l =
      let f = le-leb (length h + length (text_added q i)) stock_bytes l in
      simp (e, f)

  text_full : text_expected q i ≡ true → stock_bytes < length h + length (text_added q i) → Err (sink_fault ChannelFull) ≡ take_answer text_meaning q (alone h []) i
  text_full e l =
      let f = lt-leb (length h + length (text_added q i)) stock_bytes l in
      simp (e, f)

  text_unexpected : text_expected q i ≡ false → Err (sink_fault NotExpected) ≡ take_answer text_meaning q (alone h []) i
  text_unexpected e = simp e

-- a plan made of what passing and moving answer
module _ (s : Text) (from : ℕ) (i : ℕ) (here : s.point ≡ Some from)
    (k : Kind) (meets : k ≡ met (points_of s.pattern.now) from) (r : Option Move) (moved : Moved s.manner k i r) where
  abbrev texts : List ℕ
  texts = passed (points_of s.pattern.now) (text_of s.pattern.now) from

  abbrev at_point : Option ℕ → TextPosition
  at_point o = place_in s.pattern.now s.manner o

  -- the point past the texts does not expect the item
  pub unexpected_here : r ≡ None → Err (sink_fault NotExpected) ≡ take_answer text_meaning (text_position s) (text_stock s) i
  unexpected_here e =
      text_unexpected (text_position s) (held s.stock) i
      (ap (λ (o : Option ℕ). text_expected (at_point o) i) here
      ∙ sym (ap (λ (q : Kind). expected_at s.manner q i) meets)
      ∙ subst (Moved s.manner k i) e moved)

  module _ (v : Move) (e : r ≡ Some v) where
    moves : Moves s.manner (met (points_of s.pattern.now) from) i v
    moves = subst (λ (q : Kind). Moves s.manner q i v) meets (subst (Moved s.manner k i) e moved)

    added_here : texts ++ v.tail.items ≡ text_added (text_position s) i
    added_here = ap (λ (x : List ℕ). texts ++ x) moves.adds ∙ ap (λ (o : Option ℕ). text_added (at_point o) i) (sym here)

    long_here : length (text_added (text_position s) i) ≡ length texts + length v.tail.items
    long_here = sym (ap length added_here) ∙ length-append texts v.tail.items

    expected_here : text_expected (text_position s) i ≡ true
    expected_here = ap (λ (o : Option ℕ). text_expected (at_point o) i) here ∙ moves.expects

    next_here : at_point v.next ≡ text_next (text_position s) i
    next_here = ap at_point moves.goes ∙ ap (λ (o : Option ℕ). text_next (at_point o) i) (sym here)

    pub plans_here : length (held s.stock) + (length texts + length v.tail.items) ≤ stock_bytes
        → Plans s i record { texts = record { pattern = s.pattern; at = from }; then = v }
    plans_here l =
        let room : length (held s.stock) + length (text_added (text_position s) i) ≤ stock_bytes = omega (arith, long_here) in
        record {
          taken = text_takes (text_position s) (held s.stock) i expected_here room;
          goes = next_here;
          adds = added_here;
          fits = room;
        }

    pub full_here : stock_bytes < length (held s.stock) + (length texts + length v.tail.items)
        → Err (sink_fault ChannelFull) ≡ take_answer text_meaning (text_position s) (text_stock s) i
    full_here l = text_full (text_position s) (held s.stock) i expected_here (omega (arith, long_here))

pub alone_grown : (h a : List ℕ) → alone (h ++ a) [] ≡ (λ c. alone h [] c ++ alone a [] c)
alone_grown h a = fun_ext (λ c. elim (eqb c 0) as (λ b. cond b (h ++ a) [] ≡ cond b h [] ++ cond b a []) [ true ↦ refl | false ↦ refl ])

-- a stock that has room for some bytes takes them
pub taken_in : (h t : List ℕ) (r : Result (Unit {0}) Fault) → length h + length t ≤ stock_bytes
    → r ≡ cond (leb (length h + length t) stock_bytes) (Ok tt) (Err (sink_fault ChannelFull)) → IsOk r
taken_in h t r l e = let f = le-leb (length h + length t) stock_bytes l in simp (e, f)

-- what items add to the one channel is their text
adds_from : (q : TextPosition) (s : Stocks) (is : List ℕ) (c : ℕ) → grown_by text_meaning q s is c ≡ s c ++ alone (text_of_items q is) [] c
adds_from q s [] c = elim (eqb c 0) as (λ b. s c ≡ s c ++ cond b [] []) [ true ↦ sym (append-nil (s c)) | false ↦ sym (append-nil (s c)) ]
adds_from q s (i ∷ is) c =
    adds_from (text_next q i) (grown text_meaning q s i) is c
    ∙ append_assoc (s c) (alone (text_added q i) [] c) (alone (text_of_items (text_next q i) is) [] c)
    ∙ ap (λ (x : List ℕ). s c ++ x) (ap (λ (f : Stocks). f c) (sym (alone_grown (text_added q i) (text_of_items (text_next q i) is))))

pub adds_text : (q : TextPosition) (is : List ℕ) → grown_by text_meaning q nothing is ≡ alone (text_of_items q is) []
adds_text q is = fun_ext (adds_from q nothing is)

-- after the end mark a sink of text has ended

end_at : (ps : List Point) (ts : List ℕ) (m : Manner) (o : Option Point) → expected_at m (kind_of o) end_mark ≡ true → place ps ts m (next_at (kind_of o) end_mark) ≡ ended
end_at ps ts m None h = refl
end_at ps ts m (Some (point.Read keep class next)) h = cc
end_at ps ts m (Some (point.Text start len next)) h = cc
end_at ps ts m (Some (point.Choice a b)) h = cc
end_at ps ts m (Some (point.Star a b)) h = cc

ends_at : (q : TextPosition) → text_expected q end_mark ≡ true → text_next q end_mark ≡ ended
ends_at (at ps ts m k) h = end_at ps ts m (slice_get ps (settled ps k)) h
ends_at ended h = refl

pub text_ended : (q : TextPosition) (xs : List ℕ) → Expects text_meaning q (xs ++ end_mark ∷ []) → moved_by text_meaning q (xs ++ end_mark ∷ []) ≡ ended
text_ended q [] h = ends_at q h.0
text_ended q (x ∷ xs) h = text_ended (text_next q x) xs h.1
