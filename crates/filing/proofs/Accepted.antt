-- A reading that is answered: all symbols fed are read, and what is filed is the greedy walk's.
use Rattle.std.proofs.Common.{◌≡◌, ℕ, true, List, [], ◌∷◌, ◌++◌, length, Some, None, Ok, Option, sym, refl, ap, ◌∙◌, subst, ap₂, inl, inr, append-nil}
use Rattle.std.proofs.lemmas.Bool.{and_parts}
use Rattle.fault.specs.declared.refusal.Fault.{Fault}
use Rattle.alphabet.specs.Choices.{choices, packed}
use Rattle.alphabet.specs.Items.{end_mark}
use Rattle.alphabet.specs.Meaning.{Meaning}
use Rattle.pattern.specs.declared.pattern.Pattern.{Pattern}
use Rattle.pattern.specs.Patterns.{entry_of}
use Rattle.sink.specs.Meaning.{Meaning as SinkMeaning, Stocks, nothing}
use Rattle.sink.specs.BitsMeaning.{BitsPosition, bits_meaning, unfilled, ended}
use Rattle.sink.specs.PairMeaning.{pair_meaning}
use Rattle.sink.specs.Handing.{moved_by}
use Rattle.sink.proofs.Handings.{Expects}
use Rattle.sink.proofs.Filing.{files_expected}
use Rattle.text.specs.declared.manner.Manner.{Manner}
use Rattle.text.specs.TextMeaning as text
use Rattle.text.specs.TextMeaning.{TextPosition, text_meaning, text_added, text_next, text_of_items}
use Rattle.text.specs.TextState.{start_of}
use Rattle.text.proofs.Taking.{text_ended}
use Rattle.walk.specs.Codes.{Code}
use Rattle.walk.proofs.Lists.{live_one}
use Rattle.replay.proofs.Refiled.{moved_pair_by}
use Rattle.run.specs.declared.calls.Call.{Call}
use Rattle.run.specs.declared.calls.Answer.{Answer}
use Rattle.run.specs.declared.finished.Finished.{Finished}
use Rattle.walk.specs.Graphs.{graph_of}
use Rattle.run.specs.Words.{end_of, Known, CodesAs}
use Rattle.run.specs.Sinks.{Standing}
use Rattle.run.specs.Stages.{Stage, OpenEnded, Closed}
use Rattle.run.specs.Performed.{Reads}
use Rattle.filing.specs.Channels.{written, fed}
use Rattle.filing.specs.Filed.{bits_and_text, fresh, Files}
use Rattle.filing.proofs.Courses.{open_or_failed, grown_written}
use Rattle.filing.proofs.Feeding.{Feeding, through_feeding}
use Rattle.filing.proofs.Kept.{all_handed}

module _ {S : Type 0} (L : Meaning S) (p : Pattern) (K : SinkMeaning) where
  -- where a finish is answered the run was open
  open_at_last : (a : Stage S K.Position) (t : Standing K.Position) (r : Finished) → Closed L p K a t (Ok r) → a.fault ≡ None
  open_at_last a t r h =
      elim (open_or_failed a.fault) [ inl e ↦ e | inr e ↦ cc ((h.failed e.0 e.1).0) ]

  known_open : (b : Stage S K.Position) (o : Option Fault) → o ≡ None → OpenEnded L p K b o → Known L p
  known_open b None e h = h.0
  known_open b (Some f) e h = cc

  module _ {s : Standing K.Position} {calls : List (Call S)} {log : List Answer} {x : List ℕ} {n : ℕ} {r : Finished}
      {t : Standing K.Position} {log' : List Answer} {y : List ℕ} (R : Reads L p K s calls log x true n (Some (Ok r)) t log' y) where
    feeding : Feeding L p K R.first R.final (fed calls)
    feeding = through_feeding L p K R.first x calls R.answers R.final y R.through

    stayed_open : (R.first.fault ≡ None) × (feeding.rest ≡ [])
    stayed_open = feeding.opened (open_at_last R.final t r R.ends)

    -- an answered reading has read all symbols fed, and its alphabet has all classes of the pattern
    pub fed_is_read : R.final.read ≡ fed calls
    fed_is_read =
        sym (append-nil R.final.read)
        ∙ ap (λ (v : List S). R.final.read ++ v) (sym stayed_open.1)
        ∙ sym feeding.read
        ∙ ap (λ (v : List S). v ++ fed calls) R.opened.reads

    pub classes_known : Known L p
    classes_known = known_open R.first R.first.fault stayed_open.0 R.opened.ended

-- the two sinks of a pair

expects_both : (m n : SinkMeaning) (p : m.Position) (q : n.Position) (xs : Code) → Expects (pair_meaning m n) (p, q) xs → Expects m p xs × Expects n q xs
expects_both m n p q [] h = (tt, tt)
expects_both m n p q (x ∷ xs) h =
    let here = and_parts (m.expected p x) (n.expected q x) h.0 in
    let rest = expects_both m n (m.next p x) (n.next q x) xs h.1 in
    ((here.0, rest.0), (here.1, rest.1))

first_written : (m n : SinkMeaning) (p : m.Position) (q : n.Position) (xs : Code) → written (pair_meaning m n) 0 (p, q) xs ≡ written m 0 p xs
first_written m n p q [] = refl
first_written m n p q (x ∷ xs) = ap (λ (b : List ℕ). m.added p x 0 ++ b) (first_written m n (m.next p x) (n.next q x) xs)

second_written : (m n : SinkMeaning) (p : m.Position) (q : n.Position) (xs : Code) → written (pair_meaning m n) 1 (p, q) xs ≡ written n 0 q xs
second_written m n p q [] = refl
second_written m n p q (x ∷ xs) = ap (λ (b : List ℕ). n.added q x 0 ++ b) (second_written m n (m.next p x) (n.next q x) xs)

-- what items write to a sink of text is their text
text_written : (q : TextPosition) (xs : Code) → written text_meaning 0 q xs ≡ text_of_items q xs
text_written q [] = refl
text_written q (x ∷ xs) = ap (λ (b : List ℕ). text_added q x ++ b) (text_written (text_next q x) xs)

-- what a code writes to a fresh sink of bits is its choices, packed
bits_written : (xs : Code) → Expects bits_meaning (unfilled []) (xs ++ (end_mark ∷ [])) → written bits_meaning 0 (unfilled []) (xs ++ (end_mark ∷ [])) ≡ packed (choices (xs ++ (end_mark ∷ [])))
bits_written xs h =
    let g = xs ++ (end_mark ∷ []) in
    sym (grown_written bits_meaning 0 (unfilled []) nothing g) ∙ ap (λ (s : Stocks). s 0) (files_expected xs h).stock

module _ (q : TextPosition) (g xs : Code) (marked : g ≡ xs ++ (end_mark ∷ [])) (h : Expects bits_and_text (unfilled [], q) g) where
  abbrev each : Expects bits_meaning (unfilled []) (xs ++ (end_mark ∷ [])) × Expects text_meaning q (xs ++ (end_mark ∷ []))
  each = expects_both bits_meaning text_meaning (unfilled []) q (xs ++ (end_mark ∷ [])) (subst (Expects bits_and_text (unfilled [], q)) marked h)

  pub code_chosen : written bits_and_text 0 (unfilled [], q) g ≡ packed (choices g)
  code_chosen =
      first_written bits_meaning text_meaning (unfilled []) q g
      ∙ ap (written bits_meaning 0 (unfilled [])) marked ∙ bits_written xs each.0 ∙ ap (λ (c : Code). packed (choices c)) (sym marked)

  pub code_told : written bits_and_text 1 (unfilled [], q) g ≡ text_of_items q g
  code_told = second_written bits_meaning text_meaning (unfilled []) q g ∙ text_written q g

  pub code_over : moved_by bits_and_text (unfilled [], q) g ≡ (ended, text.ended)
  code_over =
      ap (moved_by bits_and_text (unfilled [], q)) marked
      ∙ moved_pair_by bits_meaning text_meaning (unfilled []) q (xs ++ (end_mark ∷ []))
      ∙ ap₂ (λ (a : BitsPosition) (b : TextPosition). (a, b)) (files_expected xs each.0).position (text_ended q xs each.1)

module _ {S : Type 0} (L : Meaning S) (p : Pattern) {manner : Manner} {calls : List (Call S)} {log : List Answer} {x : List ℕ} {n : ℕ} {r : Finished}
    {t : Standing bits_and_text.Position} {log' : List Answer} {y : List ℕ} (R : Reads L p bits_and_text (fresh p manner) calls log x true n (Some (Ok r)) t log' y) where
  pub filed_whole : Files L p R r
  filed_whole =
      let all = all_handed L p bits_and_text R in
      let k = all.kept in
      let g = k.items in
      let q = start_of p manner in
      let read = fed_is_read L p bits_and_text R in
      let here : CodesAs L p (fed calls) g = subst (λ (w : List S). CodesAs L p w g) read k.handed.0 in
      let c = here.0 in
      record {
        code = g;
        greedy = here;
        only = λ h i. i.2 ∙ ap (λ (d : Code). d ++ (end_mark ∷ [])) (live_one L (graph_of p) (entry_of p) (fed calls) (end_of p) i.0 c i.1 here.1) ∙ sym here.2;
        items = k.handed.1;
        symbols = k.handed.2 ∙ ap length read;
        chosen = k.channels 0 ∙ code_chosen q g c here.2 all.expects;
        told = k.channels 1 ∙ code_told q g c here.2 all.expects;
        over = k.moved ∙ code_over q g c here.2 all.expects;
      }
