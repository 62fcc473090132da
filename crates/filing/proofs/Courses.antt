-- What calls make of a sink's channels, from stage to stage.
use Rattle.std.proofs.Common.{◌≡◌, ℕ, cond, eqb, ◌⊎◌, List, [], ◌∷◌, ◌++◌, length, take, drop, is_ok, Some, None, Ok, Err, Option, Result, sym, refl, ap, ◌∙◌, subst, ap₂, inl, inr, append_assoc, append-nil}
use Rattle.std.proofs.lemmas.Bool.{cases_Bool, eqb-true}
use Rattle.fault.specs.declared.refusal.Fault.{Fault}
use Rattle.alphabet.specs.Meaning.{Meaning}
use Rattle.pattern.specs.declared.pattern.Pattern.{Pattern}
use Rattle.sink.specs.Meaning.{Meaning as SinkMeaning, Stocks, grown, emptied, fronted}
use Rattle.sink.specs.Handing.{moved_by, grown_by}
use Rattle.sink.proofs.Handings.{moved_by_append, Expects, expects_taken, expects_append}
use Rattle.sink.proofs.Exactness.{exact}
use Rattle.walk.specs.Codes.{Code}
use Rattle.run.specs.declared.calls.Call.{Call}
use Rattle.run.specs.declared.calls.Call.TheVariants.{Feed, Pour}
use Rattle.run.specs.declared.calls.Answer.{Answer}
use Rattle.run.specs.declared.calls.Answer.TheVariants.{Fed as FedAnswer, Poured as PouredAnswer}
use Rattle.run.specs.Sinks.{Standing, after_items, Takes}
use Rattle.run.specs.Stages.{Stage, Fed}
use Rattle.run.specs.Performed.{Poured, Through}
use Rattle.filing.specs.Channels.{written, brought, drawn}

-- a run is open or has failed
pub open_or_failed : (o : Option Fault) → (o ≡ None) ⊎ ((f : Fault) × (o ≡ Some f))
open_or_failed None = inl refl
open_or_failed (Some f) = inr (f, refl)

-- the front of a buffer that bytes were written to
front_is : (xs ys : List ℕ) → take (length xs) (xs ++ ys) ≡ xs
front_is [] ys = refl
front_is (x ∷ xs) ys = ap (λ (zs : List ℕ). x ∷ zs) (front_is xs ys)

module _ (K : SinkMeaning) where
  written_append : (c : ℕ) (p : K.Position) (xs ys : Code) → written K c p (xs ++ ys) ≡ written K c p xs ++ written K c (moved_by K p xs) ys
  written_append c p [] ys = refl
  written_append c p (x ∷ xs) ys =
      ap (λ (b : List ℕ). K.added p x c ++ b) (written_append c (K.next p x) xs ys)
      ∙ sym (append_assoc (K.added p x c) (written K c (K.next p x) xs) (written K c (moved_by K p (x ∷ xs)) ys))

  -- what the items write comes behind what the channel holds
  pub grown_written : (c : ℕ) (p : K.Position) (s : Stocks) (xs : Code) → grown_by K p s xs c ≡ s c ++ written K c p xs
  grown_written c p s [] = sym (append-nil (s c))
  grown_written c p s (x ∷ xs) =
      grown_written c (K.next p x) (grown K p s x) xs ∙ append_assoc (s c) (K.added p x c) (written K c (K.next p x) xs)

  -- from the stage a to the stage z: the items handed over, each of which the sink expected; where the sink stands; and what came out of each channel
  pub record Course {S : Type 0} (a z : Stage S K.Position) (out : ℕ → List ℕ) : Type 0 where
    pub items : Code
    pub hands : z.handed ≡ a.handed ++ items
    pub moved : z.sink.position ≡ moved_by K a.sink.position items
    pub expects : Expects K a.sink.position items
    pub channels : (c : ℕ) → out c ++ z.sink.stocks c ≡ a.sink.stocks c ++ written K c a.sink.position items

  -- items taken, with nothing poured
  pub taken_course : {S : Type 0} (a z : Stage S K.Position) (items : Code) → z.handed ≡ a.handed ++ items → Takes K a.sink items
      → z.sink ≡ after_items K a.sink items → Course a z (λ c. [])
  taken_course a z items hands takes stood =
      record {
        items = items;
        hands = hands;
        moved = ap (λ (t : Standing K.Position). t.position) stood;
        expects = expects_taken K a.sink.position a.sink.stocks items takes;
        channels = λ c. ap (λ (t : Standing K.Position). t.stocks c) stood ∙ grown_written c a.sink.position a.sink.stocks items;
      }

  pub still_course : {S : Type 0} (a z : Stage S K.Position) → z ≡ a → Course a z (λ c. [])
  still_course a z e = taken_course a z [] (ap (λ (b : Stage _ K.Position). b.handed) e ∙ sym (append-nil a.handed)) refl (ap (λ (b : Stage _ K.Position). b.sink) e)

  -- one course after another
  pub course_then : {S : Type 0} (a b z : Stage S K.Position) (out more : ℕ → List ℕ) → Course a b out → Course b z more → Course a z (λ c. out c ++ more c)
  course_then a b z out more f g =
      let p = a.sink.position in
      let here = f.moved in
      record {
        items = f.items ++ g.items;
        hands = g.hands ∙ ap (λ (h : Code). h ++ g.items) f.hands ∙ append_assoc a.handed f.items g.items;
        moved = g.moved ∙ ap (λ (q : K.Position). moved_by K q g.items) here ∙ sym (moved_by_append K p f.items g.items);
        expects = expects_append K p f.items g.items f.expects (subst (λ (q : K.Position). Expects K q g.items) here g.expects);
        channels = λ c.
            append_assoc (out c) (more c) (z.sink.stocks c)
            ∙ ap (λ (b : List ℕ). out c ++ b) (g.channels c)
            ∙ sym (append_assoc (out c) (b.sink.stocks c) (written K c b.sink.position g.items))
            ∙ ap₂ (λ (u : List ℕ) (q : K.Position). u ++ written K c q g.items) (f.channels c) here
            ∙ append_assoc (a.sink.stocks c) (written K c p f.items) (written K c (moved_by K p f.items) g.items)
            ∙ ap (λ (b : List ℕ). a.sink.stocks c ++ b) (sym (written_append c p f.items g.items));
      }

  -- what a pour brings out of a channel and what stays in it are what it held
  pour_keeps : (S : Type 0) (c channel : ℕ) (s : Stocks) (x u : List ℕ) (r : Result ℕ Fault) → ((n : ℕ) → r ≡ Ok n → n ≡ length (s channel))
      → u ≡ cond (is_ok r) (fronted (s channel) x) x
      → brought {S = S} c (Pour channel) (PouredAnswer r) u ++ cond (is_ok r) (emptied s channel) s c ≡ s c ++ []
  pour_keeps S c channel s x u (Err f) count e = sym (append-nil (s c))
  pour_keeps S c channel s x u (Ok n) count e =
      elim (cases_Bool (eqb c channel)) [
        | inl b ↦
            let here : take n u ≡ s c =
            ap₂ (λ (k : ℕ) (v : List ℕ). take k v) (count n refl) e ∙ front_is (s channel) (drop (length (s channel)) x) ∙ ap s (sym (eqb-true c channel b)) in
            simp b (ap (λ (v : List ℕ). v ++ []) here)
        | inr b ↦ simp b (sym (append-nil (s c)))
      ]

  module _ {S : Type 0} where
    pub pour_course : (channel : ℕ) (a b : Stage S K.Position) (x u : List ℕ) (r : Result ℕ Fault) → Poured K channel a x r b u
        → Course a b (λ c. brought {S = S} c (Pour channel) (PouredAnswer r) u)
    pour_course channel a b x u r h =
        let count : (n : ℕ) → r ≡ Ok n → n ≡ length (a.sink.stocks channel) = λ n e. sym (((exact K).poured a.sink.stocks channel (length x) n).0 (sym h.answer ∙ e)).2 in
        record {
          items = [];
          hands = ap (λ (z : Stage S K.Position). z.handed) h.after ∙ sym (append-nil a.handed);
          moved = ap (λ (z : Stage S K.Position). z.sink.position) h.after;
          expects = tt;
          channels = λ c.
              ap (λ (z : Stage S K.Position). brought {S = S} c (Pour channel) (PouredAnswer r) u ++ z.sink.stocks c) h.after
              ∙ pour_keeps S c channel a.sink.stocks x u r count h.written;
        }

    module _ (L : Meaning S) (p : Pattern) where
      feed_course : (piece : List S) (a b : Stage S K.Position) (r : Result ℕ Fault) → Fed L p K piece a r b → Course a b (λ c. [])
      feed_course piece a b r h =
          elim (open_or_failed a.fault) [
            | inl e ↦ let o = h.opened e in taken_course a b o.items o.hands o.takes o.stood
            | inr e ↦ still_course a b (h.failed e.0 e.1)
          ]

      pub through_course : (a : Stage S K.Position) (x : List ℕ) (calls : List (Call S)) (answers : List Answer) (z : Stage S K.Position) (y : List ℕ)
          (h : Through L p K a x calls answers z y) → Course a z (λ c. drawn L p K c a x calls answers z y h)
      through_course a x [] [] z y h = still_course a z h.0
      through_course a x [] (r ∷ rs) z y h = absurd h
      through_course a x (k ∷ ks) [] z y h = absurd h
      through_course a x (Feed piece ∷ ks) (FedAnswer r ∷ rs) z y (b, u, d, s, h) =
          course_then a b z (λ c. []) (λ c. drawn L p K c b u ks rs z y h) (feed_course piece.now a b r d.0) (through_course b u ks rs z y h)
      through_course a x (Feed piece ∷ ks) (PouredAnswer r ∷ rs) z y (b, u, d, s, h) = absurd d
      through_course a x (Pour channel ∷ ks) (FedAnswer r ∷ rs) z y (b, u, d, s, h) = absurd d
      through_course a x (Pour channel ∷ ks) (PouredAnswer r ∷ rs) z y (b, u, d, s, h) =
          course_then a b z (λ c. brought {S = S} c (Pour channel) (PouredAnswer r) u) (λ c. drawn L p K c b u ks rs z y h)
          (pour_course channel a b x u r d) (through_course b u ks rs z y h)
