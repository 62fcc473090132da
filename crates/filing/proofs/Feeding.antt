-- The symbols that calls feed, and those that are read.
use Rattle.std.proofs.Common.{◌≡◌, ℕ, List, [], ◌∷◌, ◌++◌, Some, None, Option, Result, sym, refl, ap, ◌∙◌, inl, inr, append_assoc, append-nil}
use Rattle.fault.specs.declared.refusal.Fault.{Fault}
use Rattle.alphabet.specs.Meaning.{Meaning}
use Rattle.pattern.specs.declared.pattern.Pattern.{Pattern}
use Rattle.sink.specs.Meaning.{Meaning as SinkMeaning}
use Rattle.run.specs.declared.calls.Call.{Call}
use Rattle.run.specs.declared.calls.Call.TheVariants.{Feed, Pour}
use Rattle.run.specs.declared.calls.Answer.{Answer}
use Rattle.run.specs.declared.calls.Answer.TheVariants.{Fed as FedAnswer, Poured as PouredAnswer}
use Rattle.run.specs.Stages.{Stage, Fed, FedEnded, FedOpen}
use Rattle.run.specs.Performed.{Poured, Through}
use Rattle.filing.specs.Channels.{fed}
use Rattle.filing.proofs.Courses.{open_or_failed}

module _ {S : Type 0} (L : Meaning S) (p : Pattern) (K : SinkMeaning) where
  -- From the stage a to the stage z the symbols w were fed: a beginning of them was read, and a rest was not. A run that is open at z was open at a and has
  -- read all of them; one that had failed at a has read none.
  pub record Feeding (a z : Stage S K.Position) (w : List S) : Type 0 where
    pub rest : List S
    pub read : a.read ++ w ≡ z.read ++ rest
    pub opened : z.fault ≡ None → (a.fault ≡ None) × (rest ≡ [])
    pub failed : (f : Fault) → a.fault ≡ Some f → z.read ≡ a.read

  -- nothing is fed
  still_feeding : (a z : Stage S K.Position) → z.read ≡ a.read → z.fault ≡ a.fault → Feeding a z []
  still_feeding a z r e = record { rest = []; read = ap (λ (v : List S). v ++ []) (sym r); opened = λ o. (sym e ∙ o, refl); failed = λ f i. r }

  nothing_left : (left : List S) (b : Stage S K.Position) (o : Option Fault) → o ≡ None → FedEnded L p K left b o → left ≡ []
  nothing_left left b None e h = h
  nothing_left left b (Some f) e h = cc

  feed_open : (piece : List S) (a b : Stage S K.Position) → a.fault ≡ None → FedOpen L p K piece a b → Feeding a b piece
  feed_open piece a b e o =
      record {
        rest = o.left;
        read = ap (λ (v : List S). a.read ++ v) o.parts ∙ sym (append_assoc a.read o.part o.left) ∙ ap (λ (v : List S). v ++ o.left) (sym o.reads);
        opened = λ i. (e, nothing_left o.left b b.fault i o.ended);
        failed = λ f i. cc;
      }

  feed_failed : (piece : List S) (a b : Stage S K.Position) (f : Fault) → a.fault ≡ Some f → b ≡ a → Feeding a b piece
  feed_failed piece a b f e i =
      let r = ap (λ (c : Stage S K.Position). c.read) i in
      record {
        rest = piece;
        read = ap (λ (v : List S). v ++ piece) (sym r);
        opened = λ o. cc;
        failed = λ g k. r;
      }

  feed_feeding : (piece : List S) (a b : Stage S K.Position) (r : Result ℕ Fault) → Fed L p K piece a r b → Feeding a b piece
  feed_feeding piece a b r h =
      elim (open_or_failed a.fault) [
        | inl e ↦ feed_open piece a b e (h.opened e)
        | inr e ↦ feed_failed piece a b e.0 e.1 (h.failed e.0 e.1)
      ]

  pour_feeding : (channel : ℕ) (a b : Stage S K.Position) (x u : List ℕ) (r : Result ℕ Fault) → Poured K channel a x r b u → Feeding a b []
  pour_feeding channel a b x u r h =
      still_feeding a b (ap (λ (c : Stage S K.Position). c.read) h.after) (ap (λ (c : Stage S K.Position). c.fault) h.after)

  -- one feeding after another: where the first ends open it has left nothing, and where it has failed the second reads nothing
  after_open : (a b z : Stage S K.Position) (v w : List S) (f : Feeding a b v) (g : Feeding b z w) → b.fault ≡ None → Feeding a z (v ++ w)
  after_open a b z v w f g e =
      let o = f.opened e in
      let here : a.read ++ v ≡ b.read = f.read ∙ ap (λ (u : List S). b.read ++ u) o.1 ∙ append-nil b.read in
      record {
        rest = g.rest;
        read = sym (append_assoc a.read v w) ∙ ap (λ (u : List S). u ++ w) here ∙ g.read;
        opened = λ i. (o.0, (g.opened i).1);
        failed = λ h i. cc (o.0);
      }

  after_failed : (a b z : Stage S K.Position) (v w : List S) (f : Feeding a b v) (g : Feeding b z w) (h : Fault) → b.fault ≡ Some h → Feeding a z (v ++ w)
  after_failed a b z v w f g h e =
      let stays = g.failed h e in
      record {
        rest = f.rest ++ w;
        read =
            sym (append_assoc a.read v w)
            ∙ ap (λ (u : List S). u ++ w) (f.read ∙ ap (λ (u : List S). u ++ f.rest) (sym stays))
            ∙ append_assoc z.read f.rest w;
        opened = λ i. cc ((g.opened i).0);
        failed = λ k i. stays ∙ f.failed k i;
      }

  feeding_then : (a b z : Stage S K.Position) (v w : List S) → Feeding a b v → Feeding b z w → Feeding a z (v ++ w)
  feeding_then a b z v w f g =
      elim (open_or_failed b.fault) [ inl e ↦ after_open a b z v w f g e | inr e ↦ after_failed a b z v w f g e.0 e.1 ]

  pub through_feeding : (a : Stage S K.Position) (x : List ℕ) (calls : List (Call S)) (answers : List Answer) (z : Stage S K.Position) (y : List ℕ)
      → Through L p K a x calls answers z y → Feeding a z (fed calls)
  through_feeding a x [] [] z y h = still_feeding a z (ap (λ (c : Stage S K.Position). c.read) h.0) (ap (λ (c : Stage S K.Position). c.fault) h.0)
  through_feeding a x [] (r ∷ rs) z y h = absurd h
  through_feeding a x (k ∷ ks) [] z y h = absurd h
  through_feeding a x (Feed piece ∷ ks) (FedAnswer r ∷ rs) z y (b, u, d, s, h) =
      feeding_then a b z piece.now (fed ks) (feed_feeding piece.now a b r d.0) (through_feeding b u ks rs z y h)
  through_feeding a x (Feed piece ∷ ks) (PouredAnswer r ∷ rs) z y (b, u, d, s, h) = absurd d
  through_feeding a x (Pour channel ∷ ks) (FedAnswer r ∷ rs) z y (b, u, d, s, h) = absurd d
  through_feeding a x (Pour channel ∷ ks) (PouredAnswer r ∷ rs) z y (b, u, d, s, h) =
      feeding_then a b z [] (fed ks) (pour_feeding channel a b x u r d) (through_feeding b u ks rs z y h)
