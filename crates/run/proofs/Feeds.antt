-- Feeds put together.
use Rattle.std.proofs.Common.{◌≡◌, ℕ, suc, ◌+◌, ◌-◌, ◌<◌, true, cond, List, [], ◌∷◌, ◌++◌, map, length, get_or, take, drop, is_ok, Some, None, Ok, Err, Option, Result, sym, refl, ap, ◌∙◌, subst, ap₂, inl, inr, append_assoc, append-nil, add-one, take-suc}
use mathlib.Core.List.{map-append}
use lib.Seq.{split_at}
use Rattle.fault.specs.declared.refusal.Fault.{Fault}
use Rattle.alphabet.specs.Meaning.{Meaning}
use Rattle.pattern.specs.declared.pattern.Pattern.{Pattern}
use Rattle.sink.specs.Meaning.{Meaning as SinkMeaning, Stocks, take_answer, grown}
use Rattle.sink.specs.Handing.{moved_by, grown_by, hand_answer, all_taken}
use Rattle.sink.proofs.Handings.{moved_by_append, grown_by_append}
use Rattle.walk.specs.Codes.{Code}
use Rattle.reader.specs.Seen.{see, every}
use Rattle.run.specs.Sinks.{Standing, after_items, Takes}
use Rattle.run.specs.Stages.{Stage, AllReadable, FedEnded, told}
use Rattle.run.specs.Inner.{Inner, FeedsOpen, Feeds}

module _ (K : SinkMeaning) where
  pub after_append : (t : Standing K.Position) (xs ys : Code) → after_items K t (xs ++ ys) ≡ after_items K (after_items K t xs) ys
  after_append t xs ys =
      ap₂ (λ (a : K.Position) (b : Stocks). record { position = a; stocks = b }) (moved_by_append K t.position xs ys) (grown_by_append K t.position t.stocks xs ys)

  one_more : (b r r' : Result (Unit {0}) Fault) → is_ok (cond (is_ok b) r b) ≡ true → (is_ok r ≡ true → is_ok r' ≡ true) → is_ok (cond (is_ok b) r' b) ≡ true
  one_more (Ok u) r r' h f = f h
  one_more (Err g) r r' h f = h

  takes_at : (p : K.Position) (s : Stocks) (xs ys : Code) → all_taken K p s xs ≡ true → all_taken K (moved_by K p xs) (grown_by K p s xs) ys ≡ true → all_taken K p s (xs ++ ys) ≡ true
  takes_at p s [] ys h k = k
  takes_at p s (x ∷ xs) ys h k =
      one_more (take_answer K p s x) (hand_answer K (K.next p x) (grown K p s x) xs) (hand_answer K (K.next p x) (grown K p s x) (xs ++ ys)) h (λ g. takes_at (K.next p x) (grown K p s x) xs ys g k)

  pub takes_append : (t : Standing K.Position) (xs ys : Code) → Takes K t xs → Takes K (after_items K t xs) ys → Takes K t (xs ++ ys)
  takes_append t xs ys h k = takes_at t.position t.stocks xs ys h k

module _ {S : Type 0} (L : Meaning S) (p : Pattern) where
  each_append : (w xs ys : List S) → AllReadable L p w xs → AllReadable L p (w ++ xs) ys → AllReadable L p w (xs ++ ys)
  each_append w [] ys h k = subst (λ (v : List S). AllReadable L p v ys) (append-nil w) k
  each_append w (x ∷ xs) ys h k =
      (h.0, each_append (w ++ (x ∷ [])) xs ys h.1 (subst (λ (v : List S). AllReadable L p v ys) (sym (append_assoc w (x ∷ []) xs)) k))

  module _ (K : SinkMeaning) where
    ended_none : (left : List S) (b : Stage S K.Position) (o : Option Fault) → o ≡ None → left ≡ [] → FedEnded L p K left b o
    ended_none left b None e h = h
    ended_none left b (Some f) e h = cc

    none_ended : (left : List S) (b : Stage S K.Position) (o : Option Fault) → o ≡ None → FedEnded L p K left b o → left ≡ []
    none_ended left b None e h = h
    none_ended left b (Some f) e h = cc

    some_longer : (left v : List S) (b : Stage S K.Position) (o : Option Fault) (f : Fault) → o ≡ Some f → FedEnded L p K left b o → FedEnded L p K (left ++ v) b o
    some_longer left v b None f e h = cc
    some_longer left v b (Some g) f e (inl h) =
        inl (record { symbol = h.symbol; rest = h.rest ++ v; first = ap (λ (l : List S). l ++ v) h.first; settled = h.settled; due = h.due; there = h.there })
    some_longer left v b (Some g) f e (inr h) = inr h

    pub feeds_none : (c : Inner) (s : Standing K.Position) → FeedsOpen L p K [] c s c s
    feeds_none c s a st e n = (
      a,
      (
        record {
          part = [];
          left = [];
          parts = refl;
          reads = sym (append-nil a.read);
          each = tt;
          items = [];
          hands = sym (append-nil a.handed);
          takes = refl;
          stood = refl;
          ended = ended_none [] a a.fault n refl;
        },
        (st, e),
      ),
    )

    feeds_more : (u v : List S) (c d e : Inner) (s t w : Standing K.Position)
        → FeedsOpen L p K u c s d t → d.fault ≡ None → FeedsOpen L p K v d t e w → FeedsOpen L p K (u ++ v) c s e w
    feeds_more u v c d e s t w h dn k a st es n =
        let (b, (f, (sb, eb))) = h a st es n in
        let bn = sym sb.fault_is ∙ dn in
        let (z, (g, (sz, ez))) = k b sb eb bn in
        let le = none_ended f.left b b.fault bn f.ended in (
          z,
          (
            record {
              part = f.part ++ g.part;
              left = g.left;
              parts =
                  ap (λ (l : List S). l ++ v) (f.parts ∙ ap (λ (l : List S). f.part ++ l) le ∙ append-nil f.part)
                  ∙ ap (λ (l : List S). f.part ++ l) g.parts ∙ sym (append_assoc f.part g.part g.left);
              reads = g.reads ∙ ap (λ (l : List S). l ++ g.part) f.reads ∙ append_assoc a.read f.part g.part;
              each = each_append a.read f.part g.part f.each (subst (λ (l : List S). AllReadable L p l g.part) f.reads g.each);
              items = f.items ++ g.items;
              hands = g.hands ∙ ap (λ (l : Code). l ++ g.items) f.hands ∙ append_assoc a.handed f.items g.items;
              takes = takes_append K a.sink f.items g.items f.takes (subst (λ (q : Standing K.Position). Takes K q g.items) f.stood g.takes);
              stood = g.stood ∙ ap (λ (q : Standing K.Position). after_items K q g.items) f.stood ∙ sym (after_append K a.sink f.items g.items);
              ended = g.ended;
            },
            (sz, ez),
          ),
        )

    feeds_longer : (u v : List S) (c d : Inner) (s t : Standing K.Position) (f : Fault)
        → FeedsOpen L p K u c s d t → d.fault ≡ Some f → FeedsOpen L p K (u ++ v) c s d t
    feeds_longer u v c d s t f h df a st es n =
        let (b, (g, (sb, eb))) = h a st es n in (
          b,
          (
            record {
              part = g.part;
              left = g.left ++ v;
              parts = ap (λ (l : List S). l ++ v) g.parts ∙ append_assoc g.part g.left v;
              reads = g.reads;
              each = g.each;
              items = g.items;
              hands = g.hands;
              takes = g.takes;
              stood = g.stood;
              ended = some_longer g.left v b b.fault f (sym sb.fault_is ∙ df) g.ended;
            },
            (sb, eb),
          ),
        )

    -- the whole piece
    pub feeds_whole : (piece : List S) (c d : Inner) (s t : Standing K.Position) (r : Result ℕ Fault)
        → FeedsOpen L p K piece c s d t → c.fault ≡ None → r ≡ told d.fault (d.handed - c.handed) → Feeds L p K piece c s r d t
    feeds_whole piece c d s t r h cn re a st es =
        let an = sym st.fault_is ∙ cn in
        let (b, (g, (sb, eb))) = h a st es an in (
          b,
          (
            record {
              failed = λ f e. cc;
              opened = λ _. g;
              answer = rw (← sb.fault_is, ← sb.total, ← st.total) re;
            },
            (sb, eb),
          ),
        )

    pub feeds_failed : (piece : List S) (c : Inner) (s : Standing K.Position) (f : Fault) → c.fault ≡ Some f → Feeds L p K piece c s (Err f) c s
    feeds_failed piece c s f cf a st es = (
      a,
      (
        record {
          failed = λ _ _. refl;
          opened = λ n. cc;
          answer = rw (← st.fault_is, cf);
        },
        (st, es),
      ),
    )

    -- one turn of the loop over a piece
    pub turn : (u u' : List S) (x : S) (c d e : Inner) (s t w : Standing K.Position) → u' ≡ u ++ (x ∷ [])
        → FeedsOpen L p K u c s d t → d.fault ≡ None → FeedsOpen L p K (x ∷ []) d t e w → FeedsOpen L p K u' c s e w
    turn u u' x c d e s t w ue h dn k = subst (λ (l : List S). FeedsOpen L p K l c s e w) (sym ue) (feeds_more u (x ∷ []) c d e s t w h dn k)

    -- a turn that stops it
    pub stopped : (piece u v : List S) (x : S) (c d e : Inner) (s t w : Standing K.Position) (f : Fault) → piece ≡ u ++ (x ∷ v)
        → FeedsOpen L p K u c s d t → d.fault ≡ None → FeedsOpen L p K (x ∷ []) d t e w → e.fault ≡ Some f → FeedsOpen L p K piece c s e w
    stopped piece u v x c d e s t w f pe h dn k ef =
        subst (λ (l : List S). FeedsOpen L p K l c s e w) (append_assoc u (x ∷ []) v ∙ sym pe)
        (feeds_longer (u ++ (x ∷ [])) v c e s w f (feeds_more u (x ∷ []) c d e s t w h dn k) ef)

    pub whole : (u v : List S) (c d : Inner) (s t : Standing K.Position) → u ≡ v → FeedsOpen L p K u c s d t → FeedsOpen L p K v c s d t
    whole u v c d s t e h = subst (λ (l : List S). FeedsOpen L p K l c s d t) e h

-- the same at another pattern and meaning that are the same
pub feeds_as : {S : Type 0} {L N : Meaning S} {p q : Pattern} (K : SinkMeaning) (w : List S) (c d : Inner) (s t : Standing K.Position) → L ≡ N → p ≡ q
    → FeedsOpen L p K w c s d t → FeedsOpen N q K w c s d t
feeds_as {S = S} {L = L} {N = N} {p = p} {q = q} K w c d s t le pe h =
    subst (λ (m : Meaning S). FeedsOpen m q K w c s d t) le (subst (λ (x : Pattern). FeedsOpen L x K w c s d t) pe h)

pub feeds_seen : {S : Type 0} {L N : Meaning S} {p q : Pattern} (K : SinkMeaning) (x : S) (c d : Inner) (s t : Standing K.Position) → L ≡ N → p ≡ q
    → FeedsOpen every p K (see L x ∷ []) c s d t → FeedsOpen every q K (see N x ∷ []) c s d t
feeds_seen {S = S} {L = L} {N = N} {p = p} {q = q} K x c d s t le pe h =
    subst (λ (m : Meaning S). FeedsOpen every q K (see m x ∷ []) c s d t) le (subst (λ (y : Pattern). FeedsOpen every y K (see L x ∷ []) c s d t) pe h)

-- the part of a piece up to a symbol, and the rest
module _ {S : Type 0} (piece : List S) (i : ℕ) (x : S) (here : i < length piece) (is : x ≡ get_or piece i x) where
  pub front_more : take (i + 1) piece ≡ take i piece ++ (x ∷ [])
  front_more = rw add-one (take-suc piece i x here ∙ ap (λ (y : S). take i piece ++ (y ∷ [])) (sym is))

  pub cut_at : piece ≡ take i piece ++ (x ∷ drop (suc i) piece)
  cut_at = split_at piece i x here ∙ ap (λ (y : S). take i piece ++ (y ∷ drop (suc i) piece)) (sym is)

  module _ {T : Type 0} (f : S → T) where
    pub front_mapped : map f (take (i + 1) piece) ≡ map f (take i piece) ++ (f x ∷ [])
    front_mapped = ap (map f) front_more ∙ map-append f (take i piece) (x ∷ [])

    pub cut_mapped : map f piece ≡ map f (take i piece) ++ (f x ∷ map f (drop (suc i) piece))
    cut_mapped = ap (map f) cut_at ∙ map-append f (take i piece) (x ∷ drop (suc i) piece)

-- what an answer says of the fault
pub told_back : {V : Type 0} (o : Option Fault) (f : Fault) (v : V) → ◌≡◌ {A = Result V Fault} (Err f) (told o v) → o ≡ Some f
told_back None f v e = cc
told_back (Some g) f v e = cc

pub told_none : {V : Type 0} (o : Option Fault) (w v : V) → ◌≡◌ {A = Result V Fault} (Ok w) (told o v) → o ≡ None
told_none None w v e = refl
told_none (Some g) w v e = cc

pub told_since : {V : Type 0} (o : Option Fault) (w v : V) → o ≡ None → w ≡ v → ◌≡◌ {A = Result V Fault} (Ok w) (told o v)
told_since o w v e f = rw (e, f)
