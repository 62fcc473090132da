-- Calls put together.
use Rattle.std.proofs.Common.{◌≡◌, ℕ, suc, ◌+◌, ◌<◌, Bool, true, false, cond, List, [], ◌∷◌, ◌++◌, length, get_or, take, set, is_ok, Some, None, Option, Result, sym, refl, ap, ◌∙◌, subst, ap₂, add-zero, zero-add, add-one, arith, length-take-le, take-suc, Bor}
use lib.Seq.{sets}
use Rattle.fault.specs.declared.refusal.Fault.{Fault}
use Rattle.alphabet.specs.Meaning.{Meaning}
use Rattle.pattern.specs.declared.pattern.Pattern.{Pattern}
use Rattle.sink.specs.Meaning.{Meaning as SinkMeaning, Stocks, pour_answer, emptied, fronted}
use Rattle.run.specs.declared.calls.Call.{Call}
use Rattle.run.specs.declared.calls.Call.TheVariants.{Feed, Pour}
use Rattle.run.specs.declared.calls.Answer.{Answer}
use Rattle.run.specs.declared.calls.Answer.TheVariants.{Fed as FedAnswer, Poured as PouredAnswer}
use Rattle.run.specs.declared.finished.Finished.{Finished}
use Rattle.run.specs.Sinks.{Standing}
use Rattle.run.specs.Giving.{stand}
use Rattle.run.specs.Stages.{Stage, Stands}
use Rattle.run.specs.Performed.{with_sink, after_pour, Done, Through, Ends, Reads}
use Rattle.run.specs.Inner.{Inner, StateOf, Feeds, Opens, Closes}
use Rattle.run.specs.Calls.{Makes, MakesAll}
use Rattle.run.proofs.Kept.{state_with}

module _ {S : Type 0} (L : Meaning S) (p : Pattern) (K : SinkMeaning) where
  pub feed_makes : (call : Call S) (piece : Bor (List S)) (x : List ℕ) (c d : Inner) (s t : Standing K.Position) (r : Result ℕ Fault)
      → call ≡ Feed piece → Feeds L p K piece.now c s r d t → Makes L p K call x c s (FedAnswer r) d t x
  feed_makes call piece x c d s t r e h a st es =
      let (b, (f, q)) = h a st es in
      (b, (subst (λ (k : Call S). Done L p K k a x (FedAnswer r) b x) (sym e) (f, refl), q))

  pub pour_makes : (call : Call S) (channel : ℕ) (x y : List ℕ) (c : Inner) (o o' : K.Position) (k k' : Stocks) (r : Result ℕ Fault)
      → call ≡ Pour channel → r ≡ pour_answer K k channel (length x) → o' ≡ o → k' ≡ cond (is_ok r) (emptied k channel) k → y ≡ cond (is_ok r) (fronted (k channel) x) x
      → Makes L p K call x c (stand o k) (PouredAnswer r) c (stand o' k') y
  pour_makes call channel x y c o o' k k' r e re oe ke ye a st es =
      let b : Stage S K.Position = with_sink a (after_pour a.sink channel r) in
      let pe : a.sink.position ≡ o = ap (λ (t : Standing K.Position). t.position) es in
      let se : a.sink.stocks ≡ k = ap (λ (t : Standing K.Position). t.stocks) es in (
        b,
        (
          subst (λ (v : Call S). Done L p K v a x (PouredAnswer r) b y) (sym e)
              (record {
                answer = re ∙ ap (λ (m : Stocks). pour_answer K m channel (length x)) (sym se);
                after = refl;
                written = ye ∙ ap (λ (m : Stocks). cond (is_ok r) (fronted (m channel) x) x) (sym se);
              }),
          (
            state_with L p c a (after_pour a.sink channel r) st,
            ap₂ (λ (u : K.Position) (v : Stocks). stand u v) (pe ∙ sym oe) (ap (λ (m : Stocks). cond (is_ok r) (emptied m channel) m) se ∙ sym ke),
          ),
        ),
      )

  through_more : (a b z : Stage S K.Position) (x u y : List ℕ) (cs : List (Call S)) (rs : List Answer) (c : Call S) (r : Answer)
      → Through L p K a x cs rs b u → Done L p K c b u r z y → Stands L p z → Through L p K a x (cs ++ (c ∷ [])) (rs ++ (r ∷ [])) z y
  through_more a b z x u y [] [] c r (e, f) d st =
      let d' : Done L p K c b x r z y = subst (λ (v : List ℕ). Done L p K c b v r z y) f d in
      (z, y, subst (λ (v : Stage S K.Position). Done L p K c v x r z y) e d', st, (refl, refl))
  through_more a b z x u y [] (r₁ ∷ rs) c r h d st = absurd h
  through_more a b z x u y (c₁ ∷ cs) [] c r h d st = absurd h
  through_more a b z x u y (c₁ ∷ cs) (r₁ ∷ rs) c r (b₁, u₁, d₁, s₁, h) d st =
      (b₁, u₁, d₁, s₁, through_more b₁ b z u₁ u y cs rs c r h d st)

  through_length : (a z : Stage S K.Position) (x y : List ℕ) (cs : List (Call S)) (rs : List Answer) → Through L p K a x cs rs z y → length rs ≡ length cs
  through_length a z x y [] [] h = refl
  through_length a z x y [] (r ∷ rs) h = absurd h
  through_length a z x y (c ∷ cs) [] h = absurd h
  through_length a z x y (c ∷ cs) (r ∷ rs) (b, u, d, s, h) = ap suc (through_length b z u y cs rs h)

  pub makes_none : (log : List Answer) (x : List ℕ) (c : Inner) (s : Standing K.Position) → MakesAll L p K [] log x c s c s log x
  makes_none log x c s a st es = ([], (refl, (a, ((refl, refl), (st, es)))))

sets_more : {A : Type 0} (l : List A) (i : ℕ) (rs : List A) (r : A) → sets l i (rs ++ (r ∷ [])) ≡ set (sets l i rs) (i + length rs) r
sets_more l i [] r = ap (λ n. set l n r) (sym (add-zero i))
sets_more l i (v ∷ vs) r = sets_more (set l i v) (suc i) vs r ∙ ap (λ n. set (sets (set l i v) (suc i) vs) n r) (omega arith)

module _ {S : Type 0} (L : Meaning S) (p : Pattern) (K : SinkMeaning) where
  makes_more : (calls : List (Call S)) (i : ℕ) (call : Call S) (log log₁ log₂ : List Answer) (x u y : List ℕ) (c d e : Inner) (s t w : Standing K.Position) (r : Answer)
      → call ≡ get_or calls i call → i < length calls
      → MakesAll L p K (take i calls) log x c s d t log₁ u → Makes L p K call u d t r e w y → log₂ ≡ set log₁ i r
      → MakesAll L p K (take (i + 1) calls) log x c s e w log₂ y
  makes_more calls i call log log₁ log₂ x u y c d e s t w r ce lt h k le a st es =
      let (rs, (lg, (b, (th, (sb, eb))))) = h a st es in
      let (z, (dn, (sz, ez))) = k b sb eb in
      let te : take (i + 1) calls ≡ take i calls ++ (call ∷ []) = rw add-one (take-suc calls i call lt ∙ ap (λ v. take i calls ++ (v ∷ [])) (sym ce)) in
      let ln : length rs ≡ i = through_length L p K a b x u (take i calls) rs th ∙ length-take-le i calls (omega arith) in (
        rs ++ (r ∷ []),
        (
          le ∙ ap (λ l. set l i r) lg ∙ ap (λ n. set (sets log 0 rs) n r) (sym ln ∙ sym (zero-add (length rs))) ∙ sym (sets_more log 0 rs r),
          (z, (subst (λ (l : List (Call S)). Through L p K a x l (rs ++ (r ∷ [])) z y) (sym te) (through_more L p K a b z x u y (take i calls) rs call r th dn sz.stands), (sz, ez))),
        ),
      )

  pub makes_whole : (u v : List (Call S)) (log log₁ : List Answer) (x y : List ℕ) (c d : Inner) (s t : Standing K.Position)
      → u ≡ v → MakesAll L p K u log x c s d t log₁ y → MakesAll L p K v log x c s d t log₁ y
  makes_whole u v log log₁ x y c d s t e h = subst (λ (l : List (Call S)). MakesAll L p K l log x c s d t log₁ y) e h

  -- the opening, the calls, and the end put together
  pub reads_all : (calls : List (Call S)) (log log₁ : List Answer) (x y : List ℕ) (c d : Inner) (s t w v : Standing K.Position)
      (n : ℕ) (finish : Bool) (last : Option (Result Finished Fault))
      → Opens L p K s n c t → MakesAll L p K calls log x c t d w log₁ y
      → ((a : Stage S K.Position) → StateOf L p d a → a.sink ≡ w → Ends L p K finish a last v)
      → Reads L p K s calls log x finish n last v log₁ y
  reads_all calls log log₁ x y c d s t w v n finish last (a, (o, (sa, ea))) h k =
      let (rs, (lg, (z, (th, (sz, ez))))) = h a sa ea in
      record { first = a; opened = o; stands = sa.stands; answers = rs; final = z; through = th; logged = lg; ends = k z sz ez }

  pub ends_closed : (d : Inner) (w v : Standing K.Position) (finish : Bool) (r : Result Finished Fault)
      → finish ≡ true → Closes L p K d w r v → (a : Stage S K.Position) → StateOf L p d a → a.sink ≡ w → Ends L p K finish a (Some r) v
  ends_closed d w v finish r fe h a st es = subst (λ (b : Bool). Ends L p K b a (Some r) v) (sym fe) (h a st es)

  pub ends_open : (d : Inner) (w : Standing K.Position) (finish : Bool)
      → finish ≡ false → (a : Stage S K.Position) → StateOf L p d a → a.sink ≡ w → Ends L p K finish a None w
  ends_open d w finish fe a st es = subst (λ (b : Bool). Ends L p K b a None w) (sym fe) (sym es)

-- the same at another pattern and meaning that are the same
module _ {S : Type 0} {L N : Meaning S} {p q : Pattern} (K : SinkMeaning) (le : L ≡ N) (pe : p ≡ q) where
  pub makes_as : (call : Call S) (x : List ℕ) (c : Inner) (s : Standing K.Position) (r : Answer) (d : Inner) (t : Standing K.Position) (y : List ℕ)
      → Makes L p K call x c s r d t y → Makes N q K call x c s r d t y
  makes_as call x c s r d t y h =
      subst (λ (m : Meaning S). Makes m q K call x c s r d t y) le (subst (λ (z : Pattern). Makes L z K call x c s r d t y) pe h)

  pub all_as : (calls : List (Call S)) (log : List Answer) (x : List ℕ) (c : Inner) (s : Standing K.Position) (d : Inner) (t : Standing K.Position) (log₁ : List Answer) (y : List ℕ)
      → MakesAll L p K calls log x c s d t log₁ y → MakesAll N q K calls log x c s d t log₁ y
  all_as calls log x c s d t log₁ y h =
      subst (λ (m : Meaning S). MakesAll m q K calls log x c s d t log₁ y) le (subst (λ (z : Pattern). MakesAll L z K calls log x c s d t log₁ y) pe h)

  pub closes_as : (c : Inner) (s : Standing K.Position) (r : Result Finished Fault) (t : Standing K.Position) → Closes L p K c s r t → Closes N q K c s r t
  closes_as c s r t h = subst (λ (m : Meaning S). Closes m q K c s r t) le (subst (λ (z : Pattern). Closes L z K c s r t) pe h)

  pub makes_next : (calls : List (Call S)) (i : ℕ) (call : Call S) (log log₁ log₂ : List Answer) (x u y : List ℕ) (c d e : Inner) (s t w : Standing K.Position) (r : Answer)
      → call ≡ get_or calls i call → i < length calls
      → MakesAll N q K (take i calls) log x c s d t log₁ u → Makes L p K call u d t r e w y → log₂ ≡ set log₁ i r
      → MakesAll N q K (take (i + 1) calls) log x c s e w log₂ y
  makes_next calls i call log log₁ log₂ x u y c d e s t w r ce lt h k le₂ =
      makes_more N q K calls i call log log₁ log₂ x u y c d e s t w r ce lt h (makes_as call u d t r e w y k) le₂
