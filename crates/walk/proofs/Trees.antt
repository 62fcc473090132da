-- Counting the beginnings of codes that stand in order.
use Rattle.std.proofs.Common.{◌≡◌, ℕ, suc, ◌-◌, ◌≤◌, Bool, true, false, eqb, ◌⊎◌, List, [], ◌∷◌, ◌++◌, length, drop, sym, refl, ap, ◌∙◌, subst, subst₂, inl, inr, arith, eqb→eq, length-append}
use Rattle.alphabet.specs.Meaning.{Meaning}
use Rattle.walk.specs.Codes.{Code, Earlier, Begins, common, common_cons}
use Rattle.pattern.specs.declared.step.Step.{Step}
use Rattle.walk.specs.Walks.{Live}
use Rattle.walk.specs.Search.{Reached, In, Ordered}
use Rattle.walk.specs.Tree.{Member, Once, tally, remainders, tree_count, Node, Counts}
use Rattle.walk.proofs.Lists.{Lists, lists_all}
use Rattle.walk.proofs.Order.{two_ways, never_both, earlier_cancel}
use Rattle.walk.proofs.Sharing.{begins_nil, begins_cons, begins_tail, not_begins, eqb-true}

-- each code after an item
abbrev under : ℕ → List Code → List Code
under x [] = []
under x (t ∷ ts) = (x ∷ t) ∷ under x ts

-- the non-empty beginnings of a code, and those that another code has not
abbrev fronts : Code → List Code
fronts [] = []
fronts (x ∷ c) = (x ∷ []) ∷ under x (fronts c)

abbrev news_by : Bool → ℕ → List Code → Code → List Code
news_by true x ts c = under x ts
news_by false x ts c = fronts c

abbrev news : Code → Code → List Code
news [] c = fronts c
news (y ∷ p) [] = []
news (y ∷ p) (x ∷ c) = news_by (eqb x y) x (news p c) (x ∷ c)

abbrev all_news : Code → List Code → List Code
all_news p [] = []
all_news p (c ∷ cs) = news p c ++ all_news c cs

-- lists of codes

member_left : (t : Code) (a b : List Code) → Member t a → Member t (a ++ b)
member_left t [] b m = absurd m
member_left t (c ∷ a) b (inl e) = inl e
member_left t (c ∷ a) b (inr m) = inr (member_left t a b m)

member_right : (t : Code) (a b : List Code) → Member t b → Member t (a ++ b)
member_right t [] b m = m
member_right t (c ∷ a) b m = inr (member_right t a b m)

member_either : (t : Code) (a b : List Code) → Member t (a ++ b) → Member t a ⊎ Member t b
member_either t [] b m = inr m
member_either t (c ∷ a) b (inl e) = inl (inl e)
member_either t (c ∷ a) b (inr m) = elim (member_either t a b m) [ inl i ↦ inl (inr i) | inr i ↦ inr i ]

member_under : (x : ℕ) (t : Code) (ts : List Code) → Member t ts → Member (x ∷ t) (under x ts)
member_under x t [] m = m
member_under x t (c ∷ ts) (inl e) = inl (ap {B = Code} (λ y. x ∷ y) e)
member_under x t (c ∷ ts) (inr m) = inr (member_under x t ts m)

under_member : (x : ℕ) (t : Code) (ts : List Code) → Member t (under x ts) → (u : Code) × (t ≡ x ∷ u) × Member u ts
under_member x t [] m = absurd m
under_member x t (c ∷ ts) (inl e) = (c, e, inl refl)
under_member x t (c ∷ ts) (inr m) = let h = under_member x t ts m in (h.0, h.1, inr h.2)

once_under : (x : ℕ) (ts : List Code) → Once ts → Once (under x ts)
once_under x [] o = o
once_under x (c ∷ ts) o = (
  λ m. let h = under_member x (x ∷ c) ts m in
      let e = h.1 in
      let f : h.0 ≡ c = cc in
      o.0 (rw f at h.2),
  once_under x ts o.1,
)

once_append : (a b : List Code) → Once a → Once b → ((t : Code) → Member t a → Member t b → ⊥) → Once (a ++ b)
once_append [] b o p f = p
once_append (c ∷ a) b o p f =
    (λ m. elim (member_either c a b m) [ inl i ↦ o.0 i | inr i ↦ f c (inl refl) i ], once_append a b o.1 p (λ t i j. f t (inr i) j))

length_under : (x : ℕ) (ts : List Code) → length (under x ts) ≡ length ts
length_under x [] = refl
length_under x (c ∷ ts) = ap suc (length_under x ts)

-- the fronts of a code

nothing_fronts : (c : Code) → Member [] (fronts c) → ⊥
nothing_fronts [] m = m
nothing_fronts (x ∷ c) (inl e) = let z : ◌≡◌ {A = ℕ} 0 1 = cc in omega arith
nothing_fronts (x ∷ c) (inr m) = let h = under_member x [] (fronts c) m in let e = h.1 in let z : ◌≡◌ {A = ℕ} 0 1 = cc in omega arith

fronts_begin : (t c : Code) → Member t (fronts c) → Begins c t
fronts_begin t [] m = absurd m
fronts_begin t (x ∷ c) (inl e) = rw e (begins_cons x c [] (begins_nil c))
fronts_begin t (x ∷ c) (inr m) =
    let h = under_member x t (fronts c) m in
    rw h.1 (begins_cons x c h.0 (fronts_begin h.0 c h.2))

fronts_all : (t c : Code) → (t ≡ [] → ⊥) → Begins c t → Member t (fronts c)
fronts_all [] c n b = absurd (n refl)
fronts_all (x ∷ t) [] n b = absurd (not_begins x t b)
fronts_all (x ∷ []) (y ∷ c) n b = let h = begins_tail y x c [] b in inl (ap (λ z. z ∷ []) (sym h.0))
fronts_all (x ∷ (z ∷ t)) (y ∷ c) n b =
    let h = begins_tail y x c (z ∷ t) b in
    inr (subst (λ v. Member (v ∷ (z ∷ t)) (under y (fronts c))) h.0 (member_under y (z ∷ t) (fronts c) (fronts_all (z ∷ t) c (λ e. let i : ◌≡◌ {A = ℕ} 0 1 = cc in omega arith) h.1)))

fronts_once : (c : Code) → Once (fronts c)
fronts_once [] = tt
fronts_once (x ∷ c) = (
  λ m. let h = under_member x (x ∷ []) (fronts c) m in
      let e = h.1 in
      let f : h.0 ≡ [] = cc in
      nothing_fronts c (rw f at h.2),
  once_under x (fronts c) (fronts_once c),
)

length_fronts : (c : Code) → length (fronts c) ≡ length c
length_fronts [] = refl
length_fronts (x ∷ c) = ap suc (length_under x (fronts c) ∙ length_fronts c)

-- what is new in c after p

record New (p c t : Code) : Type 0 where
  some : t ≡ [] → ⊥
  begins : Begins c t
  fresh : Begins p t → ⊥

cons_some : (x : ℕ) (t : Code) → x ∷ t ≡ [] → ⊥
cons_some x t e = let z : ◌≡◌ {A = ℕ} 0 1 = cc in omega arith

begins_some : (t : Code) → (t ≡ [] → ⊥) → Begins [] t → ⊥
begins_some [] n b = n refl
begins_some (x ∷ t) n b = not_begins x t b

fronts_some : (t c : Code) → Member t (fronts c) → t ≡ [] → ⊥
fronts_some t c m e = nothing_fronts c (rw e at m)

heads_meet : (x y : ℕ) (c p t : Code) → (t ≡ [] → ⊥) → Begins (x ∷ c) t → Begins (y ∷ p) t → x ≡ y
heads_meet x y c p [] n a b = absurd (n refl)
heads_meet x y c p (z ∷ t) n a b = (begins_tail x z c t a).0 ∙ sym (begins_tail y z p t b).0

news_new : (p c t : Code) → Member t (news p c) → New p c t
news_new [] c t m = record { some = fronts_some t c m; begins = fronts_begin t c m; fresh = begins_some t (fronts_some t c m) }
news_new (y ∷ p) [] t m = absurd m
news_new (y ∷ p) (x ∷ c) t m = go (eqb x y) refl m (λ u i. news_new p c u i)
  where
    go : (b : Bool) → eqb x y ≡ b → Member t (news_by b x (news p c) (x ∷ c)) → ((u : Code) → Member u (news p c) → New p c u) → New (y ∷ p) (x ∷ c) t
    go true e m ih =
        let h = under_member x t (news p c) m in
        let n = ih h.0 h.2 in
        rw h.1 (record { some = cons_some x h.0; begins = begins_cons x c h.0 n.begins; fresh = λ b. n.fresh (begins_tail y x p h.0 b).1 })
    go false e m ih =
        record {
          some = fronts_some t (x ∷ c) m;
          begins = fronts_begin t (x ∷ c) m;
          fresh = λ b. never_both (eqb-true x y (heads_meet x y c p t (fronts_some t (x ∷ c) m) (fronts_begin t (x ∷ c) m) b)) e;
        }

new_news : (p c t : Code) → New p c t → Member t (news p c)
new_news [] c t n = fronts_all t c n.some n.begins
new_news (y ∷ p) [] t n = absurd (begins_some t n.some n.begins)
new_news (y ∷ p) (x ∷ c) [] n = absurd (n.some refl)
new_news (y ∷ p) (x ∷ c) (z ∷ t) n = go (eqb x y) refl (λ u i. new_news p c u i)
  where
    go : (b : Bool) → eqb x y ≡ b → ((u : Code) → New p c u → Member u (news p c)) → Member (z ∷ t) (news_by b x (news p c) (x ∷ c))
    go true e ih =
        let f : x ≡ y = eqb→eq x y (rw e tt) in
        let h = begins_tail x z c t n.begins in
        let i = ih t (record {
          some = λ g. n.fresh (rw (g, ← h.0, f) (begins_cons y p [] (begins_nil p)));
          begins = h.1;
          fresh = λ b. n.fresh (rw (← h.0, f) (begins_cons y p t b));
        }) in
        rw (← h.0) (member_under x t (news p c) i)
    go false e ih = fronts_all (z ∷ t) (x ∷ c) n.some n.begins

news_once : (p c : Code) → Once (news p c)
news_once [] c = fronts_once c
news_once (y ∷ p) [] = tt
news_once (y ∷ p) (x ∷ c) = go (eqb x y) (news_once p c)
  where
    go : (b : Bool) → Once (news p c) → Once (news_by b x (news p c) (x ∷ c))
    go true o = once_under x (news p c) o
    go false o = fronts_once (x ∷ c)

eqb_sym : (x y : ℕ) → eqb x y ≡ eqb y x
eqb_sym x y =
    elim (two_ways (eqb x y)) [
      | inl e ↦ e ∙ sym (eqb-true y x (sym (eqb→eq x y (rw e tt))))
      | inr e ↦ elim (two_ways (eqb y x)) [ inl f ↦ absurd (never_both (eqb-true x y (sym (eqb→eq y x (rw f tt)))) e) | inr f ↦ e ∙ sym f ]
    ]

length_news : (p c : Code) → length (news p c) ≡ length c - length (common p c)
length_news [] c = length_fronts c ∙ (omega arith)
length_news (y ∷ p) [] = omega arith
length_news (y ∷ p) (x ∷ c) = go (eqb x y) (eqb y x) (eqb_sym x y) (length_news p c)
  where
    go : (b d : Bool) → b ≡ d → length (news p c) ≡ length c - length (common p c) → length (news_by b x (news p c) (x ∷ c)) ≡ suc (length c) - length (common_cons d y (common p c))
    go true true e h = length_under x (news p c) ∙ h ∙ (omega arith)
    go false false e h = length_fronts (x ∷ c) ∙ (omega arith)
    go true false e h = absurd (never_both refl e)
    go false true e h = absurd (never_both e refl)

-- a beginning that an earlier and a later code share, those between share too
between : (p c d t : Code) → Earlier p c → Earlier c d → Begins p t → Begins d t → Begins c t
between p c d [] f g a b = begins_nil c
between [] c d (z ∷ t) f g a b = absurd f
between (x ∷ p) [] d (z ∷ t) f g a b = absurd f
between (x ∷ p) (y ∷ c) [] (z ∷ t) f g a b = absurd g
between (x ∷ p) (y ∷ c) (v ∷ d) (z ∷ t) f g a b =
    let h = begins_tail x z p t a in
    let i = begins_tail v z d t b in
    elim f [
      | inl j ↦ elim g [ inl k ↦ absurd (omega (arith, j.1, k.0)) | inr k ↦ absurd (omega (arith, h.0, i.0, j.0, j.1, k.0)) ]
      | inr j ↦ elim g [
        | inl k ↦ absurd (omega (arith, h.0, i.0, j.0, k.0, k.1))
        | inr k ↦ rw (← j.0, h.0) (begins_cons z c t (between p c d t j.1 k.1 h.1 i.1))
      ]
    ]

-- each code is earlier than those behind it
abbrev pub Sorted : List Code → Type 0
Sorted [] = Unit {0}
Sorted (c ∷ cs) = ((d : Code) → Member d cs → Earlier c d) × Sorted cs

abbrev Before : Code → List Code → Type 0
Before p cs = (p ≡ []) ⊎ ((d : Code) → Member d cs → Earlier p d)

pub record SomeNew (p : Code) (cs : List Code) (t : Code) : Type 0 where
  pub some : t ≡ [] → ⊥
  pub code : Code
  pub among : Member code cs
  pub begins : Begins code t
  pub fresh : Begins p t → ⊥

all_news_new : (p : Code) (cs : List Code) (t : Code) → Before p cs → Sorted cs → Member t (all_news p cs) → SomeNew p cs t
all_news_new p [] t f s m = absurd m
all_news_new p (c ∷ cs) t f s m =
    elim (member_either t (news p c) (all_news c cs) m) [
      | inl i ↦ let n = news_new p c t i in record { some = n.some; code = c; among = inl refl; begins = n.begins; fresh = n.fresh }
      | inr i ↦
          let n = all_news_new c cs t (inr s.0) s.1 i in
          record {
            some = n.some;
            code = n.code;
            among = inr n.among;
            begins = n.begins;
            fresh = λ b. elim f [
              | inl e ↦ begins_some t n.some (rw e at b)
              | inr e ↦ n.fresh (between p c n.code t (e c (inl refl)) (s.0 n.code n.among) b n.begins)
            ];
          }
    ]

begins_dec : (c t : Code) → Begins c t ⊎ (Begins c t → ⊥)
begins_dec c [] = inl (begins_nil c)
begins_dec [] (z ∷ t) = inr (not_begins z t)
begins_dec (x ∷ c) (z ∷ t) =
    elim (two_ways (eqb x z)) [
      | inl e ↦ elim (begins_dec c t) [
        | inl h ↦ let f : x ≡ z = eqb→eq x z (rw e tt) in inl (rw f (begins_cons z c t h))
        | inr h ↦ inr (λ b. h (begins_tail x z c t b).1)
      ]
      | inr e ↦ inr (λ b. never_both (eqb-true x z (begins_tail x z c t b).0) e)
    ]

new_all_news : (p : Code) (cs : List Code) (t c : Code) → Member c cs → (t ≡ [] → ⊥) → Begins c t → (Begins p t → ⊥) → Member t (all_news p cs)
new_all_news p [] t c m n b f = absurd m
new_all_news p (d ∷ cs) t c m n b f =
    elim (begins_dec d t) [
      | inl h ↦ member_left t (news p d) (all_news d cs) (new_news p d t (record { some = n; begins = h; fresh = f }))
      | inr h ↦ elim m [
        | inl e ↦ absurd (h (rw e at b))
        | inr i ↦ member_right t (news p d) (all_news d cs) (new_all_news d cs t c i n b h)
      ]
    ]

all_news_once : (p : Code) (cs : List Code) → Sorted cs → Once (all_news p cs)
all_news_once p [] s = tt
all_news_once p (c ∷ cs) s =
    once_append (news p c) (all_news c cs) (news_once p c) (all_news_once c cs s.1)
    (λ t i j. (all_news_new c cs t (inr s.0) s.1 j).fresh (news_new p c t i).begins)

length_all_news : (p : Code) (cs : List Code) → length (all_news p cs) ≡ tally p cs
length_all_news p [] = refl
length_all_news p (c ∷ cs) = length-append (news p c) (all_news c cs) ∙ (rw (length_news p c, length_all_news c cs))

-- two lists with the same codes, none twice, are equally long

without : (t : Code) (us : List Code) → Member t us → (vs : List Code) × (length us ≡ suc (length vs)) × ((u : Code) → Member u us → (u ≡ t → ⊥) → Member u vs)
without t [] m = absurd m
without t (c ∷ us) (inl e) = (us, refl, λ u i n. elim i [ inl f ↦ absurd (n (f ∙ sym e)) | inr j ↦ j ])
without t (c ∷ us) (inr m) =
    let h = without t us m in
    (c ∷ h.0, ap suc h.1, λ u i n. elim i [ inl f ↦ inl f | inr j ↦ inr (h.2 u j n) ])

pub shorter : (ts us : List Code) → Once ts → ((t : Code) → Member t ts → Member t us) → length ts ≤ length us
shorter [] us o f = omega arith
shorter (t ∷ ts) us o f =
    let h = without t us (f t (inl refl)) in
    let i = shorter ts h.0 o.1 (λ u m. h.2 u (f u (inr m)) (λ e. o.0 (rw e at m))) in
    omega (arith, h.1)

-- the remainders of a list of walks that all begin with s

drop_all : (s r : Code) → drop (length s) (s ++ r) ≡ r
drop_all [] r = refl
drop_all (x ∷ s) r = drop_all s r

remainder : (s c : Code) → Begins c s → c ≡ s ++ drop (length s) c
remainder s c b = rw (b.1, drop_all s b.0)

member_remainder : (s : Code) (rs : List Reached) (t : Code) → Member t (remainders s rs) → (q : ℕ) × ((c : Code) × In q c rs × (t ≡ drop (length s) c))
member_remainder s [] t m = absurd m
member_remainder s (r ∷ rs) t (inl e) = (r.point, (r.code, inl (refl, refl), e))
member_remainder s (r ∷ rs) t (inr m) =
    let h = member_remainder s rs t m in (h.0, (h.1.0, inr h.1.1, h.1.2))

remainder_member : (s : Code) (rs : List Reached) (q : ℕ) (c : Code) → In q c rs → Member (drop (length s) c) (remainders s rs)
remainder_member s [] q c i = i
remainder_member s (r ∷ rs) q c (inl e) = inl (ap (λ (d : Code). drop (length s) d) e.1)
remainder_member s (r ∷ rs) q c (inr i) = inr (remainder_member s rs q c i)

parted : (s c d : Code) → Begins c s → Begins d s → Earlier c d → Earlier (drop (length s) c) (drop (length s) d)
parted s c d b b' e =
    let i : Earlier (s ++ drop (length s) c) (s ++ drop (length s) d) = subst₂ Earlier (remainder s c b) (remainder s d b') e in
    earlier_cancel s (drop (length s) c) (drop (length s) d) i

sorted_remainders : (s : Code) (rs : List Reached) → Ordered rs → ((q : ℕ) (c : Code) → In q c rs → Begins c s) → Sorted (remainders s rs)
sorted_remainders s [] o f = tt
sorted_remainders s (r ∷ rs) o f = (
  λ d m. let h = member_remainder s rs d m in
      rw h.1.2 (parted s r.code h.1.0 (f r.point r.code (inl (refl, refl))) (f h.0 h.1.0 (inr h.1.1)) (o.0 h.0 h.1.0 h.1.1)),
  sorted_remainders s rs o.1 (λ q c i. f q c (inr i)),
)

module _ {Symbol : Type 0} (L : Meaning Symbol) (at : ℕ → Step) (from : ℕ) where
  pub tree_counts : (w : List Symbol) (ls : List Reached) (s : Code) → Lists L at from w ls → ((q : ℕ) (c : Code) → In q c ls → Begins c s) →
      Counts L at from w s (tree_count s ls)
  tree_counts w ls s h f =
      let o = sorted_remainders s ls h.ordered f in (
        all_news [] (remainders s ls),
        all_news_once [] (remainders s ls) o,
        λ t. (to t, back t),
        length_all_news [] (remainders s ls),
      )
    where
      to : (t : Code) → Member t (all_news [] (remainders s ls)) → Node L at from w s t
      to t m =
          let n = all_news_new [] (remainders s ls) t (inl refl) (sorted_remainders s ls h.ordered f) m in
          let x = member_remainder s ls n.code n.among in
          let i = x.1.1 in (
            n.some,
            (
              x.0,
              (
                n.code,
                subst (λ d. Live L at from w x.0 d) (remainder s x.1.0 (f x.0 x.1.0 i) ∙ ap (λ (y : Code). s ++ y) (sym x.1.2)) (h.sound x.0 x.1.0 i),
                n.begins,
              ),
            ),
          )

      back : (t : Code) → Node L at from w s t → Member t (all_news [] (remainders s ls))
      back t n =
          let rest = n.1.1.0 in
          let i = lists_all L at from w ls h n.1.0 (s ++ rest) n.1.1.1 in
          let j : Member rest (remainders s ls) = rw (drop_all s rest) at (remainder_member s ls n.1.0 (s ++ rest) i) in
          new_all_news [] (remainders s ls) t rest j n.0 n.1.1.2 (begins_some t n.0)

  pub counts_one : (w : List Symbol) (s : Code) (m n : ℕ) → Counts L at from w s m → Counts L at from w s n → m ≡ n
  counts_one w s m n x y =
      let a = shorter x.0 y.0 x.1 (λ t i. (y.2 t).1 ((x.2 t).0 i)) in
      let b = shorter y.0 x.0 y.1 (λ t i. (x.2 t).1 ((y.2 t).0 i)) in
      omega (arith, x.3, y.3)
