-- The worked cases, by computing the lists of live walks.
use Rattle.std.proofs.Common.{◌≡◌, ℕ, zero, suc, ◌+◌, ◌*◌, Bool, true, false, ◌&&◌, ◌||◌, T, eqb, ◌⊎◌, List, [], ◌∷◌, ◌++◌, length, replicate, sym, refl, ap, ◌∙◌, subst, inl, inr, arith, eqb→eq, length-append}
use lib.Dec.{eqb_refl}
use Rattle.alphabet.specs.Items.{end_mark}
use Rattle.alphabet.specs.ByteClasses.{byte_meaning}
use Rattle.pattern.specs.Expressions.{Expr, empty, star, size}
use Rattle.walk.specs.Graphs.{steps, none, add}
use Rattle.walk.specs.Codes.{Code, common, common_cons}
use Rattle.walk.specs.Search.{Reached, In, has, sweep, sweeps, live_list, shared}
use Rattle.walk.specs.Tree.{tree_count}
use Rattle.walk.specs.Theorems.{CountsIn}
use Rattle.walk.specs.Cases.{two_readings, empty_rounds, two_stars, text_star, Shares, ReadsAs, NotAccepted, UnsharedTree, WorkedCases}
use Rattle.walk.proofs.Order.{T_true, never_both, in_has}
use Rattle.walk.proofs.Theorems.{steps_list, live_listed, shared_computed, tree_counted, dead_if_empty}

abbrev pub list : Expr → List ℕ → List Reached
list e w = live_list byte_meaning e w

-- tests of a list of walks

abbrev pub any : List Reached → Bool
any [] = false
any (r ∷ rs) = true

any_in : (rs : List Reached) → T (any rs) → (q : ℕ) × ((c : Code) × In q c rs)
any_in [] t = absurd t
any_in (r ∷ rs) t = (r.point, (r.code, inl (refl, refl)))

abbrev pub same : Code → Code → Bool
same [] [] = true
same [] (y ∷ d) = false
same (x ∷ c) [] = false
same (x ∷ c) (y ∷ d) = eqb x y && same c d

both : (a b : Bool) → T (a && b) → T a × T b
both true b t = (tt, t)
both false b t = absurd t

same_eq : (c d : Code) → T (same c d) → c ≡ d
same_eq [] [] t = refl
same_eq [] (y ∷ d) t = absurd t
same_eq (x ∷ c) [] t = absurd t
same_eq (x ∷ c) (y ∷ d) t =
    let h = both (eqb x y) (same c d) t in
    let e : x ≡ y = eqb→eq x y h.0 in
    let f : c ≡ d = same_eq c d h.1 in
    cc

abbrev pub listed : ℕ → Code → List Reached → Bool
listed q c [] = false
listed q c (r ∷ rs) = (eqb q r.point && same c r.code) || listed q c rs

one_of : (a b : Bool) → T (a || b) → T a ⊎ T b
one_of true b t = inl tt
one_of false b t = inr t

listed_in : (q : ℕ) (c : Code) (rs : List Reached) → T (listed q c rs) → In q c rs
listed_in q c [] t = t
listed_in q c (r ∷ rs) t =
    elim (one_of (eqb q r.point && same c r.code) (listed q c rs) t) [
      | inl h ↦ let g = both (eqb q r.point) (same c r.code) h in inl (eqb→eq q r.point g.0, same_eq c r.code g.1)
      | inr h ↦ inr (listed_in q c rs h)
    ]

-- what is computed of the list of live walks

pub shares : (e : Expr) (w : List ℕ) (s : Code) → T (any (list e w)) → shared (list e w) ≡ s → Shares e w s
shares e w s t h =
    let i = any_in (list e w) t in
    let l = ((live_listed byte_meaning e w).exactly i.0 i.1.0).0 i.1.1 in
    subst (Shares e w) h (shared_computed byte_meaning e w i.0 i.1.0 l).0

pub reads_as : (e : Expr) (w : List ℕ) (c : Code) → T (listed (size e) c (list e w)) → ReadsAs e w (c ++ (end_mark ∷ []))
reads_as e w c t = (c, ((live_listed byte_meaning e w).exactly (size e) c).0 (listed_in (size e) c (list e w) t), refl)

pub not_accepted : (e : Expr) (w : List ℕ) → has (size e) (list e w) ≡ false → NotAccepted e w
not_accepted e w h a =
    let i = (steps_list byte_meaning e w).complete (size e) a.0 a.1 in
    never_both (in_has (size e) i.0 (list e w) i.1) h

tree : (e : Expr) (w : List ℕ) (n : ℕ) → T (any (list e w)) → shared (list e w) ≡ [] → tree_count [] (list e w) ≡ n → UnsharedTree e w n
tree e w n t h k =
    let s = shares e w [] t h in
    (s, subst (CountsIn byte_meaning e w []) k (tree_counted byte_meaning e w [] s).0)

-- (a*b)|(a*c): the live walks after any number of letters a

-- the live walks wait for a, b, a and c; x and y begin the codes of the two branches
abbrev four : Code → Code → List Reached
four x y =
    record { point = 0; code = x ++ (0 ∷ []) } ∷ (record { point = 2; code = x ++ (1 ∷ []) } ∷
    (record { point = 3; code = y ++ (0 ∷ []) } ∷ (record { point = 5; code = y ++ (1 ∷ []) } ∷ [])))

-- one letter more
abbrev longer : Code → Code
longer x = (x ++ (0 ∷ [])) ++ (99 ∷ [])

abbrev laps : ℕ → Code → Code
laps zero x = x
laps (suc n) x = laps n (longer x)

one_lap : (x y : Code) → sweep byte_meaning (steps two_stars) 9 97 (four x y) none ≡ four (longer x) (longer y)
unfolding add
one_lap x y = refl

all_laps : (n : ℕ) (x y : Code) → sweeps byte_meaning (steps two_stars) 9 (four x y) (replicate n 97) ≡ four (laps n x) (laps n y)
all_laps zero x y = refl
all_laps (suc n) x y =
    ap (λ ls. sweeps byte_meaning (steps two_stars) 9 ls (replicate n 97)) (one_lap x y) ∙ all_laps n (longer x) (longer y)

laps_after : (n z : ℕ) (x : Code) → laps n (z ∷ x) ≡ z ∷ laps n x
laps_after zero z x = refl
laps_after (suc n) z x = laps_after n z (longer x)

length_laps : (n : ℕ) (x : Code) → length (laps n x) ≡ length x + 2 * n
length_laps zero x = omega arith
length_laps (suc n) x =
    omega (arith, length_laps n (longer x), length-append (x ++ (0 ∷ [])) (99 ∷ []), length-append x (0 ∷ []))

stars_list : (n : ℕ) → list two_stars (replicate n 97) ≡ four (0 ∷ laps n []) (1 ∷ laps n [])
unfolding add
stars_list n =
    all_laps n (0 ∷ []) (1 ∷ [])
    ∙ ap (λ x. four x (laps n (1 ∷ []))) (laps_after n 0 [])
    ∙ ap (λ y. four (0 ∷ laps n []) y) (laps_after n 1 [])

parting : (u : Code) → common (u ++ (0 ∷ [])) (u ++ (1 ∷ [])) ≡ u
parting [] = refl
parting (x ∷ u) =
    ap (λ b. common_cons b x (common (u ++ (0 ∷ [])) (u ++ (1 ∷ [])))) (T_true (eqb x x) (eqb_refl x))
    ∙ ap {B = Code} (λ c. x ∷ c) (parting u)

four_count : (u : Code) → tree_count [] (four (0 ∷ u) (1 ∷ u)) ≡ 2 * length u + 6
four_count u =
    omega (arith, ap length (parting u), length-append u (0 ∷ []), length-append u (1 ∷ []))

stars_tree : (n : ℕ) → UnsharedTree two_stars (replicate n 97) (4 * n + 6)
stars_tree n =
    let l = stars_list n in
    let u = laps n [] in
    tree two_stars (replicate n 97) (4 * n + 6)
    (subst (λ ls. T (any ls)) (sym l) tt)
    (ap shared l)
    (ap (tree_count []) l ∙ four_count u ∙ (omega (arith, length_laps n [])))

pub worked_cases : WorkedCases
unfolding add
worked_cases = record {
  readings_of_nothing = shares two_readings [] [] tt refl;
  readings_of_a = shares two_readings (97 ∷ []) [] tt refl;
  readings_of_abcd = shares two_readings (97 ∷ (98 ∷ (99 ∷ (100 ∷ [])))) (0 ∷ (99 ∷ (1 ∷ (100 ∷ (101 ∷ (102 ∷ [])))))) tt refl;
  readings_greedy = reads_as two_readings (97 ∷ (98 ∷ (99 ∷ (100 ∷ [])))) (0 ∷ (99 ∷ (1 ∷ (100 ∷ (101 ∷ (102 ∷ (1 ∷ []))))))) tt;
  readings_filed = refl;
  readings_of_ab = shares two_readings (97 ∷ (98 ∷ [])) [] tt refl;
  readings_refused = not_accepted two_readings (97 ∷ (98 ∷ [])) refl;
  rounds_greedy = reads_as empty_rounds (97 ∷ (98 ∷ [])) (0 ∷ (0 ∷ (99 ∷ (1 ∷ (100 ∷ (1 ∷ [])))))) tt;
  rounds_filed = refl;
  star_of_nothing = shares (star empty) [] (1 ∷ []) tt refl;
  star_dead = dead_if_empty byte_meaning (star empty) (97 ∷ []) refl;
  star_greedy = reads_as (star empty) [] (1 ∷ []) tt;
  star_filed = refl;
  text_greedy = reads_as text_star [] (1 ∷ []) tt;
  stars_tree = stars_tree;
  stars_of_510 = stars_tree 510;
  stars_of_511 = stars_tree 511;
}
