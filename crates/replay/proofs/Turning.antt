-- What is found out at one point of a replay.
use Rattle.std.proofs.Common.{◌≡◌, ℕ, zero, suc, ◌+◌, ◌*◌, ◌<◌, ◌≤◌, Bool, true, false, cond, eqb, List, [], ◌∷◌, length, get_or, drop, set, replicate, Ok, Err, refl, ap, ◌∙◌, arith, eqb→eq, get_or-set_other, get_or-set_same}
use mathlib.Core.Path.{fun_ext}
use lib.Dec.{eqb_refl}
use Rattle.std.proofs.lemmas.Bool.Decides.{nat_tests}
use Rattle.fault.specs.declared.refusal.Fault.{Fault}
use Rattle.fault.specs.declared.cause.Cause.TheVariants.{NotAWalk}
use Rattle.alphabet.specs.Bounds.{largest_number}
use Rattle.alphabet.specs.Items.{first_branch, second_branch, read_item}
use Rattle.alphabet.specs.Meaning.{Meaning as Letters}
use Rattle.pattern.specs.declared.step.Step.{Step}
use Rattle.pattern.specs.declared.step.Step.TheVariants.{Read}
use Rattle.point_set.specs.declared.set.PointSet.{PointSet}
use Rattle.point_set.specs.Members.{members}
use Rattle.point_set.proofs.Digits.{length_flags}
use Rattle.walk.specs.Graphs.{Points, none, add}
use Rattle.walk.proofs.Order.{T_true, never_both}
use Rattle.replay.specs.Tracing.{broken, Traces, outside, no_symbol}
use Rattle.replay.specs.Outcome.{reads_in, placed}
use Rattle.replay.specs.Stepping.{met_of, next_item}

-- the set of points met

length_members : (s : PointSet) → length (members s) ≡ 256
length_members s = length_flags s.words ∙ ap (λ n. 64 * n) s.whole

set_add : (old new : List Bool) (p : ℕ) → new ≡ set old p true → p < length old → (λ (k : ℕ). get_or new k false) ≡ add p (λ k. get_or old k false)
unfolding add
set_add old new p e h = fun_ext (λ k. ap (λ l. get_or l k false) e ∙ go k (eqb k p) refl)
  where
    go : (k : ℕ) (b : Bool) → eqb k p ≡ b → get_or (set old p true) k false ≡ elim b [ true ↦ true | false ↦ get_or old k false ]
    go k true e = ap (λ i. get_or (set old p true) i false) (eqb→eq k p (rw e tt)) ∙ get_or-set_same old p true false h
    go k false e = get_or-set_other old p k true false (λ f. never_both (ap (λ i. eqb i p) f ∙ T_true (eqb p p) (eqb_refl p)) e)

pub inserted : (old new : PointSet) (p : ℕ) → members new ≡ set (members old) p true → p < 256 → met_of new ≡ add p (met_of old)
inserted old new p e l = set_add (members old) (members new) p e (omega (arith, length_members old))

all_false : (n k : ℕ) → get_or (replicate n false) k false ≡ false
all_false zero k = refl
all_false (suc n) zero = refl
all_false (suc n) (suc k) = all_false n k

pub cleared : (new : PointSet) → members new ≡ replicate 256 false → met_of new ≡ none
cleared new e = fun_ext (λ k. ap (λ (l : List Bool). get_or l k false) e ∙ all_false 256 k)

-- the symbols to come

pub drop_next : {S : Type 0} (w : List S) (n : ℕ) (x : S) (u : List S) → drop n w ≡ x ∷ u → (n < length w) × (u ≡ drop (n + 1) w)
drop_next [] zero x u e = let z : ◌≡◌ {A = ℕ} 0 1 = cc in absurd (omega arith)
drop_next [] (suc n) x u e = let z : ◌≡◌ {A = ℕ} 0 1 = cc in absurd (omega arith)
drop_next (y ∷ w) zero x u e = (omega arith, (let i : u ≡ w = cc in i))
drop_next (y ∷ w) (suc n) x u e =
    let h = drop_next w n x u e in
    let k : suc (n + 1) ≡ suc n + 1 = omega arith in
    (omega (arith, h.0), h.1 ∙ ap (λ (i : ℕ). drop i (y ∷ w)) k)

-- the next item

module _ {Symbol : Type 0} (L : Letters Symbol) (class : ℕ) where
  -- there is a symbol, and it belongs to the class
  pub record Reading (u : List Symbol) (i : ℕ) : Type 0 where
    pub symbol : Symbol
    pub rest : List Symbol
    pub is : u ≡ symbol ∷ rest
    pub belongs : L.belongs class symbol ≡ true
    pub item : i ≡ read_item (L.number symbol)

  reading_by : (b : Bool) (x : Symbol) (u : List Symbol) (n i : ℕ) → L.belongs class x ≡ b → Ok i ≡ cond b (Ok (read_item (L.number x))) (Err (placed NotAWalk n)) → Reading (x ∷ u) i
  reading_by true x u n i e h = record { symbol = x; rest = u; is = refl; belongs = e; item = (let k : i ≡ read_item (L.number x) = cc in k) }
  reading_by false x u n i e h = let z : ◌≡◌ {A = ℕ} 0 1 = cc in absurd (omega arith)

  pub reading : (u : List Symbol) (n i : ℕ) → Ok i ≡ next_item L class u n → Reading u i
  reading [] n i h = let z : ◌≡◌ {A = ℕ} 0 1 = cc in absurd (omega arith)
  reading (x ∷ u) n i h = reading_by (L.belongs class x) x u n i refl h

  pub refused_item : (u : List Symbol) (n : ℕ) (f : Fault) → Err f ≡ next_item L class u n → f ≡ placed NotAWalk n
  refused_item [] n f h = let k : f ≡ placed NotAWalk n = cc in k
  refused_item (x ∷ u) n f h = go (L.belongs class x) h
    where
      go : (b : Bool) → Err f ≡ cond b (Ok (read_item (L.number x))) (Err (placed NotAWalk n)) → f ≡ placed NotAWalk n
      go true e = let z : ◌≡◌ {A = ℕ} 0 1 = cc in absurd (omega arith)
      go false e = let k : f ≡ placed NotAWalk n = cc in k

  module _ (at : ℕ → Step) (bs : List Bool) (met : Points) (p k : ℕ) (i : met p ≡ false) (e : at p ≡ Read class k) where
    break_by : (b : Bool) (x : Symbol) (u : List Symbol) (n : ℕ) (f : Fault) → L.belongs class x ≡ b → Err f ≡ cond b (Ok (read_item (L.number x))) (Err (placed NotAWalk n)) →
        Traces L at bs (x ∷ u) met p [] broken
    break_by true x u n f y h = let z : ◌≡◌ {A = ℕ} 0 1 = cc in absurd (omega arith)
    break_by false x u n f y h = outside i e y

    pub reading_breaks : (u : List Symbol) (n : ℕ) (f : Fault) → Err f ≡ next_item L class u n → Traces L at bs u met p [] broken
    reading_breaks [] n f h = no_symbol i e
    reading_breaks (x ∷ u) n f h = break_by (L.belongs class x) x u n f refl h

-- read items

pub bit_not_read : (b : Bool) → reads_in (cond b second_branch first_branch ∷ []) ≡ 0
bit_not_read true = refl
bit_not_read false = refl

pub symbol_read : (k : ℕ) → k ≤ largest_number → reads_in (read_item k ∷ []) ≡ 1
symbol_read k h = grind (arith, nat_tests)
