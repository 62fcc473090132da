-- The search for live walks, as relations and as functions that compute. Assumes nothing.
use Rattle.std.specs.Prelude.{◌≡◌, ℕ, zero, suc, Bool, true, false, ◌||◌, ◌⊎◌, List, [], ◌∷◌, ◌++◌, ◌==◌, ◌≢◌}
use Rattle.alphabet.specs.Meaning.{Meaning}
use Rattle.alphabet.specs.Items.{first_branch, second_branch, read_item}
use Rattle.pattern.specs.Expressions.{Expr, size}
use Rattle.pattern.specs.Points.{start}
use Rattle.pattern.specs.declared.step.Step.{Step}
use Rattle.pattern.specs.declared.step.Step.TheVariants.{Read, Pass, Fork, End}
use Rattle.walk.specs.Graphs.{Points, rests, none, add, steps}
use Rattle.walk.specs.Codes.{Code, Earlier, common}

-- a point on which a walk ends, with the walk's code
pub record Reached : Type 0 where
  pub point : ℕ
  pub code : Code

-- a walk to q with the code c is listed
abbrev pub In : ℕ → Code → List Reached → Type 0
In q c [] = ⊥
In q c (r ∷ rs) = ((q ≡ r.point) × (c ≡ r.code)) ⊎ In q c rs

-- the same walks after the items x
abbrev pub after : Code → List Reached → List Reached
after x [] = []
after x (r ∷ rs) = record { point = r.point; code = x ++ r.code } ∷ after x rs

-- each walk is earlier than those behind it
abbrev pub Ordered : List Reached → Type 0
Ordered [] = Unit {0}
Ordered (r ∷ rs) = ((q : ℕ) (c : Code) → In q c rs → Earlier r.code c) × Ordered rs

-- whether a listed walk ends on a point
abbrev pub has : ℕ → List Reached → Bool
has q [] = false
has q (r ∷ rs) = q == r.point || has q rs

-- no two listed walks end on one point
abbrev pub PointsOnce : List Reached → Type 0
PointsOnce [] = Unit {0}
PointsOnce (r ∷ rs) = (has r.point rs ≡ false) × PointsOnce rs

-- A search in depth from a point, first branches first. It goes to no point that is marked, and marks each that it comes to.
-- It takes the marks before it and the point; its outcome is the walks that it finds and the marks after it.
pub data Search (at : ℕ → Step) : Points → ℕ → List Reached → Points → Type 0 where
  -- a marked point is not searched again
  marked : {M : Points} {p : ℕ} → M p ≡ true → Search at M p [] M
  -- a walk may end here
  found : {M : Points} {p : ℕ} → M p ≡ false → rests (at p) ≡ true → Search at M p (record { point = p; code = [] } ∷ []) (add p M)
  -- a text point is passed
  passed : {M N : Points} {p k : ℕ} {rs : List Reached} → M p ≡ false → at p ≡ Pass k → Search at (add p M) k rs N → Search at M p rs N
  -- at a choice or star the first branch is searched, and then, with its marks, the second
  forked : {M N O : Points} {p a b : ℕ} {rs ss : List Reached} → M p ≡ false → at p ≡ Fork a b →
      Search at (add p M) a rs N → Search at N b ss O → Search at M p (after (first_branch ∷ []) rs ++ after (second_branch ∷ []) ss) O

-- A sweep at the symbol a: the listed walks whose point takes it go on, in their order, by a search each; the marks are kept from one search to the next.
pub data Sweep {Symbol : Type 0} (L : Meaning Symbol) (at : ℕ → Step) (a : Symbol) : Points → List Reached → List Reached → Points → Type 0 where
  -- no walk is left
  done : {M : Points} → Sweep L at a M [] [] M
  -- the first walk's point takes the symbol: a search goes on from its follower
  taken : {M N O : Points} {r : Reached} {class k : ℕ} {ls rs ss : List Reached} →
      at r.point ≡ Read class k → L.belongs class a ≡ true → Search at M k rs N → Sweep L at a N ls ss O →
      Sweep L at a M (r ∷ ls) (after (r.code ++ (read_item (L.number a) ∷ [])) rs ++ ss) O
  -- it does not: the walk is dropped
  dropped : {M O : Points} {r : Reached} {ls ss : List Reached} →
      ((class k : ℕ) → at r.point ≡ Read class k → L.belongs class a ≢ true) → Sweep L at a M ls ss O →
      Sweep L at a M (r ∷ ls) ss O

-- The same as functions.

-- what a search comes to: the walks found, and the marks
pub record Sought : Type 0 where
  pub reached : List Reached
  pub marks : Points

-- the search at one point, which is marked already or not; `go` searches on
abbrev pub visit : Bool → Step → ℕ → Points → (Points → ℕ → Sought) → Sought
visit true x p M go = record { reached = []; marks = M }
visit false (Read class k) p M go = record { reached = record { point = p; code = [] } ∷ []; marks = add p M }
visit false End p M go = record { reached = record { point = p; code = [] } ∷ []; marks = add p M }
visit false (Pass k) p M go = go (add p M) k
visit false (Fork a b) p M go =
    let s = go (add p M) a in
    let t = go s.marks b in
    record { reached = after (first_branch ∷ []) s.reached ++ after (second_branch ∷ []) t.reached; marks = t.marks }

-- the search from a point; `fuel` bounds how deep it may go, and is more than the number of points
abbrev pub seek : (ℕ → Step) → ℕ → Points → ℕ → Sought
seek at zero M p = record { reached = []; marks = M }
seek at (suc fuel) M p = visit (M p) (at p) p M (seek at fuel)

-- where a walk goes from its point at a symbol
pub data Next : Type 0 where
  goes : ℕ → Next
  stays : Next

-- to the follower, if the symbol belongs to the class
abbrev pub going : Bool → ℕ → Next
going true k = goes k
going false k = stays

-- only a read point takes a symbol
abbrev pub next : {Symbol : Type 0} → Meaning Symbol → Symbol → Step → Next
next L a (Read class k) = going (L.belongs class a) k
next L a (Pass k) = stays
next L a (Fork x y) = stays
next L a End = stays

module _ {Symbol : Type 0} (L : Meaning Symbol) (at : ℕ → Step) (fuel : ℕ) where
  -- the sweep of one walk, and then of those behind it; c is its code with the read item
  abbrev pub sweep_on : Next → Code → List Reached → Points → (Points → List Reached) → List Reached
  sweep_on stays c ls M go = go M
  sweep_on (goes k) c ls M go = let s = seek at fuel M k in after c s.reached ++ go s.marks

  -- the sweep at one symbol
  abbrev pub sweep : Symbol → List Reached → Points → List Reached
  sweep a [] M = []
  sweep a (r ∷ ls) M = sweep_on (next L a (at r.point)) (r.code ++ (read_item (L.number a) ∷ [])) ls M (sweep a ls)

  -- a sweep at each symbol, each with fresh marks
  abbrev pub sweeps : List Reached → List Symbol → List Reached
  sweeps ls [] = ls
  sweeps ls (a ∷ w) = sweeps (sweep a ls none) w

  -- the walks that are found over a list of symbols, from a point, in order
  abbrev pub lives : ℕ → List Symbol → List Reached
  lives from w = sweeps (seek at fuel none from).reached w

-- the computed list of the live walks of an expression
abbrev pub live_list : {Symbol : Type 0} → Meaning Symbol → Expr → List Symbol → List Reached
live_list L e w = lives L (steps e) (suc (suc (size e))) (start e) w

-- the longest beginning that c and the codes of a list of walks share
abbrev pub shared_with : Code → List Reached → Code
shared_with c [] = c
shared_with c (r ∷ rs) = shared_with (common c r.code) rs

-- the longest beginning that the codes of a list of walks share
abbrev pub shared : List Reached → Code
shared [] = []
shared (r ∷ rs) = shared_with r.code rs
