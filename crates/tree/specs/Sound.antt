-- The table under a path tree, and what always holds of it.
use Rattle.tree.specs.Limits.{capacity, slot_count, ways}
use Rattle.std.specs.Prelude.{◌≡◌, ℕ, suc, ◌+◌, ◌<◌, ◌≤◌, Bool, true, false, cond, ◌≢◌, ◌⊎◌, List, [], ◌∷◌, length, ◌==◌, slice_index}
use Rattle.tree.specs.declared.table.Entry.{Entry}
use Rattle.tree.specs.declared.table.Table.{Table}
use Rattle.tree.specs.Records.{at, blank}

-- ---- the parts of a table, by slot

-- the sum over a table of a number for each entry, the first being that of slot k
unfoldable pub total : (ℕ → Entry → ℕ) → ℕ → List Entry → ℕ
total f k [] = 0
total f k (e ∷ es) = f k e + total f (suc k) es

-- 1 for an entry with the parent j
abbrev pub kid : ℕ → ℕ → Entry → ℕ
kid j k e = cond (e.parent == j) 1 0

-- its slot k for an entry with the parent j
abbrev pub kid_slot : ℕ → ℕ → Entry → ℕ
kid_slot j k e = cond (e.parent == j) k 0

-- 1 for an entry that is in use: it has a parent
abbrev pub counts_used : ℕ → Entry → ℕ
counts_used k e = cond (e.parent == 0) 0 1

-- the parent of slot i, 0 if the slot is free
abbrev pub par : Table → ℕ → ℕ
par t i = (at t.entries i).parent

abbrev pub item_of : Table → ℕ → ℕ
item_of t i = (at t.entries i).item

abbrev pub uses_of : Table → ℕ → ℕ
uses_of t i = (at t.entries i).uses

abbrev pub below_of : Table → ℕ → ℕ
below_of t i = (at t.entries i).below

abbrev pub held_of : Table → ℕ → Bool
held_of t i = (at t.entries i).held

-- how many slots are free
abbrev pub left : Table → ℕ
left t = length t.spare.items

-- the free slot at place k of the list of free slots
abbrev pub free : Table → ℕ → ℕ
free t k = slice_index t.spare.items k

-- how many entries have slot i as their parent
abbrev pub kids : Table → ℕ → ℕ
kids t i = total (kid i) 0 t.entries

-- the sum of their slots
abbrev pub kid_slots : Table → ℕ → ℕ
kid_slots t i = total (kid_slot i) 0 t.entries

-- ---- what always holds

-- What holds of the entries, by slot: parent P, item I, use count U, sum B, and H whether it is held.
-- K and T are the count and the sum of the slots of the entries that have a slot as their parent.
-- Every entry in use, but perhaps x, is of use.
pub record Shape (x root : ℕ) (P I U B K T : ℕ → ℕ) (H : ℕ → Bool) : Type 0 where
  -- a number that falls from each entry to its parent, so that every way up ends at the root
  pub age : ℕ → ℕ
  pub top : ℕ
  pub young : (i : ℕ) → age i ≤ top
  pub falls : (i : ℕ) → 0 < P i → i ≢ root → age (P i) < age i
  -- the root is its own parent, slot 0 is free, and a parent is in use
  pub root_in : 0 < root
  pub root_up : P root ≡ root
  pub none : P 0 ≡ 0
  pub parents : (i : ℕ) → 0 < P i → 0 < P (P i)
  -- the counts and sums are right
  pub uses : (i : ℕ) → 0 < i → U i ≡ K i
  pub below : (i : ℕ) → 0 < i → B i ≡ T i
  -- an entry in use has a child or is held, and what is held is in use
  pub kept : (i : ℕ) → 0 < P i → i ≢ x → (0 < U i) ⊎ (H i ≡ true)
  pub holders : (i : ℕ) → H i ≡ true → 0 < P i
  -- no two children of one entry have the same item
  pub apart : (i j : ℕ) → 0 < P i → i ≢ root → j ≢ root → P i ≡ P j → I i ≡ I j → i ≡ j
  -- an entry has no more children than a path has ways to go on; the root counts itself among its own
  pub few : (i : ℕ) → i ≢ root → U i ≤ ways
  pub few_root : U root ≤ ways + 1

-- What holds of a table between calls, with x = 0. In a call the entry x may be of no use yet.
pub record Sound (x : ℕ) (t : Table) : Type 0 where
  pub shape : Shape x t.root (par t) (item_of t) (uses_of t) (below_of t) (kids t) (kid_slots t) (held_of t)
  pub size : length t.entries ≡ slot_count
  -- the free slots are slots, free, and listed once
  pub spares : (k : ℕ) → k < left t → (0 < free t k) × (free t k < slot_count) × (at t.entries (free t k) ≡ blank)
  pub spares_apart : (j k : ℕ) → j < left t → k < left t → free t j ≡ free t k → j ≡ k
  -- every slot but slot 0 is free or in use; the root is in use too
  pub filled : left t + total counts_used 0 t.entries ≡ capacity + 1

-- what holds of a table whose entry j, in use, has no child and is not held
pub record Idle (t : Table) (j : ℕ) : Type 0 where
  pub sound : Sound j t
  pub used : 0 < par t j
  pub childless : uses_of t j ≡ 0
  pub loose : held_of t j ≡ false

-- the items from entry i up to the root
pub data Up (t : Table) : ℕ → List ℕ → Type 0 where
  top : Up t t.root []
  step : (i : ℕ) (xs : List ℕ) → 0 < par t i → i ≢ t.root → Up t (par t i) xs → Up t i (item_of t i ∷ xs)

-- t' is t with all unused entries taken out
pub record Pruned (t t' : Table) : Type 0 where
  pub sound : Sound 0 t'
  pub room : left t ≤ left t'
  pub root : t'.root ≡ t.root
  pub holders : (k : ℕ) → held_of t' k ≡ held_of t k
  pub paths : (k : ℕ) (xs : List ℕ) → Up t k xs → 0 < par t' k → Up t' k xs
