-- What the calls do to a table, by its entries.
use Rattle.std.proofs.Common.{◌≡◌, ℕ, ◌+◌, ◌-◌, ◌<◌, ◌≤◌, true, false, ◌≢◌, List, [], ◌∷◌, ◌++◌}
use Rattle.tree.specs.Limits.{capacity, first_slot}
use Rattle.tree.specs.declared.table.Table.{Table}
use Rattle.tree.specs.declared.table.Next.TheVariants.{Only}
use Rattle.tree.specs.Sound.{par, uses_of, below_of, held_of, left, Sound, Up}
use Rattle.tree.specs.Next.{Stands, Leads, Vetted}

-- an entry with the item x can be added under slot p, and s is the free slot that goes to it, of which `rest` stay free
pub record Ready (t : Table) (p x s : ℕ) (rest : List ℕ) : Type 0 where
  pub sound : Sound 0 t
  pub spare : t.spare.items ≡ rest ++ s ∷ []
  pub vetted : Vetted t p x

-- r is a new entry of t', held, under p and with item x
pub record Grew (t : Table) (p x r : ℕ) (t' : Table) : Type 0 where
  pub sound : Sound 0 t'
  pub root : t'.root ≡ t.root
  pub left : left t' + 1 ≡ left t
  pub fresh : par t r ≡ 0
  pub path : (xs : List ℕ) → Up t p xs → Up t' r (x ∷ xs)
  pub paths : (i : ℕ) (xs : List ℕ) → Up t i xs → Up t' i xs
  pub held : held_of t' r ≡ true
  pub holders : (i : ℕ) → i ≢ r → held_of t' i ≡ held_of t i

-- the holder of i is gone; what is still in use has its path
pub record LetGo (t : Table) (i : ℕ) (t' : Table) : Type 0 where
  pub sound : Sound 0 t'
  pub room : left t ≤ left t'
  pub root : t'.root ≡ t.root
  pub loose : held_of t' i ≡ false
  pub holders : (k : ℕ) → k ≢ i → held_of t' k ≡ held_of t k
  pub paths : (k : ℕ) (xs : List ℕ) → Up t k xs → 0 < par t' k → Up t' k xs

-- t' is t with unused entries taken out, where j may still be unused
pub record Pruning (t : Table) (j : ℕ) (t' : Table) : Type 0 where
  pub sound : Sound j t'
  pub used : 0 < par t' j
  pub room : left t ≤ left t'
  pub root : t'.root ≡ t.root
  pub holders : (k : ℕ) → held_of t' k ≡ held_of t k
  pub paths : (k : ℕ) (xs : List ℕ) → Up t k xs → 0 < par t' k → Up t' k xs

-- the root is not held, and c is its only child
pub record Sole (t : Table) (c : ℕ) : Type 0 where
  pub sound : Sound 0 t
  pub leads : Leads t t.root (Only c)
  pub counts : Stands (uses_of t t.root - 1) (below_of t t.root - t.root) (Only c)
  pub loose : held_of t t.root ≡ false

-- every held path begins with x; the lists here run from the far end
abbrev pub UpShares : Table → ℕ → Type 0
UpShares t x = (i : ℕ) (xs : List ℕ) → held_of t i ≡ true → Up t i xs → (ys : List ℕ) × (xs ≡ ys ++ (x ∷ []))

-- the paths after the item x came off the front of each
pub record Shifted (t : Table) (x : ℕ) (t' : Table) : Type 0 where
  pub sound : Sound 0 t'
  pub shared : UpShares t x
  pub slot : ℕ
  pub some : held_of t slot ≡ true
  pub empty : held_of t t.root ≡ false
  pub left : left t' ≡ left t + 1
  pub held : (i : ℕ) → held_of t' i ≡ held_of t i
  pub paths : (i : ℕ) (xs : List ℕ) → Up t i xs → i ≢ t.root → (ys : List ℕ) × (xs ≡ ys ++ (x ∷ [])) × Up t' i ys

-- a tree of the empty path alone
pub record Fresh (t : Table) : Type 0 where
  pub sound : Sound 0 t
  pub root : t.root ≡ first_slot
  pub path : Up t t.root []
  pub held : held_of t t.root ≡ true
  pub holders : (i : ℕ) → i ≢ t.root → held_of t i ≡ false
  pub alone : left t ≡ capacity
