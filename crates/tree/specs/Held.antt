-- A tree as its users know it: which slots are held, and the path that each holds, from the root down.
use Rattle.std.specs.Prelude.{◌≡◌, ℕ, ◌+◌, ◌<◌, ◌≤◌, true, ◌≢◌, ◌⊎◌, List, [], ◌∷◌, ◌++◌, reverse, Some, None, Ok, Err, Option, Result}
use Rattle.tree.specs.declared.refusal.Refusal.{Refusal}
use Rattle.tree.specs.declared.refusal.Refusal.TheVariants.{NotHeld, Full, Present, Forked}
use Rattle.tree.specs.declared.paths.PathTree.{PathTree}
use Rattle.tree.specs.Limits.{capacity, slot_count, first_slot}
use Rattle.tree.specs.Sound.{held_of, left, Up}
use Rattle.tree.specs.Prefixes.{Counts}

-- slot i is held, and its path is xs
abbrev pub Held : PathTree → ℕ → List ℕ → Type 0
Held t i xs = (held_of t.table i ≡ true) × Up t.table i (reverse xs)

-- slot i is held
pub record Holder (t : PathTree) (i : ℕ) : Type 0 where
  pub path : List ℕ
  pub held : Held t i path

-- slot i is not held
abbrev pub Unheld : PathTree → ℕ → Type 0
Unheld t i = (xs : List ℕ) → Held t i xs → ⊥

-- how many more entries there is room for
abbrev pub room : PathTree → ℕ
room t = left t.table

-- t' is t, unchanged
abbrev pub Same : PathTree → PathTree → Type 0
Same t t' = t'.table ≡ t.table

-- a non-empty beginning of a held path
pub record Start (t : PathTree) (xs : List ℕ) : Type 0 where
  pub some : xs ≢ []
  pub entry : ℕ
  pub rest : List ℕ
  pub held : Held t entry (xs ++ rest)

-- ---- a new tree

-- the empty path alone is held
pub record New (t : PathTree) : Type 0 where
  pub held : Held t first_slot []
  pub only : (i : ℕ) (xs : List ℕ) → Held t i xs → (i ≡ first_slot) × (xs ≡ [])
  pub left : room t ≡ capacity

-- ---- adding

-- some held path goes on with the item x after the path that slot p holds
pub record Follows (t : PathTree) (p x : ℕ) : Type 0 where
  pub path : List ℕ
  pub held : Held t p path
  pub entry : ℕ
  pub rest : List ℕ
  pub beyond : Held t entry (path ++ (x ∷ rest))

-- held paths go on with two different items after the path that slot p holds
pub record Parts (t : PathTree) (p : ℕ) : Type 0 where
  pub one : ℕ
  pub other : ℕ
  pub differ : one ≢ other
  pub first : Follows t p one
  pub second : Follows t p other

-- slot p is held, there is room, the item x does not follow it yet, and at most one other does
pub record Addable (t : PathTree) (p x : ℕ) : Type 0 where
  pub holder : Holder t p
  pub some : 0 < room t
  pub absent : Follows t p x → ⊥
  pub single : (y z : ℕ) → Follows t p y → Follows t p z → y ≡ z

-- what each refusal says when the item x was to be added under slot p; each excludes the others and `Addable`
abbrev pub Says : PathTree → ℕ → ℕ → Refusal → Type 0
Says t p x NotHeld = Unheld t p
Says t p x Full = Holder t p × (room t ≡ 0)
Says t p x Present = Holder t p × (0 < room t) × Follows t p x × ((y : ℕ) → Follows t p y → y ≡ x)
Says t p x Forked = Holder t p × (0 < room t) × Parts t p

-- slot r is a holder more, whose path is that of slot p and then x
pub record Added (t : PathTree) (p x r : ℕ) (t' : PathTree) : Type 0 where
  pub could : Addable t p x
  pub inside : r < slot_count
  pub fresh : Unheld t r
  pub new : (xs : List ℕ) → Held t p xs → Held t' r (xs ++ (x ∷ []))
  pub old : (i : ℕ) (xs : List ℕ) → Held t i xs → Held t' i xs
  pub only : (i : ℕ) (xs : List ℕ) → Held t' i xs → (i ≡ r) ⊎ Held t i xs
  pub left : room t' + 1 ≡ room t

-- the answer to `add`
abbrev pub Adds : PathTree → ℕ → ℕ → Result ℕ Refusal → PathTree → Type 0
Adds t p x (Ok r) t' = Added t p x r t'
Adds t p x (Err f) t' = Says t p x f × Same t t'

-- ---- releasing

-- slot i is a holder less, and what is no beginning of a held path takes up no entry
pub record Released (t : PathTree) (i : ℕ) (t' : PathTree) : Type 0 where
  pub holder : Holder t i
  pub gone : Unheld t' i
  pub old : (k : ℕ) (xs : List ℕ) → k ≢ i → Held t k xs → Held t' k xs
  pub only : (k : ℕ) (xs : List ℕ) → Held t' k xs → Held t k xs
  pub counts : (n : ℕ) → n + room t' ≡ capacity → Counts (Start t') n
  pub left : room t ≤ room t'

-- the answer to `release`
abbrev pub Releases : PathTree → ℕ → Result (Unit {0}) Refusal → PathTree → Type 0
Releases t i (Ok u) t' = Released t i t'
Releases t i (Err f) t' = (f ≡ NotHeld) × Unheld t i × Same t t'

-- ---- what all held paths share

-- there is a held path, and all of them begin with x
pub record Shares (t : PathTree) (x : ℕ) : Type 0 where
  pub slot : ℕ
  pub holder : Holder t slot
  pub all : (i : ℕ) (xs : List ℕ) → Held t i xs → (ys : List ℕ) × (xs ≡ x ∷ ys)

-- zs is what all held paths share from the root on: each begins with it, and with no longer list do they all
pub record Shared (t : PathTree) (zs : List ℕ) : Type 0 where
  pub all : (i : ℕ) (xs : List ℕ) → Held t i xs → (ys : List ℕ) × (xs ≡ zs ++ ys)
  pub longest : (x : ℕ) → ((i : ℕ) (xs : List ℕ) → Held t i xs → (ys : List ℕ) × (xs ≡ zs ++ (x ∷ ys))) → ⊥

-- every path began with x, which is taken off; each slot holds the rest
pub record Taken (t : PathTree) (x : ℕ) (t' : PathTree) : Type 0 where
  pub shares : Shares t x
  pub rest : (i : ℕ) (xs : List ℕ) → Held t i (x ∷ xs) → Held t' i xs
  pub only : (i : ℕ) (xs : List ℕ) → Held t' i xs → Held t i (x ∷ xs)
  pub shared : (zs : List ℕ) → Shared t' zs → Shared t (x ∷ zs)
  pub left : room t' ≡ room t + 1

-- no item is shared; and where a path is held, nothing is
pub record NoneShared (t : PathTree) : Type 0 where
  pub never : (x : ℕ) → Shares t x → ⊥
  pub shared : (i : ℕ) → Holder t i → Shared t []

-- the answer to `take_first`
abbrev pub Takes : PathTree → Option ℕ → PathTree → Type 0
Takes t (Some x) t' = Taken t x t'
Takes t None t' = NoneShared t × Same t t'
