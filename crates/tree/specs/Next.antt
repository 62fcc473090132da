-- What stands below an entry of the table, and what that says of adding one more.
use Rattle.std.specs.Prelude.{◌≡◌, ℕ, ◌<◌, ◌≤◌, true, false, ◌≢◌, Ok, Err, Result}
use Rattle.tree.specs.declared.refusal.Refusal.{Refusal}
use Rattle.tree.specs.declared.refusal.Refusal.TheVariants.{NotHeld, Full, Present, Forked}
use Rattle.tree.specs.declared.table.Table.{Table}
use Rattle.tree.specs.declared.table.Next.{Next}
use Rattle.tree.specs.declared.table.Next.TheVariants.{Nothing, Only, Several}
use Rattle.tree.specs.Sound.{par, item_of, held_of, left}

-- a count of children and the sum of their slots, told by cases
abbrev pub Stands : ℕ → ℕ → Next → Type 0
Stands uses below Nothing = uses ≡ 0
Stands uses below (Only c) = (uses ≡ 1) × (c ≡ below)
Stands uses below Several = 2 ≤ uses

-- slot i is a child of slot p
abbrev pub Child : Table → ℕ → ℕ → Type 0
Child t p i = (i ≢ t.root) × (par t i ≡ p)

-- slot p has two children
pub record Pair (t : Table) (p : ℕ) : Type 0 where
  pub one : ℕ
  pub other : ℕ
  pub differ : one ≢ other
  pub first : Child t p one
  pub second : Child t p other

-- the children of slot p
abbrev pub Leads : Table → ℕ → Next → Type 0
Leads t p Nothing = (i : ℕ) → Child t p i → ⊥
Leads t p (Only c) = Child t p c × ((i : ℕ) → Child t p i → i ≡ c)
Leads t p Several = Pair t p

-- slot p is held, a slot is free, and no child of p has the item x, and no two children are there
pub record Vetted (t : Table) (p x : ℕ) : Type 0 where
  pub held : held_of t p ≡ true
  pub some : 0 < left t
  pub absent : (i : ℕ) → Child t p i → item_of t i ≢ x
  pub single : (i j : ℕ) → Child t p i → Child t p j → i ≡ j

-- why no entry with the item x can be added under slot p
abbrev pub Bars : Table → ℕ → ℕ → Refusal → Type 0
Bars t p x NotHeld = held_of t p ≡ false
Bars t p x Full = (held_of t p ≡ true) × (left t ≡ 0)
Bars t p x Present = (held_of t p ≡ true) × (0 < left t) × ((c : ℕ) × (Child t p c × (item_of t c ≡ x) × ((i : ℕ) → Child t p i → i ≡ c)))
Bars t p x Forked = (held_of t p ≡ true) × (0 < left t) × Pair t p

-- whether an entry with the item x can be added under slot p
abbrev pub Vets : Table → ℕ → ℕ → Result (Unit {0}) Refusal → Type 0
Vets t p x (Ok u) = Vetted t p x
Vets t p x (Err f) = Bars t p x f
