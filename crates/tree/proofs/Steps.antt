-- What the calls write into a table.
use Rattle.std.proofs.Common.{◌≡◌, ℕ, ◌+◌, true, false, List, [], ◌∷◌, ◌++◌, set}
use Rattle.tree.specs.Limits.{first_slot}
use Rattle.tree.specs.declared.table.Entry.{Entry}
use Rattle.tree.specs.declared.table.Table.{Table}
use Rattle.tree.specs.Records.{blank, at, wider}

-- the root of a new tree: its own parent, and held
abbrev pub first_entry : Entry
first_entry = record { item = 0; parent = first_slot; uses = 1; below = first_slot; held = true }

-- a new entry under slot p
abbrev pub fresh : ℕ → ℕ → Entry
fresh p x = record { item = x; parent = p; uses = 0; below = 0; held = true }

-- as the root, in slot c: its own parent, and so its own child
abbrev pub topped : Entry → ℕ → Entry
topped e c = record { item = e.item; parent = c; uses = e.uses + 1; below = e.below + c; held = e.held }

-- a new entry with item x under slot p, in slot s, where the slots of `rest` stay free
abbrev pub grown : Table → ℕ → ℕ → ℕ → List ℕ → Table
grown t p x s rest =
    record { entries = set (set t.entries s (fresh p x)) p (wider (at t.entries p) s); spare = record { items = rest }; root = t.root }

-- the root's only child c as the root, and the old root free
abbrev pub raised : Table → ℕ → Table
raised t c =
    record { entries = set (set t.entries t.root blank) c (topped (at t.entries c) c); spare = record { items = t.spare.items ++ t.root ∷ [] }; root = c }

-- slot i no longer held
abbrev pub loosened : Table → ℕ → Table
loosened t i =
    let e = at t.entries i in
    record { entries = set t.entries i (record { item = e.item; parent = e.parent; uses = e.uses; below = e.below; held = false }); spare = t.spare; root = t.root }

pub entry_blank : (e : Entry) → e.item ≡ 0 → e.parent ≡ 0 → e.uses ≡ 0 → e.below ≡ 0 → e.held ≡ false → e ≡ blank
entry_blank e a b c d f = λ k. record { item = a k; parent = b k; uses = c k; below = d k; held = f k }

-- every field as a derived default has it
abbrev pub IsDefault : Entry → Type 0
IsDefault e = (e.item ≡ 0) × ((e.parent ≡ 0) × ((e.uses ≡ 0) × ((e.below ≡ 0) × (e.held ≡ false))))

pub default_blank : (e : Entry) → IsDefault e → e ≡ blank
default_blank e d = entry_blank e d.0 d.1.0 d.1.1.0 d.1.1.1.0 d.1.1.1.1
