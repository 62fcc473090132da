-- What is written into a table.
use Rattle.std.specs.Prelude.{ℕ, ◌+◌, ◌-◌, false, List, [], ◌∷◌, ◌++◌, slice_index_or, slice_set}
use Rattle.tree.specs.declared.table.Entry.{Entry}
use Rattle.tree.specs.declared.table.Table.{Table}

-- an entry that is not in use
abbrev pub blank : Entry
blank = record { item = 0; parent = 0; uses = 0; below = 0; held = false }

-- the entry in slot i
abbrev pub at : List Entry → ℕ → Entry
at es i = slice_index_or es i blank

-- with the child s more
abbrev pub wider : Entry → ℕ → Entry
wider e s = record { item = e.item; parent = e.parent; uses = e.uses + 1; below = e.below + s; held = e.held }

-- with the child s less
abbrev pub slimmer : Entry → ℕ → Entry
slimmer e s = record { item = e.item; parent = e.parent; uses = e.uses - 1; below = e.below - s; held = e.held }

-- slot j free
abbrev pub vacated : Table → ℕ → Table
vacated t j = record { entries = slice_set t.entries j blank; spare = record { items = t.spare.items ++ j ∷ [] }; root = t.root }

-- slot j off its parent, and free
abbrev pub shed : Table → ℕ → Table
shed t j =
    let p = (at t.entries j).parent in
    record { entries = slice_set (slice_set t.entries j blank) p (slimmer (at t.entries p) j); spare = record { items = t.spare.items ++ j ∷ [] }; root = t.root }
