-- What an alphabet fixes, and its law.
use Rattle.std.specs.Prelude.{◌≡◌, ℕ, ◌<◌, ◌≤◌, Bool, true, false, cond, Some, None, Option}
use Rattle.alphabet.specs.Bounds.{largest_number}
use Rattle.alphabet.specs.Items.{read_item}

-- over the symbols S: how many classes there are, which symbols belong to a class, and the number of each symbol
pub record Meaning (S : Type 0) : Type 0 where
  pub classes : ℕ
  pub belongs : ℕ → S → Bool
  pub number : S → ℕ

-- the law: every class below the count has at least one symbol, any other class has none, and the number of a symbol is at most the largest number.
-- The last is said of symbols that belong to some class: where symbols are bytes, S has every natural number, and those that are no byte belong to no class.
pub record Lawful {S : Type 0} (M : Meaning S) : Type 0 where
  pub inhabited : (c : ℕ) → c < M.classes → (s : S) × (M.belongs c s ≡ true)
  pub bounded : (c : ℕ) (s : S) → M.classes ≤ c → M.belongs c s ≡ false
  pub small : (c : ℕ) (s : S) → M.belongs c s ≡ true → M.number s ≤ largest_number

-- the item of a read of class c at the symbol s, if s belongs to the class
abbrev pub read_of : {S : Type 0} → Meaning S → ℕ → S → Option ℕ
read_of M c s = cond (M.belongs c s) (Some (read_item (M.number s))) None
