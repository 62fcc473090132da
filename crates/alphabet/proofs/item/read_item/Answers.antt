-- The law bounds the number of a symbol that belongs to a class.
use Rattle.std.proofs.Common.{◌≤◌, Some, sym, ap, arith, rules}
use Rattle.alphabet.specs.Bounds.{largest_number}
use Rattle.alphabet.proofs.item.read_item.Given as given
use Rattle.alphabet.proofs.item.read_item.Goals as goal

bounded : (g : given.Over) (c : goal.After-number g) → c.number.result ≤ largest_number
bounded g c =
    let h = (g.met.A.Alphabet.lawful c.args.alphabet.now).small c.args.class c.args.symbol.now (sym c.if-belongs.ensures) in
    omega (arith, h, c.number.ensures)

pub overflow_add-result : goal.overflow_add-result
overflow_add-result g c = let h = bounded g c in search rules

pub returns-then-belongs : goal.returns-then-belongs
returns-then-belongs g c = let h = bounded g c in record { item = rw (sym c.if-belongs.ensures) (ap Some (omega (arith, c.number.ensures))); range = (omega arith, omega arith) }
