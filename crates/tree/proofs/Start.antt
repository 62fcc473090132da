-- The tree of the empty path alone is sound.
use Rattle.tree.specs.Limits.{capacity, reserved, slot_count, first_slot}
use Rattle.std.proofs.Common.{◌≡◌, ℕ, zero, suc, ◌+◌, ◌<◌, true, false, cond, eqb, ◌≢◌, List, length, get_or, set, replicate, sym, refl, ap, ◌∙◌, subst, inr, ⊎_elim, arith, length-set, get_or-set_other, get_or-set_same}
use lib.ListN.{length-replicate}
use Rattle.std.proofs.lemmas.Bool.{cases_eq, eq-eqb, ne_eqb, both_ways}
use Rattle.tree.specs.declared.table.Entry.{Entry}
use Rattle.tree.specs.declared.table.Table.{Table}
use Rattle.tree.specs.Records.{at, blank, wider}
use Rattle.tree.specs.Sound.{total, kid, kid_slot, counts_used, par, uses_of, below_of, held_of, kids, kid_slots, top}
use Rattle.tree.proofs.Steps.{first_entry, IsDefault, default_blank}
use Rattle.tree.proofs.Moves.{Fresh}
use Rattle.tree.proofs.Totals.{total_set}

pub total_blank : (f : ℕ → Entry → ℕ) → ((k : ℕ) → f k blank ≡ 0) → (k n : ℕ) → total f k (replicate n blank) ≡ 0
unfolding total
total_blank f z k zero = refl
total_blank f z k (suc n) = let r = total_blank f z (suc k) n in let y = z k in omega (arith, r, y)

pub at_blank : (n i : ℕ) → at (replicate n blank) i ≡ blank
at_blank zero i = refl
at_blank (suc n) zero = refl
at_blank (suc n) (suc i) = at_blank n i

module _ (es : List Entry) (size : length es ≡ slot_count) (blanks : (i : ℕ) → at es i ≡ blank)
    (none : (f : ℕ → Entry → ℕ) → ((k : ℕ) → f k blank ≡ 0) → total f 0 es ≡ 0)
    (sl : List ℕ) (room : length sl ≡ capacity) (slots_are : (k : ℕ) → k < capacity → get_or sl k 0 ≡ k + reserved) where
  abbrev t : Table
  t = record { entries = set es first_slot first_entry; spare = record { items = sl }; root = first_slot }

  at_1 : at t.entries 1 ≡ first_entry
  at_1 = get_or-set_same es 1 first_entry blank (omega arith)

  at_o : (i : ℕ) → i ≢ 1 → at t.entries i ≡ blank
  at_o i n = get_or-set_other es 1 i first_entry blank n ∙ blanks i

  sums : (f : ℕ → Entry → ℕ) → ((k : ℕ) → f k blank ≡ 0) → total f 0 t.entries ≡ f 1 first_entry
  sums f z =
      let e = total_set f 0 es 1 first_entry (omega arith) in
      let a = ap (λ (y : Entry). f 1 y) (blanks 1) in
      let b = none f z in
      let y = z 1 in
      omega (arith, e, a, b, y)

  off : (j : ℕ) → 0 < j → (w : ℕ) → cond (eqb 0 j) w 0 ≡ 0
  off j h w = rw (ne_eqb 0 j (λ e. omega arith))

  up_1 : par t 1 ≡ 1
  up_1 = ap (λ (e : Entry). e.parent) at_1

  only_1 : (i : ℕ) → 0 < par t i → i ≡ 1
  only_1 i h = ⊎_elim (λ e. e) (λ n. let z = ap (λ (e : Entry). e.parent) (at_o i n) in absurd (omega (arith, z))) (cases_eq i 1)

  counts : (i : ℕ) → 0 < i → uses_of t i ≡ kids t i
  counts i h =
      let s = sums (kid i) (λ k. off i h 1) in
      ⊎_elim (λ (e : i ≡ 1). let a = ap (λ (y : Entry). y.uses) at_1 in let b = ap (uses_of t) e in let d = eq-eqb 1 i (sym e) in let s2 = rw d at s in omega (arith, a, b, s2))
      (λ (n : i ≢ 1). let a = ap (λ (y : Entry). y.uses) (at_o i n) in let d = ne_eqb 1 i (λ e. n (sym e)) in let s2 = rw d at s in omega (arith, a, s2)) (cases_eq i 1)

  belows : (i : ℕ) → 0 < i → below_of t i ≡ kid_slots t i
  belows i h =
      let s = sums (kid_slot i) (λ k. off i h k) in
      ⊎_elim (λ (e : i ≡ 1). let a = ap (λ (y : Entry). y.below) at_1 in let b = ap (below_of t) e in let d = eq-eqb 1 i (sym e) in let s2 = rw d at s in omega (arith, a, b, s2))
      (λ (n : i ≢ 1). let a = ap (λ (y : Entry). y.below) (at_o i n) in let d = ne_eqb 1 i (λ e. n (sym e)) in let s2 = rw d at s in omega (arith, a, s2)) (cases_eq i 1)

  held_1 : held_of t 1 ≡ true
  held_1 = ap (λ (e : Entry). e.held) at_1

  held_o : (i : ℕ) → i ≢ 1 → held_of t i ≡ false
  held_o i n = ap (λ (e : Entry). e.held) (at_o i n)

  pub start : Fresh t
  start = record {
    sound = record {
      shape = record {
        age = λ i. 0;
        top = 0;
        young = λ i. omega arith;
        root_in = omega arith;
        root_up = up_1;
        none = ap (λ (e : Entry). e.parent) (at_o 0 (λ e. omega arith));
        parents = λ i h. let e = ap (par t) (only_1 i h) in rw (e, up_1, up_1) (omega arith);
        falls = λ i h n. absurd (n (only_1 i h));
        uses = counts;
        below = belows;
        kept = λ i h n. inr (ap (held_of t) (only_1 i h) ∙ held_1);
        apart = λ i j h n m e f. absurd (n (only_1 i h));
        holders = λ i h. ⊎_elim (λ (e : i ≡ 1). rw (e, up_1) (omega arith)) (λ n. absurd (both_ways (held_of t i) (held_o i n) h)) (cases_eq i 1);
        few = λ i n. let a = ap (λ (y : Entry). y.uses) (at_o i n) in omega (arith, a);
        few_root = let a = ap (λ (y : Entry). y.uses) at_1 in omega (arith, a);
      };
      size = length-set es 1 first_entry ∙ size;
      spares = λ k h. let e = slots_are k (omega (arith, room)) in (omega (arith, e), omega (arith, e), at_o (get_or sl k 0) (λ z. omega (arith, e)));
      spares_apart = λ j k hj hk e. let a = slots_are j (omega (arith, room)) in let b = slots_are k (omega (arith, room)) in omega (arith, a, b);
      filled = let s = sums counts_used (λ k. refl) in omega (arith, s, room);
    };
    root = refl;
    path = top;
    held = held_1;
    holders = held_o;
    alone = room;
  }

started : (sl : List ℕ) → length sl ≡ capacity → ((k : ℕ) → k < capacity → get_or sl k 0 ≡ k + reserved) → Fresh (record { entries = set (replicate slot_count blank) first_slot first_entry; spare = record { items = sl }; root = first_slot })
started sl r h = start (replicate slot_count blank) (length-replicate slot_count blank) (at_blank slot_count) (λ f z. total_blank f z 0 slot_count) sl r h

-- what `new` writes
pub started_as : (b d e : Entry) (sl : List ℕ) → length sl ≡ capacity → ((k : ℕ) → k < capacity → get_or sl k 0 ≡ k + reserved) → IsDefault b → IsDefault d → e ≡ wider d first_slot
    → Fresh (record { entries = set (replicate slot_count b) first_slot (record { item = e.item; parent = first_slot; uses = e.uses; below = e.below; held = true }); spare = record { items = sl }; root = first_slot })
started_as b d e sl r h i j k =
    let m = k ∙ ap (λ (y : Entry). wider y first_slot) (default_blank d j) in
    subst (λ (y : Entry). Fresh (record { entries = set (replicate slot_count b) first_slot (record { item = y.item; parent = first_slot; uses = y.uses; below = y.below; held = true }); spare = record { items = sl }; root = first_slot })) (sym m)
    (subst (λ (y : Entry). Fresh (record { entries = set (replicate slot_count y) first_slot first_entry; spare = record { items = sl }; root = first_slot })) (sym (default_blank b i)) (started sl r h))
