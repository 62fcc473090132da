-- The bits trace something from every point.
use Rattle.std.proofs.Common.{◌≡◌, ℕ, zero, suc, ◌+◌, ◌*◌, ◌<◌, ◌≤◌, Bool, true, false, List, [], ◌∷◌, length, refl, inl, inr, arith}
use Rattle.std.proofs.lemmas.Bool.{cases_Bool}
use Rattle.walk.specs.Graphs.{Points, none, add}
use Rattle.pattern.specs.declared.step.Step.{Step}
use Rattle.pattern.specs.declared.step.Step.TheVariants.{Read, Pass, Fork, End}
use Rattle.walk.specs.Codes.{Code}
use Rattle.walk.proofs.Order.{never_both}
use Rattle.walk.proofs.Fuel.{left, left_add, left_bound}
use Rattle.alphabet.specs.Meaning.{Meaning}
use Rattle.alphabet.specs.Items.{read_item, end_mark}
use Rattle.replay.specs.Tracing.{Verdict, complete, broken, Traces, again, over, first, second, no_bit, reads, outside, no_symbol, ends, symbols_left, bits_left}
use Rattle.replay.specs.Computed.{few}
use Rattle.replay.proofs.Graphs.{LeadsWithin}
use Rattle.replay.proofs.Unreading.{few_is}

module _ {Symbol : Type 0} (L : Meaning Symbol) (at : ℕ → Step) (n : ℕ) (small : n ≤ 255) (within : (p : ℕ) → LeadsWithin n (at p)) where
  abbrev pub Traced : List Bool → List Symbol → Points → ℕ → Type 0
  Traced bs w met p = (c : Code) × (v : Verdict) × Traces L at bs w met p c v

  abbrev Below : ℕ → Type 0
  Below fuel = (bs : List Bool) (w : List Symbol) (met : Points) (p : ℕ) → p ≤ n → length w * 257 + left 256 met < fuel → Traced bs w met p

  trace_read : (fuel : ℕ) → Below fuel → (bs : List Bool) (s : Symbol) (w : List Symbol) (met : Points) (p class k : ℕ) (b : Bool) →
      met p ≡ false → at p ≡ Read class k → L.belongs class s ≡ b → k ≤ n → suc (length w) * 257 + left 256 met < suc fuel → Traced bs (s ∷ w) met p
  trace_read fuel ih bs s w met p class k true f e b l h =
      let i = ih bs w none k l (omega (arith, left_bound 256 none)) in (read_item (L.number s) ∷ i.0, i.1, reads f e b i.2)
  trace_read fuel ih bs s w met p class k false f e b l h = ([], broken, outside f e b)

  trace_point : (fuel : ℕ) → Below fuel → (bs : List Bool) (w : List Symbol) (met : Points) (p : ℕ) (b : Bool) (x : Step) →
      met p ≡ b → at p ≡ x → LeadsWithin n x → p ≤ n → length w * 257 + left 256 met < suc fuel → Traced bs w met p
  trace_point fuel ih bs w met p true x f e l k h = ([], broken, again f)
  trace_point fuel ih bs w met p false (Pass t) f e l k h =
      let i = ih bs w (add p met) t l (omega (arith, left_add 256 p met (omega arith) f)) in (i.0, i.1, over f e i.2)
  trace_point fuel ih [] w met p false (Fork a b) f e l k h = ([], broken, no_bit f e)
  trace_point fuel ih (false ∷ bs) w met p false (Fork a b) f e l k h =
      let i = ih bs w (add p met) a l.0 (omega (arith, left_add 256 p met (omega arith) f)) in (0 ∷ i.0, i.1, first f e i.2)
  trace_point fuel ih (true ∷ bs) w met p false (Fork a b) f e l k h =
      let i = ih bs w (add p met) b l.1 (omega (arith, left_add 256 p met (omega arith) f)) in (1 ∷ i.0, i.1, second f e i.2)
  trace_point fuel ih bs [] met p false (Read class t) f e l k h = ([], broken, no_symbol f e)
  trace_point fuel ih bs (s ∷ w) met p false (Read class t) f e l k h = trace_read fuel ih bs s w met p class t (L.belongs class s) f e refl l h
  trace_point fuel ih bs (s ∷ w) met p false End f e l k h = ([], broken, symbols_left f e)
  trace_point fuel ih bs [] met p false End f e l k h =
      elim (cases_Bool (few 7 bs)) [
        | inl y ↦ (end_mark ∷ [], complete, ends f e ((few_is bs).0 y))
        | inr y ↦ ([], broken, bits_left f e (λ g. never_both ((few_is bs).1 g) y))
      ]

  trace_below : (fuel : ℕ) → Below fuel
  trace_below zero bs w met p l h = absurd (omega arith)
  trace_below (suc fuel) bs w met p l h = trace_point fuel (trace_below fuel) bs w met p (met p) (at p) refl refl (within p) l h

  pub tracing : (bs : List Bool) (w : List Symbol) (met : Points) (p : ℕ) → p ≤ n → Traced bs w met p
  tracing bs w met p l = trace_below (suc (length w * 257 + left 256 met)) bs w met p l (omega arith)
