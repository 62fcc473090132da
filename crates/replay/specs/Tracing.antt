-- What bits trace over some symbols: the items of the walk that they lead, as far as it is allowed. There is no sink yet. Assumes nothing.
use Rattle.std.specs.Prelude.{◌≡◌, ℕ, Bool, true, false, List, [], ◌∷◌}
use Rattle.alphabet.specs.Items.{first_branch, second_branch, read_item, end_mark}
use Rattle.alphabet.specs.Meaning.{Meaning}
use Rattle.pattern.specs.declared.step.Step.{Step}
use Rattle.pattern.specs.declared.step.Step.TheVariants.{Read, Pass, Fork, End}
use Rattle.walk.specs.Graphs.{Points, none, add}
use Rattle.walk.specs.Codes.{Code}
use Rattle.replay.specs.Bits.{Filling}

-- whether the bits are those of an allowed walk to the end point and nothing else, or the walk breaks off
pub data Verdict : Type 0 where
  complete : Verdict
  broken : Verdict

-- From the point p, with these bits and symbols still to come; `met` are the points met since the last read.
-- The outcome is the items in order, with the end mark at the end point, and the verdict.
pub data Traces {Symbol : Type 0} (L : Meaning Symbol) (at : ℕ → Step) : List Bool → List Symbol → Points → ℕ → Code → Verdict → Type 0 where
  -- a point is met twice without a read between
  again : {bs : List Bool} {w : List Symbol} {met : Points} {p : ℕ} → met p ≡ true → Traces L at bs w met p [] broken
  -- some points are passed freely
  over : {bs : List Bool} {w : List Symbol} {met : Points} {p k : ℕ} {c : Code} {v : Verdict} → met p ≡ false → at p ≡ Pass k →
      Traces L at bs w (add p met) k c v → Traces L at bs w met p c v
  -- a choice or a star takes a bit: 0 is the first branch, 1 the second
  first : {bs : List Bool} {w : List Symbol} {met : Points} {p a b : ℕ} {c : Code} {v : Verdict} → met p ≡ false → at p ≡ Fork a b →
      Traces L at bs w (add p met) a c v → Traces L at (false ∷ bs) w met p (first_branch ∷ c) v
  second : {bs : List Bool} {w : List Symbol} {met : Points} {p a b : ℕ} {c : Code} {v : Verdict} → met p ≡ false → at p ≡ Fork a b →
      Traces L at bs w (add p met) b c v → Traces L at (true ∷ bs) w met p (second_branch ∷ c) v
  -- or the bits have run out
  no_bit : {w : List Symbol} {met : Points} {p a b : ℕ} → met p ≡ false → at p ≡ Fork a b → Traces L at [] w met p [] broken
  -- a read takes a symbol of its class
  reads : {bs : List Bool} {s : Symbol} {w : List Symbol} {met : Points} {p class k : ℕ} {c : Code} {v : Verdict} →
      met p ≡ false → at p ≡ Read class k → L.belongs class s ≡ true →
      Traces L at bs w none k c v → Traces L at bs (s ∷ w) met p (read_item (L.number s) ∷ c) v
  -- or the symbol lies outside the class, or is missing
  outside : {bs : List Bool} {s : Symbol} {w : List Symbol} {met : Points} {p class k : ℕ} →
      met p ≡ false → at p ≡ Read class k → L.belongs class s ≡ false → Traces L at bs (s ∷ w) met p [] broken
  no_symbol : {bs : List Bool} {met : Points} {p class k : ℕ} → met p ≡ false → at p ≡ Read class k → Traces L at bs [] met p [] broken
  -- the end point, with nothing left but the filling of the last byte
  ends : {bs : List Bool} {met : Points} {p : ℕ} → met p ≡ false → at p ≡ End → Filling bs → Traces L at bs [] met p (end_mark ∷ []) complete
  -- or symbols are left, or eight bits, or a 1
  symbols_left : {bs : List Bool} {s : Symbol} {w : List Symbol} {met : Points} {p : ℕ} → met p ≡ false → at p ≡ End → Traces L at bs (s ∷ w) met p [] broken
  bits_left : {bs : List Bool} {met : Points} {p : ℕ} → met p ≡ false → at p ≡ End → (Filling bs → ⊥) → Traces L at bs [] met p [] broken
