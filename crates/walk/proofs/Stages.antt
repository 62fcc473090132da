-- Allowed walks as the proofs take them: in stretches between reads, and in one piece with the points met since the last read.
use Rattle.std.proofs.Common.{◌≡◌, ℕ, true, false, List, [], ◌∷◌, ◌++◌}
use Rattle.alphabet.specs.Meaning.{Meaning}
use Rattle.alphabet.specs.Items.{first_branch, second_branch, read_item}
use Rattle.pattern.specs.declared.step.Step.{Step}
use Rattle.pattern.specs.declared.step.Step.TheVariants.{Read, Pass, Fork}
use Rattle.walk.specs.Graphs.{Points, rests, none, add}
use Rattle.walk.specs.Codes.{Code}

-- A stretch of a walk without a read: from p to q, where it may end or read, with the items c. It comes to no point twice, and to none of `met`.
pub data Stretch (at : ℕ → Step) : Points → ℕ → ℕ → Code → Type 0 where
  stop : {met : Points} {p : ℕ} → met p ≡ false → rests (at p) ≡ true → Stretch at met p p []
  pass : {met : Points} {p q k : ℕ} {c : Code} → met p ≡ false → at p ≡ Pass k → Stretch at (add p met) k q c → Stretch at met p q c
  first : {met : Points} {p q a b : ℕ} {c : Code} → met p ≡ false → at p ≡ Fork a b → Stretch at (add p met) a q c → Stretch at met p q (first_branch ∷ c)
  second : {met : Points} {p q a b : ℕ} {c : Code} → met p ≡ false → at p ≡ Fork a b → Stretch at (add p met) b q c → Stretch at met p q (second_branch ∷ c)

-- An allowed walk over a list of symbols from p to q with the code c: stretches, with a read after each but the last.
pub data Staged {Symbol : Type 0} (L : Meaning Symbol) (at : ℕ → Step) : List Symbol → ℕ → ℕ → Code → Type 0 where
  last : {p q : ℕ} {c : Code} → Stretch at none p q c → Staged L at [] p q c
  reads : {a : Symbol} {w : List Symbol} {p r k q class : ℕ} {c d : Code} →
      Stretch at none p r c → at r ≡ Read class k → L.belongs class a ≡ true → Staged L at w k q d →
      Staged L at (a ∷ w) p q (c ++ (read_item (L.number a) ∷ d))

-- The same in one piece: `met` has the points met since the last read.
pub data Path {Symbol : Type 0} (L : Meaning Symbol) (at : ℕ → Step) : List Symbol → Points → ℕ → ℕ → Code → Type 0 where
  ends : {met : Points} {p : ℕ} → met p ≡ false → rests (at p) ≡ true → Path L at [] met p p []
  over : {w : List Symbol} {met : Points} {p q k : ℕ} {c : Code} → met p ≡ false → at p ≡ Pass k →
      Path L at w (add p met) k q c → Path L at w met p q c
  left : {w : List Symbol} {met : Points} {p q a b : ℕ} {c : Code} → met p ≡ false → at p ≡ Fork a b →
      Path L at w (add p met) a q c → Path L at w met p q (first_branch ∷ c)
  right : {w : List Symbol} {met : Points} {p q a b : ℕ} {c : Code} → met p ≡ false → at p ≡ Fork a b →
      Path L at w (add p met) b q c → Path L at w met p q (second_branch ∷ c)
  eats : {a : Symbol} {w : List Symbol} {met : Points} {p q k class : ℕ} {c : Code} → met p ≡ false → at p ≡ Read class k → L.belongs class a ≡ true →
      Path L at w none k q c → Path L at (a ∷ w) met p q (read_item (L.number a) ∷ c)
