-- Walks over a list of symbols, which are allowed, which are live, and what they say of inputs. Assumes nothing.
use Rattle.std.specs.Prelude.{◌≡◌, ℕ, Bool, true, false, ◌||◌, List, [], ◌∷◌, ◌++◌}
use Rattle.alphabet.specs.Meaning.{Meaning}
use Rattle.alphabet.specs.Items.{first_branch, second_branch, read_item, end_mark}
use Rattle.pattern.specs.declared.step.Step.{Step}
use Rattle.pattern.specs.declared.step.Step.TheVariants.{Read, Pass, Fork}
use Rattle.walk.specs.Graphs.{rests, is_read}
use Rattle.walk.specs.Codes.{Code, Earlier, Begins}

-- A walk over a list of symbols, from the point p to the point q: the points that it comes to, in order, and its code.
-- L is the alphabet's meaning, and `at` tells what a walk may do at each point.
pub data Walk {Symbol : Type 0} (L : Meaning Symbol) (at : ℕ → Step) : List Symbol → ℕ → ℕ → List ℕ → Code → Type 0 where
  -- it ends on a read point or on the end point, with all symbols read
  ends : {p : ℕ} → rests (at p) ≡ true → Walk L at [] p p (p ∷ []) []
  -- it passes a text point freely
  passes : {w : List Symbol} {p q k : ℕ} {ps : List ℕ} {c : Code} →
      at p ≡ Pass k → Walk L at w k q ps c → Walk L at w p q (p ∷ ps) c
  -- at a choice or a star it takes either branch
  first : {w : List Symbol} {p q a b : ℕ} {ps : List ℕ} {c : Code} →
      at p ≡ Fork a b → Walk L at w a q ps c → Walk L at w p q (p ∷ ps) (first_branch ∷ c)
  second : {w : List Symbol} {p q a b : ℕ} {ps : List ℕ} {c : Code} →
      at p ≡ Fork a b → Walk L at w b q ps c → Walk L at w p q (p ∷ ps) (second_branch ∷ c)
  -- it leaves a read point only by reading the next symbol, which must belong to the class
  reads : {s : Symbol} {w : List Symbol} {p q class k : ℕ} {ps : List ℕ} {c : Code} →
      at p ≡ Read class k → L.belongs class s ≡ true → Walk L at w k q ps c → Walk L at (s ∷ w) p q (p ∷ ps) (read_item (L.number s) ∷ c)

-- whether one of the points is a read point
abbrev pub reads_among : (ℕ → Step) → List ℕ → Bool
reads_among at [] = false
reads_among at (p ∷ ps) = is_read (at p) || reads_among at ps

-- The rule of no return: a walk never comes to one point twice without a read between. Wherever p stands twice among the points passed, one of the points from
-- its first place up to its second is a read point (which a walk leaves only by a read).
abbrev pub NoReturn : (ℕ → Step) → List ℕ → Type 0
NoReturn at ps = (before between after : List ℕ) (p : ℕ) → ps ≡ before ++ (p ∷ (between ++ (p ∷ after))) → reads_among at (p ∷ between) ≡ true

module _ {Symbol : Type 0} (L : Meaning Symbol) (at : ℕ → Step) (from : ℕ) where
  -- an allowed walk from the entry to q has the code c: it keeps the rule of no return
  abbrev pub Allowed : List Symbol → ℕ → Code → Type 0
  Allowed w q c = (ps : List ℕ) × Walk L at w from q ps c × NoReturn at ps

  -- c is the code of the live walk to q: an allowed walk that ends there, and none is earlier
  abbrev pub Live : List Symbol → ℕ → Code → Type 0
  Live w q c = Allowed w q c × ((d : Code) → Allowed w q d → Earlier d c → ⊥)

  -- no walk is live
  abbrev pub NoLive : List Symbol → Type 0
  NoLive w = (q : ℕ) (c : Code) → Live w q c → ⊥

  -- the code of every live walk begins with s
  abbrev pub AllBegin : List Symbol → Code → Type 0
  AllBegin w s = (q : ℕ) (c : Code) → Live w q c → Begins c s

  -- s is what the live walks share: the longest beginning of all their codes (every other common beginning begins it)
  abbrev pub Shared : List Symbol → Code → Type 0
  Shared w s = AllBegin w s × ((t : Code) → AllBegin w t → Begins s t)

  module _ (end : ℕ) where
    -- an input is accepted when an allowed walk over it ends on the end point
    abbrev pub Accepted : List Symbol → Type 0
    Accepted w = (c : Code) × Allowed w end c

    -- g is the greedy code: that of the earliest such walk, the greedy walk, and the end mark
    abbrev pub Greedy : List Symbol → Code → Type 0
    Greedy w g = (c : Code) × Live w end c × (g ≡ c ++ (end_mark ∷ []))

    -- a dead beginning: no accepted input begins so
    abbrev pub Dead : List Symbol → Type 0
    Dead w = (u : List Symbol) → Accepted (w ++ u) → ⊥
