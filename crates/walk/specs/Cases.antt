-- Worked cases, over bytes. Assumes nothing.
use Rattle.std.specs.Prelude.{◌≡◌, ℕ, ◌+◌, ◌*◌, true, List, [], ◌∷◌, replicate}
use Rattle.alphabet.specs.ByteClasses.{byte_meaning}
use Rattle.alphabet.specs.Choices.{choices, packed}
use Rattle.pattern.specs.Expressions.{Expr, empty, read, text, seq, alt, star}
use Rattle.walk.specs.Codes.{Code}
use Rattle.walk.specs.Theorems.{SharedIn, AcceptedBy, GreedyIn, DeadIn, CountsIn}

-- a keeping read of one byte; the bytes below are a, b, c, d (97 to 100) and x (120)
abbrev pub letter : ℕ → Expr
letter b = read true b

-- (a|ab)(c|bcd)d*
abbrev pub two_readings : Expr
two_readings =
    seq (seq (alt (letter 97) (seq (letter 97) (letter 98)))
    (alt (letter 99) (seq (seq (letter 98) (letter 99)) (letter 100))))
    (star (letter 100))

-- ((a|)(|b))*
abbrev pub empty_rounds : Expr
empty_rounds = star (seq (alt (letter 97) empty) (alt empty (letter 98)))

-- (a*b)|(a*c)
abbrev pub two_stars : Expr
two_stars = alt (seq (star (letter 97)) (letter 98)) (seq (star (letter 97)) (letter 99))

-- star of the text x
abbrev pub text_star : Expr
text_star = star (text (120 ∷ []))

-- over the bytes w the live walks share s
abbrev pub Shares : Expr → List ℕ → Code → Type 0
Shares e w s = SharedIn byte_meaning e w s

-- the greedy code of w is g
abbrev pub ReadsAs : Expr → List ℕ → Code → Type 0
ReadsAs e w g = GreedyIn byte_meaning e w g

-- w is not accepted
abbrev pub NotAccepted : Expr → List ℕ → Type 0
NotAccepted e w = AcceptedBy byte_meaning e w → ⊥

-- w is a dead beginning
abbrev pub Stuck : Expr → List ℕ → Type 0
Stuck e w = DeadIn byte_meaning e w

-- nothing is shared, and the tree counts n
abbrev pub UnsharedTree : Expr → List ℕ → ℕ → Type 0
UnsharedTree e w n = Shares e w [] × CountsIn byte_meaning e w [] n

-- the worked cases; a letter's item is 2 + its number, so that a, b, c, d give 99 to 102; `filed` are the bytes that file the choices of the code before
pub record WorkedCases : Type 0 where
  -- (a|ab)(c|bcd)d*
  pub readings_of_nothing : Shares two_readings [] []
  pub readings_of_a : Shares two_readings (97 ∷ []) []
  pub readings_of_abcd : Shares two_readings (97 ∷ (98 ∷ (99 ∷ (100 ∷ [])))) (0 ∷ (99 ∷ (1 ∷ (100 ∷ (101 ∷ (102 ∷ []))))))
  pub readings_greedy : ReadsAs two_readings (97 ∷ (98 ∷ (99 ∷ (100 ∷ [])))) (0 ∷ (99 ∷ (1 ∷ (100 ∷ (101 ∷ (102 ∷ (1 ∷ (65538 ∷ []))))))))
  pub readings_filed : packed (choices (0 ∷ (99 ∷ (1 ∷ (100 ∷ (101 ∷ (102 ∷ (1 ∷ (65538 ∷ []))))))))) ≡ 96 ∷ []
  pub readings_of_ab : Shares two_readings (97 ∷ (98 ∷ [])) []
  pub readings_refused : NotAccepted two_readings (97 ∷ (98 ∷ []))
  -- ((a|)(|b))*
  pub rounds_greedy : ReadsAs empty_rounds (97 ∷ (98 ∷ [])) (0 ∷ (0 ∷ (99 ∷ (1 ∷ (100 ∷ (1 ∷ (65538 ∷ [])))))))
  pub rounds_filed : packed (choices (0 ∷ (0 ∷ (99 ∷ (1 ∷ (100 ∷ (1 ∷ (65538 ∷ [])))))))) ≡ 48 ∷ []
  -- star of the empty expression
  pub star_of_nothing : Shares (star empty) [] (1 ∷ [])
  pub star_dead : Stuck (star empty) (97 ∷ [])
  pub star_greedy : ReadsAs (star empty) [] (1 ∷ (65538 ∷ []))
  pub star_filed : packed (choices (1 ∷ (65538 ∷ []))) ≡ 128 ∷ []
  -- star of the text x
  pub text_greedy : ReadsAs text_star [] (1 ∷ (65538 ∷ []))
  -- (a*b)|(a*c) over n letters a: 510 is the most for which the tree counts no more than 2,048
  pub stars_tree : (n : ℕ) → UnsharedTree two_stars (replicate n 97) (4 * n + 6)
  pub stars_of_510 : UnsharedTree two_stars (replicate 510 97) 2046
  pub stars_of_511 : UnsharedTree two_stars (replicate 511 97) 2050
