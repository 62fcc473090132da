-- The worked cases. Letters are keeping reads of that byte; a is 97, so its item is 99. Assumes nothing.
use Rattle.std.specs.Prelude.{◌≡◌, ℕ, true, false, List, [], ◌∷◌, length, negsuc, Ok, Err, Result}
use Rattle.fault.specs.declared.refusal.Fault.{Fault}
use Rattle.fault.specs.declared.cause.Cause.TheVariants.{NotAWalk}
use Rattle.alphabet.specs.ByteClasses.{byte_meaning}
use Rattle.alphabet.specs.Choices.{choices, packed}
use Rattle.alphabet.specs.TokenClasses.{token_number}
use Rattle.alphabet.specs.declared.token.Token.{Token}
use Rattle.pattern.specs.Expressions.{Expr, empty, read, text, seq, star, texts}
use Rattle.pattern.specs.Points.{points, start}
use Rattle.pattern.specs.Numbers.{shortest}
use Rattle.pattern.specs.Files.{decoded}
use Rattle.text.specs.declared.manner.Manner.TheVariants.{Plain}
use Rattle.text.specs.TextMeaning.{at, text_of_items}
use Rattle.walk.specs.Graphs.{steps, none}
use Rattle.walk.specs.Codes.{Code}
use Rattle.walk.specs.Cases.{two_readings, empty_rounds, text_star, Shares, ReadsAs, NotAccepted, Stuck}
use Rattle.replay.specs.Bits.{bits_of}
use Rattle.replay.specs.Tracing.{Verdict, Traces}
use Rattle.replay.specs.Outcome.{full_answer, placed}

-- a digit kept, a comma dropped, the text ;, a digit kept
abbrev pub digits : Expr
digits = seq (seq (seq (read true 257) (read false 44)) (text (59 ∷ []))) (read true 257)

-- the text that some items write, from the entry, in the plain manner
abbrev pub text_of : Expr → Code → List ℕ
text_of e is = text_of_items (at (points e) (texts e) Plain (start e)) is

-- the input w is read as the items g, n of them; its filed choices are these bits, and its text is this
pub record Reading (e : Expr) (w : List ℕ) (g : Code) (n : ℕ) (bits written : List ℕ) : Type 0 where
  pub greedy : ReadsAs e w g
  pub items : length g ≡ n
  pub filed : packed (choices g) ≡ bits
  pub text : text_of e g ≡ written

-- a replay of these bytes over w hands over the items c, into a sink that takes them, and answers r
pub record Replayed (e : Expr) (bytes w : List ℕ) (c : Code) (r : Result ℕ Fault) : Type 0 where
  pub verdict : Verdict
  pub traces : Traces byte_meaning (steps e) (bits_of bytes) w none (start e) c verdict
  pub answer : full_answer c verdict ≡ r

-- abcd, and the items of its reading in (a|ab)(c|bcd)d*
abbrev pub abcd : List ℕ
abcd = 97 ∷ (98 ∷ (99 ∷ (100 ∷ [])))

-- its first two
abbrev pub ab : List ℕ
ab = 97 ∷ (98 ∷ [])

abbrev pub shared_items : Code
shared_items = 0 ∷ (99 ∷ (1 ∷ (100 ∷ (101 ∷ (102 ∷ [])))))

abbrev pub all_items : Code
all_items = 0 ∷ (99 ∷ (1 ∷ (100 ∷ (101 ∷ (102 ∷ (1 ∷ (65538 ∷ [])))))))

pub record Worked : Type 0 where
  -- (a|ab)(c|bcd)d* from its file, fed a and then bcd: nothing is handed over at the opening and after a, six items after bcd; 4 symbols, 8 items in all
  pub readings_file : decoded (0x02 ∷ 0x61 ∷ 0x02 ∷ 0x61 ∷ 0x02 ∷ 0x62 ∷ 0x04 ∷ 0x05 ∷ 0x02 ∷ 0x63 ∷ 0x02 ∷ 0x62 ∷ 0x02 ∷ 0x63 ∷ 0x04 ∷ 0x02 ∷ 0x64 ∷ 0x04 ∷ 0x05 ∷ 0x04 ∷ 0x02 ∷ 0x64 ∷ 0x06 ∷ 0x04 ∷ []) ≡ Ok two_readings
  pub readings_opened : Shares two_readings [] []
  pub readings_fed_a : Shares two_readings (97 ∷ []) []
  pub readings_fed_bcd : Shares two_readings abcd shared_items
  pub readings_fed_items : length shared_items ≡ 6
  pub readings_symbols : length abcd ≡ 4
  pub readings : Reading two_readings abcd all_items 8 (0x60 ∷ []) abcd
  -- the same after ab: not accepted, at place 2, and nothing is handed over
  pub cut_refused : NotAccepted two_readings ab
  pub cut_shares : Shares two_readings ab []
  pub cut_place : length ab ≡ 2
  -- ((a|)(|b))* on ab
  pub rounds : Reading empty_rounds ab (0 ∷ (0 ∷ (99 ∷ (1 ∷ (100 ∷ (1 ∷ (65538 ∷ []))))))) 7 (0x30 ∷ []) ab
  -- star of the empty expression: 1 is handed over at the opening, a is dead, and it may be finished at once
  pub star_opened : Shares (star empty) [] (1 ∷ [])
  pub star_dead : Stuck (star empty) (97 ∷ [])
  pub star_finished : Reading (star empty) [] (1 ∷ (65538 ∷ [])) 2 (0x80 ∷ []) []
  -- star of the text x over no symbols: no x is written
  pub text_finished : Reading text_star [] (1 ∷ (65538 ∷ [])) 2 (0x80 ∷ []) []
  -- two digits on 5,7: after the comma the text is 5, at the end 5;7; four items and no bits
  pub digits_file : decoded (0x02 ∷ 0x81 ∷ 0x02 ∷ 0x01 ∷ 0x2C ∷ 0x04 ∷ 0x03 ∷ 0x01 ∷ 0x3B ∷ 0x04 ∷ 0x02 ∷ 0x81 ∷ 0x02 ∷ 0x04 ∷ []) ≡ Ok digits
  pub digits_comma : Shares digits (53 ∷ (44 ∷ [])) (55 ∷ (46 ∷ []))
  pub digits_begun : text_of digits (55 ∷ (46 ∷ [])) ≡ 53 ∷ []
  pub digits_read : Reading digits (53 ∷ (44 ∷ (55 ∷ []))) (55 ∷ (46 ∷ (57 ∷ (65538 ∷ [])))) 4 [] (53 ∷ (59 ∷ (55 ∷ [])))
  -- a relay event of kind 2 and value -5 is 10,235, and its groups are FB 4F
  pub token : (t : Token) → t.kind ≡ 2 → t.value ≡ negsuc 4 → token_number t ≡ 10235
  pub token_groups : shortest 10235 ≡ 0xFB ∷ 0x4F ∷ []
  -- filed bits of (a|ab)(c|bcd)d* over abcd: 0x60 gives its eight items; 0x90 is another allowed walk, of nine; 0x61 is none
  pub replayed : Replayed two_readings (0x60 ∷ []) abcd all_items (Ok 8)
  pub replayed_other : Replayed two_readings (0x90 ∷ []) abcd (1 ∷ (99 ∷ (100 ∷ (0 ∷ (101 ∷ (0 ∷ (102 ∷ (1 ∷ (65538 ∷ []))))))))) (Ok 9)
  pub replayed_none : Replayed two_readings (0x61 ∷ []) abcd (0 ∷ (99 ∷ (1 ∷ (100 ∷ (101 ∷ (102 ∷ (1 ∷ []))))))) (Err (placed NotAWalk 4))
