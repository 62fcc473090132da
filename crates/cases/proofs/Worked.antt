-- The worked cases, by computing.
use Rattle.std.proofs.Common.{◌≡◌, ℕ, ◌+◌, ◌*◌, T, List, [], ◌∷◌, ◌++◌, length, negsuc, refl, ap, ◌∙◌}
use Rattle.alphabet.specs.Items.{end_mark}
use Rattle.alphabet.specs.ByteClasses.{byte_meaning}
use Rattle.alphabet.specs.Choices.{choices, packed}
use Rattle.alphabet.specs.Bounds.{values_per_kind}
use Rattle.alphabet.specs.TokenClasses.{token_number, raised}
use Rattle.alphabet.specs.declared.token.Token.{Token}
use Rattle.pattern.specs.Expressions.{Expr, empty, star, size}
use Rattle.pattern.specs.Points.{start}
use Rattle.walk.specs.Graphs.{steps, none, add}
use Rattle.walk.specs.Codes.{Code}
use Rattle.walk.specs.Cases.{two_readings, empty_rounds, text_star}
use Rattle.walk.proofs.Worked.{list, listed, shares, reads_as, not_accepted}
use Rattle.walk.proofs.Theorems.{dead_if_empty}
use Rattle.replay.specs.Bits.{highest, bits_of}
use Rattle.replay.specs.Tracing.{complete, broken}
use Rattle.replay.specs.Computed.{trace}
use Rattle.replay.proofs.Telling.{traced}
use Rattle.cases.specs.Cases.{digits, text_of, abcd, ab, shared_items, all_items, Reading, Worked}

-- a reading, from what is computed of it; c is the code without the end mark
reading : (e : Expr) (w : List ℕ) (c : Code) (n : ℕ) (bits written : List ℕ) → T (listed (size e) c (list e w)) → length (c ++ (end_mark ∷ [])) ≡ n
    → packed (choices (c ++ (end_mark ∷ []))) ≡ bits → text_of e (c ++ (end_mark ∷ [])) ≡ written → Reading e w (c ++ (end_mark ∷ [])) n bits written
reading e w c n bits written l i f t = record { greedy = reads_as e w c l; items = i; filed = f; text = t }

token_is : (t : Token) → t.kind ≡ 2 → t.value ≡ negsuc 4 → token_number t ≡ 10235
token_is t k v = ap (λ n. n * values_per_kind + raised t.value) k ∙ ap (λ z. 2 * values_per_kind + raised z) v

pub worked : Worked
unfolding add highest bits_of trace
worked = record {
  readings_file = refl;
  readings_opened = shares two_readings [] [] tt refl;
  readings_fed_a = shares two_readings (97 ∷ []) [] tt refl;
  readings_fed_bcd = shares two_readings abcd shared_items tt refl;
  readings_fed_items = refl;
  readings_symbols = refl;
  readings = reading two_readings abcd (0 ∷ (99 ∷ (1 ∷ (100 ∷ (101 ∷ (102 ∷ (1 ∷ []))))))) 8 (0x60 ∷ []) abcd tt refl refl refl;
  cut_refused = not_accepted two_readings ab refl;
  cut_shares = shares two_readings ab [] tt refl;
  cut_place = refl;
  rounds = reading empty_rounds ab (0 ∷ (0 ∷ (99 ∷ (1 ∷ (100 ∷ (1 ∷ [])))))) 7 (0x30 ∷ []) ab tt refl refl refl;
  star_opened = shares (star empty) [] (1 ∷ []) tt refl;
  star_dead = dead_if_empty byte_meaning (star empty) (97 ∷ []) refl;
  star_finished = reading (star empty) [] (1 ∷ []) 2 (0x80 ∷ []) [] tt refl refl refl;
  text_finished = reading text_star [] (1 ∷ []) 2 (0x80 ∷ []) [] tt refl refl refl;
  digits_file = refl;
  digits_comma = shares digits (53 ∷ (44 ∷ [])) (55 ∷ (46 ∷ [])) tt refl;
  digits_begun = refl;
  digits_read = reading digits (53 ∷ (44 ∷ (55 ∷ []))) (55 ∷ (46 ∷ (57 ∷ []))) 4 [] (53 ∷ (59 ∷ (55 ∷ []))) tt refl refl refl;
  token = token_is;
  token_groups = refl;
  replayed = record { verdict = complete; traces = traced byte_meaning (steps two_readings) 30 (bits_of (0x60 ∷ [])) abcd none (start two_readings) all_items complete refl; answer = refl };
  replayed_other = record { verdict = complete; traces = traced byte_meaning (steps two_readings) 30 (bits_of (0x90 ∷ [])) abcd none (start two_readings) (1 ∷ (99 ∷ (100 ∷ (0 ∷ (101 ∷ (0 ∷ (102 ∷ (1 ∷ (65538 ∷ []))))))))) complete refl; answer = refl };
  replayed_none = record { verdict = broken; traces = traced byte_meaning (steps two_readings) 30 (bits_of (0x61 ∷ [])) abcd none (start two_readings) (0 ∷ (99 ∷ (1 ∷ (100 ∷ (101 ∷ (102 ∷ (1 ∷ []))))))) broken refl; answer = refl };
}
