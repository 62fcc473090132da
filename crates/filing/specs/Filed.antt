-- What is filed of a reading into a fresh sink of bits and a fresh sink of text, and what a replay of the bits gives. L is what the alphabet means, p the
-- pattern. Assumes nothing.
use Rattle.std.specs.Prelude.{◌≡◌, ℕ, true, List, [], ◌++◌, length, Some, Ok, Result}
use Rattle.fault.specs.declared.refusal.Fault.{Fault}
use Rattle.alphabet.specs.Choices.{choices, packed}
use Rattle.alphabet.specs.Meaning.{Meaning}
use Rattle.pattern.specs.declared.pattern.Pattern.{Pattern}
use Rattle.pattern.specs.Patterns.{entry_of}
use Rattle.sink.specs.declared.pair.Pair.{Pair}
use Rattle.sink.specs.declared.bits.Bits.{Bits}
use Rattle.sink.specs.BitsState.{bits_position, bits_stock}
use Rattle.sink.specs.Meaning.{Meaning as SinkMeaning, Stocks, nothing}
use Rattle.sink.specs.BitsMeaning.{bits_meaning, unfilled, ended}
use Rattle.sink.specs.PairMeaning.{pair_meaning, pair_stocks, first_channel, second_channel}
use Rattle.sink.specs.Handing.{moved_by, grown_by, all_taken}
use Rattle.text.specs.declared.manner.Manner.{Manner}
use Rattle.text.specs.TextMeaning.{text_meaning, text_of_items, ended as text_ended}
use Rattle.text.specs.declared.text.Text.{Text}
use Rattle.text.specs.TextState.{start_of, text_position, text_stock}
use Rattle.walk.specs.Codes.{Code}
use Rattle.walk.specs.Graphs.{graph_of}
use Rattle.replay.specs.Outcome.{Replays}
use Rattle.run.specs.declared.calls.Call.{Call}
use Rattle.run.specs.declared.calls.Answer.{Answer}
use Rattle.run.specs.declared.finished.Finished.{Finished}
use Rattle.run.specs.Words.{CodesAs}
use Rattle.run.specs.Sinks.{Standing}
use Rattle.run.specs.Giving.{stand}
use Rattle.run.specs.Performed.{Reads}
use Rattle.filing.specs.Channels.{fed, drawn}

-- the pair of a sink of bits and a sink of text
abbrev pub bits_and_text : SinkMeaning
bits_and_text = pair_meaning bits_meaning text_meaning

-- where it stands with both fresh
abbrev pub fresh : Pattern → Manner → Standing bits_and_text.Position
fresh p manner = stand (unfilled [], start_of p manner) (pair_stocks nothing nothing)

-- where a pair of such sinks stands
abbrev pub standing_of : Pair Bits Text → Standing bits_and_text.Position
standing_of s = stand (bits_position s.first, text_position s.second) (pair_stocks (bits_stock s.first) (text_stock s.second))

-- the channel of the bits, and that of the text
abbrev pub bits_channel : ℕ
bits_channel = first_channel 0

abbrev pub text_channel : ℕ
text_channel = second_channel 0

module _ {S : Type 0} (L : Meaning S) (p : Pattern) where
  -- These bits and this text are the greedy walk's of the symbols w, which the finish has counted, and both sinks, which stand at `last`, have ended.
  pub record FiledWhole (manner : Manner) (w : List S) (bits text : List ℕ) (r : Finished) (last : bits_and_text.Position) : Type 0 where
    pub code : Code
    pub greedy : CodesAs L p w code
    pub only : (g : Code) → CodesAs L p w g → g ≡ code
    pub items : r.items ≡ length code
    pub symbols : r.symbols ≡ length w
    pub chosen : bits ≡ packed (choices code)
    pub told : text ≡ text_of_items (start_of p manner) code
    pub over : last ≡ (ended, text_ended)

  -- a replay of the bits over the symbols w hands exactly these items to any sink that takes them, wherever it stands and whatever it holds
  abbrev pub ReplayedWhole : SinkMeaning → List ℕ → List S → Code → Type 0
  ReplayedWhole K bits w items = (q : K.Position) (s : Stocks) → all_taken K q s items ≡ true →
      (r : Result ℕ Fault) (q' : K.Position) (s' : Stocks) → Replays L (graph_of p) (entry_of p) bits w K q s r q' s' →
      (r ≡ Ok (length items)) × (q' ≡ moved_by K q items) × (s' ≡ grown_by K q s items)

  module _ {manner : Manner} {calls : List (Call S)} {log : List Answer} {x : List ℕ} {n : ℕ} {last : Result Finished Fault} {t : Standing bits_and_text.Position}
      {log' : List Answer} {y : List ℕ} (R : Reads L p bits_and_text (fresh p manner) calls log x true n (Some last) t log' y) where
    -- all that a reading into fresh sinks has brought to a channel: what was drawn from it, and what it holds at the end
    abbrev pub brought_to : ℕ → List ℕ
    brought_to c = drawn L p bits_and_text c R.first x calls R.answers R.final y R.through ++ t.stocks c

    -- what it has filed is the greedy walk's of all symbols fed
    abbrev pub Files : Finished → Type 0
    Files r = FiledWhole manner (fed calls) (brought_to bits_channel) (brought_to text_channel) r t.position

    -- and the bits replay to the same items
    pub record FilesAgain (K : SinkMeaning) (r : Finished) : Type 0 where
      pub filed : Files r
      pub replayed : ReplayedWhole K (brought_to bits_channel) (fed calls) filed.code

  -- by every account of a reading of these calls into fresh sinks with these answers: where the finish is answered, the greedy walk is filed
  abbrev pub FilesGreedy : (manner : Manner) (calls : List (Call S)) (log : List Answer) (x : List ℕ) (n : ℕ) (last : Result Finished Fault)
      (t : Standing bits_and_text.Position) (log' : List Answer) (y : List ℕ) → Type 0
  FilesGreedy manner calls log x n last t log' y = (R : Reads L p bits_and_text (fresh p manner) calls log x true n (Some last) t log' y) →
      (r : Finished) → last ≡ Ok r → Files R r

  -- THE LAW. The bits and the text of an accepted reading into fresh sinks are the greedy walk's, however the input was cut into feeds and however the
  -- sinks were poured in between; and a replay of these bits over the same symbols hands the same items to any sink that takes them.
  abbrev pub ReadingReplayed : SinkMeaning → Type 0
  ReadingReplayed K = (manner : Manner) (calls : List (Call S)) (log : List Answer) (x : List ℕ) (n : ℕ) (r : Finished) (t : Standing bits_and_text.Position)
      (log' : List Answer) (y : List ℕ) (R : Reads L p bits_and_text (fresh p manner) calls log x true n (Some (Ok r)) t log' y) → FilesAgain R K r

  -- Two readings of the same symbols that are both answered file the same, and count the same, however each was cut into feeds and poured.
  abbrev pub CutFree : Type 0
  CutFree = (manner : Manner) (calls calls₂ : List (Call S)) (log log₂ : List Answer) (x x₂ : List ℕ) (n n₂ : ℕ) (r r₂ : Finished) (t t₂ : Standing bits_and_text.Position)
      (log' log₂' : List Answer) (y y₂ : List ℕ) (R : Reads L p bits_and_text (fresh p manner) calls log x true n (Some (Ok r)) t log' y)
      (Q : Reads L p bits_and_text (fresh p manner) calls₂ log₂ x₂ true n₂ (Some (Ok r₂)) t₂ log₂' y₂) →
      fed calls ≡ fed calls₂ → (brought_to R bits_channel ≡ brought_to Q bits_channel) × (brought_to R text_channel ≡ brought_to Q text_channel) × (r ≡ r₂)
