-- The bits of a greedy code replayed.
use Rattle.std.proofs.Common.{◌≡◌, ℕ, List, length, Ok, Err, Result, sym, ap, ◌∙◌, subst, ap₂, inl, inr}
use Rattle.fault.specs.declared.refusal.Fault.{Fault}
use Rattle.alphabet.specs.Choices.{choices, packed}
use Rattle.alphabet.specs.Meaning.{Meaning}
use Rattle.pattern.specs.declared.pattern.Pattern.{Pattern}
use Rattle.pattern.specs.Patterns.{entry_of}
use Rattle.sink.specs.Meaning.{Meaning as SinkMeaning}
use Rattle.walk.specs.Codes.{Code}
use Rattle.walk.specs.Graphs.{none, graph_of}
use Rattle.replay.specs.Bits.{bits_of}
use Rattle.replay.specs.Tracing.{Verdict, complete}
use Rattle.replay.specs.Outcome.{Outcome}
use Rattle.replay.specs.Theorems.{marked}
use Rattle.replay.proofs.Graphs.{end_of, is_end}
use Rattle.replay.proofs.Telling.{one_trace}
use Rattle.replay.proofs.Follow.{choices_marked, walk_traces, known_not, outcome_whole}
use Rattle.run.specs.declared.calls.Call.{Call}
use Rattle.run.specs.declared.calls.Answer.{Answer}
use Rattle.run.specs.declared.finished.Finished.{Finished}
use Rattle.run.specs.Words.{Known, CodesAs}
use Rattle.run.specs.Sinks.{Standing}
use Rattle.text.specs.declared.manner.Manner.{Manner}
use Rattle.text.specs.TextMeaning.{text_of_items}
use Rattle.text.specs.TextState.{start_of}
use Rattle.filing.specs.Channels.{fed}
use Rattle.filing.specs.Filed.{bits_and_text, ReplayedWhole, Files, FilesGreedy, ReadingReplayed, CutFree}
use Rattle.filing.proofs.Accepted.{classes_known, filed_whole}

module _ {S : Type 0} (L : Meaning S) (p : Pattern) where
  pub replayed_whole : (K : SinkMeaning) (bits : List ℕ) (w : List S) (g : Code) → Known L p → CodesAs L p w g → bits ≡ packed (choices g) → ReplayedWhole L p K bits w g
  replayed_whole K bits w g known walk packs q s all r q' s' (inl x) = absurd (known_not L (graph_of p) K q s r q' s' known x)
  replayed_whole K bits w g known walk packs q s all r q' s' (inr x) =
      let c = walk.0 in
      let traces = walk_traces L (graph_of p) (entry_of p) (end_of p) (is_end p) bits w c walk.1.0 (packs ∙ ap (λ (d : Code). packed (choices d)) walk.2 ∙ ap packed (choices_marked c)) in
      let one = one_trace L (graph_of p) (bits_of bits) w none (entry_of p) x.code (marked c) x.verdict complete x.traces traces in
      let same : x.code ≡ g = one.0 ∙ sym walk.2 in
      outcome_whole K q s g r q' s'
      (subst (λ (v : Verdict). Outcome K q s g v r q' s') one.1 (subst (λ (d : Code). Outcome K q s d x.verdict r q' s') same x.outcome)) all

  pub reading_replayed : (K : SinkMeaning) → ReadingReplayed L p K
  reading_replayed K manner calls log x n r t log' y R =
      let f = filed_whole L p R in
      record { filed = f; replayed = replayed_whole K _ (fed calls) f.code (classes_known L p bits_and_text R) f.greedy f.chosen }

  pub files_greedy : (manner : Manner) (calls : List (Call S)) (log : List Answer) (x : List ℕ) (n : ℕ) (last : Result Finished Fault)
      (t : Standing bits_and_text.Position) (log' : List Answer) (y : List ℕ) → FilesGreedy L p manner calls log x n last t log' y
  files_greedy manner calls log x n (Ok z) t log' y R r e =
      let i : z ≡ r = cc in
      subst (Files L p R) i (filed_whole L p R)
  files_greedy manner calls log x n (Err f) t log' y R r e = cc

  pub cut_free : CutFree L p
  cut_free manner calls calls₂ log log₂ x x₂ n n₂ r r₂ t t₂ log' log₂' y y₂ R Q e =
      let f = filed_whole L p R in
      let h = filed_whole L p Q in
      let same : f.code ≡ h.code = h.only f.code (subst (λ (w : List S). CodesAs L p w f.code) e f.greedy) in (
        f.chosen ∙ ap (λ (g : Code). packed (choices g)) same ∙ sym h.chosen,
        f.told ∙ ap (text_of_items (start_of p manner)) same ∙ sym h.told,
        ap₂ (λ (i s : ℕ). record { items = i; symbols = s }) (f.items ∙ ap length same ∙ sym h.items) (f.symbols ∙ ap length e ∙ sym h.symbols),
      )
