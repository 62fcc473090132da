-- What is written is the line of the number, the layer, the place and the words that the calls answered.
use Rattle.std.proofs.Common.{◌≡◌, ap, ◌∙◌}
use Rattle.std.proofs.Output.{has_written_of_eq}
use Rattle.fault.specs.Causes.{number, layer, layer_number, words}
use Rattle.fault.specs.Telling.{line}
use Rattle.fault.proofs.refusal.FaultDisplay.fmt.Goals as goal

pub returns-clause-writes : goal.returns-clause-writes
returns-clause-writes g c plain ok =
    let f = c.args.self.now in
    let n : c.number-number.result ≡ number f.cause = c.number-number.ensures in
    let l : c.number-layer.result ≡ layer_number (layer f.cause) = c.number-layer.ensures ∙ ap layer_number c.layer.ensures in
    let ws : c.words-words.result.now ≡ words f.cause = c.words-words.ensures in
    has_written_of_eq _ _ _ _ _ (λ i. line (n i) (l i) f.place (ws i)) (c.write.ensures.writes plain ok)
