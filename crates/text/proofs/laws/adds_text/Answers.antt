use Rattle.text.proofs.Taking.{adds_text}
use Rattle.text.proofs.laws.adds_text.Goals as goal

pub returns : goal.returns
returns c = adds_text
