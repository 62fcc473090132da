use Rattle.text.proofs.Rising.{texts_end}
use Rattle.text.proofs.laws.texts_end.Goals as goal

pub returns : goal.returns
returns c = texts_end c.args.pattern.now
