use Rattle.sink.proofs.Filing.{files_choices}
use Rattle.sink.proofs.laws.bits_file_choices.Goals as goal

pub returns : goal.returns
returns c = files_choices
