use Rattle.pattern.proofs.Written.{reads_back}
use Rattle.pattern.proofs.laws.files_read_back.Goals as goal

pub returns : goal.returns
returns c = reads_back
