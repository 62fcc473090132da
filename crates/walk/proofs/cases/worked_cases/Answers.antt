use Rattle.walk.proofs.Worked.{worked_cases}
use Rattle.walk.proofs.cases.worked_cases.Goals as goal

pub returns : goal.returns
returns c = worked_cases
