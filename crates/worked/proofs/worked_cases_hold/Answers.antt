use Rattle.worked.proofs.Cases.{worked}
use Rattle.worked.proofs.worked_cases_hold.Goals as goal

pub returns-clause-cases : goal.returns-clause-cases
returns-clause-cases c = worked
