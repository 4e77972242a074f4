use Rattle.std.proofs.Common.{rules}
use Rattle.console.proofs.Back.{reads_back}
use Rattle.console.proofs.calls.parse_call.Goals as goal

pub returns-clause-back : goal.returns-clause-back
returns-clause-back c = reads_back _ _ (search rules)
