use Rattle.std.proofs.Common.{rules}
use Rattle.nim.proofs.Numbers.{stands, every_state}
use Rattle.nim.proofs.Nim.state.Goals as goal

pub returns-clause-stands : goal.returns-clause-stands
returns-clause-stands c = stands c.args.self.now.matches c.args.player c.args.remaining c.args.taken c.then.result (search rules)

pub returns-clause-all : goal.returns-clause-all
returns-clause-all c = every_state c.args.self.now.matches
