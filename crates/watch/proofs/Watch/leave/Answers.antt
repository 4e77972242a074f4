use Rattle.std.proofs.Common.{rules}
use Rattle.watch.proofs.Steps.{leave_extends}
use Rattle.watch.proofs.Watch.leave.Goals as goal

pub returns-clause-extends : goal.returns-clause-extends
returns-clause-extends g c = leave_extends _ (g.G.Game.lawful c.args.self.now.game) _ _ _ (search rules) (search rules)
