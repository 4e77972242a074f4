use Rattle.std.proofs.Common.{rules}
use Rattle.watch.proofs.Steps.{open_extends}
use Rattle.watch.proofs.Watch.open.Goals as goal

pub returns-clause-extends : goal.returns-clause-extends
returns-clause-extends g c = open_extends _ (g.G.Game.lawful c.args.self.now.game) _ _ c.args.state _ (search rules) (search rules)
