use Rattle.std.proofs.Common.{rules}
use Rattle.watch.proofs.Steps.{rate_extends}
use Rattle.watch.proofs.Watch.rate.Goals as goal

pub returns-clause-extends : goal.returns-clause-extends
returns-clause-extends g c = rate_extends _ (g.G.Game.lawful c.args.self.now.game) _ _ c.args.state _ (search rules) (search rules)
