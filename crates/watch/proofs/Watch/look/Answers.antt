use Rattle.std.proofs.Common.{rules}
use Rattle.watch.proofs.Steps.{look_extends}
use Rattle.watch.proofs.Watch.look.Goals as goal

pub returns-clause-extends : goal.returns-clause-extends
returns-clause-extends g c = look_extends _ (g.G.Game.lawful c.args.self.now.game) _ _ (search rules)
