use Rattle.std.proofs.Common.{rules}
use Rattle.watch.proofs.Steps.{reply_extends}
use Rattle.watch.proofs.Watch.reply.Goals as goal

pub returns-clause-extends : goal.returns-clause-extends
returns-clause-extends g c = reply_extends _ (g.G.Game.lawful c.args.self.now.game) _ _ _ (search rules) (search rules)
