use Rattle.std.proofs.Common.{rules}
use Rattle.watch.proofs.Steps.{fresh}
use Rattle.watch.proofs.Watch.new.Goals as goal

pub returns-clause-lived : goal.returns-clause-lived
returns-clause-lived g c = fresh _ (g.G.Game.lawful c.args.game) _ (search rules) (search rules) (search rules) (search rules)
