use Rattle.std.proofs.Common.{rules}
use Rattle.watch.proofs.Steps.{report_extends}
use Rattle.watch.proofs.Watch.report.Goals as goal

pub returns-clause-extends : goal.returns-clause-extends
returns-clause-extends g c = report_extends _ (g.G.Game.lawful c.args.self.now.game) _ _ c.args.label _ (search rules) (search rules)
