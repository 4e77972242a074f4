use Rattle.std.proofs.Common.{arith, Ok, Err}
use Rattle.std.proofs.lemmas.Grind.{common_steps}
use Rattle.law.specs.declared.Fault.TheVariants.{NoLabel}
use Rattle.watch.proofs.Steps.{change_extends}
use Rattle.watch.proofs.Watch.change_bar.Goals as goal

pub returns-then-label-labels-clause-extends : goal.returns-then-label-labels-clause-extends
returns-then-label-labels-clause-extends g c = change_extends _ (g.G.Game.lawful c.args.self.now.game) _ _ c.args.label c.args.member (Err NoLabel) (grind (arith, common_steps)) (grind (arith, common_steps))

pub returns-clause-extends : goal.returns-clause-extends
returns-clause-extends g c = change_extends _ (g.G.Game.lawful c.args.self.now.game) _ _ c.args.label c.args.member (Ok c.set_bar.result) (grind (arith, common_steps)) (grind (arith, common_steps))
