use Rattle.std.proofs.Common.{rules}
use Rattle.law.specs.declared.Answer.TheVariants.{Planned, Opened, Barred}
use Rattle.law.specs.Law.{replied}
use Rattle.watch.proofs.Steps.{told}
use Rattle.watch.proofs.Watch.ask.Goals as goal

pub returns-in-Plan-clause-extends : goal.returns-in-Plan-clause-extends
returns-in-Plan-clause-extends g c = told _ _ _ _ _ Planned c.plan.result _ c.in-Plan.is (search rules) c.plan.ensures.extends

pub returns-in-Open-clause-extends : goal.returns-in-Open-clause-extends
returns-in-Open-clause-extends g c = told _ _ _ _ _ Opened c.open.result _ c.in-Open.is (search rules) c.open.ensures.extends

pub returns-in-Reply-clause-extends : goal.returns-in-Reply-clause-extends
returns-in-Reply-clause-extends g c = told _ _ _ _ _ replied c.reply.result _ c.in-Reply.is (search rules) c.reply.ensures.extends

pub returns-in-Bar-clause-extends : goal.returns-in-Bar-clause-extends
returns-in-Bar-clause-extends g c = told _ _ _ _ _ Barred c.bar.result _ c.in-Bar.is (search rules) c.bar.ensures.extends

pub returns-in-Lift-clause-extends : goal.returns-in-Lift-clause-extends
returns-in-Lift-clause-extends g c = told _ _ _ _ _ Barred c.lift.result _ c.in-Lift.is (search rules) c.lift.ensures.extends
