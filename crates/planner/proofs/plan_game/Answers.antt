use Rattle.std.proofs.Common.{◌≡◌, ℕ, List, Result, ap, ◌∙◌, subst}
use Rattle.law.specs.Answers.{ranking}
use Rattle.law.specs.Log.{Log, barred, stands}
use Rattle.watch.specs.Lived.{Lived}
use Rattle.watch.proofs.Steps.{planned_anew}
use Rattle.listing.specs.declared.ListFault.{ListFault}
use Rattle.listing.specs.Answers.{listed}
use Rattle.planner.proofs.Shown.{plan_lists, lists_short}
use Rattle.planner.proofs.plan_game.Goals as goal

pub returns-in-Ok : goal.returns-in-Ok
returns-in-Ok g c =
    let meaning = g.G.Game.meaning in
    let m = meaning c.args.game in
    let ok = g.G.Game.lawful c.args.game in
    let planned = planned_anew meaning c.new-watch.ensures.same c.new-watch.ensures.lived c.in-Ok.ensures.same c.in-Ok.ensures.extends in
    let lists : (L : Log) → Lived m L c.plan.new.self.memory → ◌≡◌ {A = Result ℕ ListFault × List ℕ} (c.list.result, c.list.new.out) (listed m (ranking m (barred L)) (stands L) c.args.out.now) =
    subst (λ x. (L : Log) → Lived (meaning x) L c.plan.new.self.memory → ◌≡◌ {A = Result ℕ ListFault × List ℕ} (c.list.result, c.list.new.out) (listed (meaning x) (ranking (meaning x) (barred L)) (stands L) c.args.out.now)) planned.0 c.list.ensures.lived in
    record {
      value = ap (λ o. (o, c.list.new.out)) c.ok.ensures.value ∙ plan_lists m ok c.in-Ok.field-0 c.plan.new.self.memory planned.1 c.list.result c.args.out.now c.list.new.out lists;
      short = lists_short m ok c.in-Ok.field-0 c.plan.new.self.memory planned.1;
    }
