use Rattle.std.proofs.Common.{rules, ap, ◌∙◌}
use Rattle.game.specs.Ranks.{leads_to}
use Rattle.solver.specs.Known.{low}
use Rattle.solver.proofs.Finds.{if_some}
use Rattle.solver.proofs.layers.Layer.leads_low.Goals as goal

pub returns : goal.returns
returns g c =
    let p = low c.args.cells.now c.args.self.now.rank in
    if_some c.next.result p c.is_some_and.result _ c.is_some_and.ensures (λ x k. search rules) ∙ ap (λ o. leads_to o p) c.next.ensures
