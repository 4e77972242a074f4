use Rattle.std.proofs.Common.{rules, ap, ◌∙◌}
use Rattle.game.specs.Ranks.{none_or}
use Rattle.solver.specs.Known.{low}
use Rattle.solver.proofs.Finds.{or_none}
use Rattle.solver.proofs.layers.Layer.only_low.Goals as goal

pub returns : goal.returns
returns g c =
    let p = low c.args.cells.now c.args.self.now.rank in
    or_none c.next.result p c.is_none_or.result _ c.is_none_or.ensures (λ x k. search rules) ∙ ap (λ o. none_or o p) c.next.ensures
