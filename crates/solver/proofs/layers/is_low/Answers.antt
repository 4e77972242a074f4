use Rattle.std.proofs.Common.{rules, nat_lt, ap, ◌∙◌}
use Rattle.solver.specs.Known.{under}
use Rattle.solver.proofs.Finds.{if_some}
use Rattle.solver.proofs.layers.is_low.Goals as goal

pub returns : goal.returns
returns c = if_some c.cell_at.result.rank (λ r. nat_lt r c.args.bound) c.is_some_and.result _ c.is_some_and.ensures (λ x k. search rules) ∙ ap (λ c'. under c'.rank c.args.bound) c.cell_at.ensures
