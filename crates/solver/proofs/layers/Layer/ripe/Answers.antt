use Rattle.std.proofs.Common.{rules, ◌≡◌, Some}
use Rattle.solver.specs.Known.{cell, picked}
use Rattle.solver.proofs.Finds.{map_some}
use Rattle.solver.proofs.layers.Layer.ripe.Goals as goal

pub returns-clause-value : goal.returns-clause-value
returns-clause-value g c =
    let got : c.map.result ≡ picked c.args.self.now.rank c.pick.result = map_some c.pick.result (λ l. cell c.args.self.now.rank (Some l)) c.map.result _ c.map.ensures.cases (λ x y h. search rules) in search rules
