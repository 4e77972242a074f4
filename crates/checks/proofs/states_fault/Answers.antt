use Rattle.std.proofs.Common.{rules}
use Rattle.law.specs.Checks.{state_fault}
use Rattle.game.proofs.Ranges.{find_map_below}
use Rattle.checks.proofs.states_fault.Goals as goal

pub returns : goal.returns
returns g c = let m = g.G.Game.meaning c.args.game.now in find_map_below _ _ m.size c.size.ensures (state_fault m) c.find_map.result c.find_map.ensures.runs (λ x o q k. search rules)
