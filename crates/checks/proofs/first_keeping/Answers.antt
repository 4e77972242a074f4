use Rattle.std.proofs.Common.{rules}
use Rattle.law.specs.Checks.{keeps_turn}
use Rattle.game.proofs.Ranges.{find_below}
use Rattle.checks.proofs.first_keeping.Goals as goal

pub returns : goal.returns
returns g c = let m = g.G.Game.meaning c.args.game.now in find_below _ _ m.ceiling c.labels.ensures (keeps_turn m c.args.s) _ c.find.result c.find.ensures.ran (λ x b q k. search rules)
