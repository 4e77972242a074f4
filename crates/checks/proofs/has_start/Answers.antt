use Rattle.std.proofs.Common.{rules}
use Rattle.game.proofs.Ranges.{any_below}
use Rattle.checks.proofs.has_start.Goals as goal

pub returns : goal.returns
returns g c = let m = g.G.Game.meaning c.args.game.now in any_below _ _ m.size c.size.ensures m.start _ c.any.result c.any.ensures.ran (λ x b q k. search rules)
