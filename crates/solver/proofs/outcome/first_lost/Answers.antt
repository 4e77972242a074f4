use Rattle.std.proofs.Common.{rules}
use borrow.Author.Tests.{tests}
use Rattle.law.specs.Answers.{lost_start}
use Rattle.solver.specs.Cells.{ranking_in}
use Rattle.game.proofs.Ranges.{find_below}
use Rattle.solver.proofs.outcome.first_lost.Goals as goal

pub returns : goal.returns
returns g c =
    let m = g.G.Game.meaning c.args.game.now in
    find_below _ _ m.size c.size.ensures (lost_start m (ranking_in c.args.cells.now).rank) _ c.find.result c.find.ensures.ran (λ x b q k. search (rules, tests))
