use Rattle.std.proofs.Common.{rules, ℕ, Bool, not, ◌&&◌}
use borrow.Author.Tests.{tests}
use Rattle.game.specs.Ranks.{leads_to}
use Rattle.labelset.specs.Bits.{has_bit}
use Rattle.solver.specs.Known.{low}
use Rattle.game.proofs.Ranges.{find_below}
use Rattle.solver.proofs.layers.Layer.pick.Goals as goal

pub returns : goal.returns
returns g c =
    let m = g.G.Game.meaning c.args.self.now.board.now.game.now in
    let p : ℕ → Bool = λ l. not (has_bit c.args.self.now.board.now.bars l) && leads_to (m.next c.args.s l) (low c.args.cells.now c.args.self.now.rank) in
    find_below _ _ m.ceiling c.labels.ensures p _ c.find.result c.find.ensures.ran (λ x b q k. search (rules, tests))
