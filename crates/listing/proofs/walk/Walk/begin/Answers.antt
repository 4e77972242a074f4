use Rattle.std.proofs.Common.{sym, ◌∙◌}
use Rattle.solver.specs.Cells.{ranking_in}
use Rattle.listing.proofs.Reached.{reached_start}
use Rattle.listing.proofs.walk.Walk.begin.Goals as goal

pub visit-requires : goal.visit-requires
visit-requires g c =
    let p = c.loop-s.self.plan in
    reached_start (g.G.Game.meaning p.game.now) (g.G.Game.lawful p.game.now) (ranking_in p.cells.now) c.loop-s.s (sym c.is_start.ensures ∙ c.if-is_start.true)
