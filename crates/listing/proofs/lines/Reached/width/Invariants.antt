use Rattle.std.proofs.Common.{◌≡◌, ◌*◌, ◌≤◌, length}
use Rattle.solver.specs.Cells.{ranking_in}
use Rattle.listing.specs.Lines.{lines_below}
use Rattle.listing.proofs.lines.Reached.width.Given as goal

abbrev pub invariant-loop-s : goal.invariant-loop-s
invariant-loop-s g l = record {
  value : l.width ≡ length (lines_below (g.G.Game.meaning l.self.plan.game.now) (ranking_in l.self.plan.cells.now) l.s);
  few : l.width ≤ l.s * 63;
}
