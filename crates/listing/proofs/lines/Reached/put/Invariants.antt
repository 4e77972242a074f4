use Rattle.solver.specs.Cells.{ranking_in}
use Rattle.text.specs.Pages.{Adds}
use Rattle.listing.specs.Lines.{lines_below}
use Rattle.listing.proofs.lines.Reached.put.Given as goal

abbrev pub invariant-loop-s : goal.invariant-loop-s
invariant-loop-s g l = Adds l.initial.page (lines_below (g.G.Game.meaning l.self.plan.game.now) (ranking_in l.self.plan.cells.now) l.s) l.page
