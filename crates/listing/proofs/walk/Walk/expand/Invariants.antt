use Rattle.std.proofs.Common.{◌≡◌, ℕ, ◌<◌, true, Some}
use Rattle.solver.specs.Cells.{ranking_in}
use Rattle.listing.specs.Reach.{follow}
use Rattle.listing.specs.Walks.{Later, marked}
use Rattle.listing.proofs.walk.Walk.expand.Given as goal

abbrev pub invariant-loop-label : goal.invariant-loop-label
invariant-loop-label g l = record {
  later : Later l.fn.self.plan l.fn.self.queue.items l.fn.self.seen l.self.plan l.self.queue.items l.self.seen;
  followed : (x t : ℕ) → x < l.label → follow (g.G.Game.meaning l.fn.self.plan.game.now) (ranking_in l.fn.self.plan.cells.now) l.s x ≡ Some t → marked l.self.seen t ≡ true;
}
