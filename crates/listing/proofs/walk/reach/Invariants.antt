use Rattle.std.proofs.Common.{◌≡◌, ℕ, ◌-◌, ◌<◌, ◌≤◌, true, length, get_or}
use Rattle.solver.specs.Cells.{ranking_in}
use Rattle.listing.specs.Walks.{Followed, marked}
use Rattle.listing.proofs.walk.reach.Given as goal

abbrev pub invariant-loop-s : goal.invariant-loop-s
invariant-loop-s g l = record {
  same : l.walk.plan ≡ l.fn.plan;
  starts : (t : ℕ) → (g.G.Game.meaning l.walk.plan.game.now).start t ≡ true → marked l.walk.seen t ≡ true;
  done : (j : ℕ) → j < l.head → Followed (g.G.Game.meaning l.walk.plan.game.now) (ranking_in l.walk.plan.cells.now) l.walk.seen (get_or l.walk.queue.items j 0);
  within : l.head ≤ length l.walk.queue.items;
}

abbrev pub decreases-loop-s : goal.decreases-loop-s
decreases-loop-s g l = 4096 - l.head
