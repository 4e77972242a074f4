use Rattle.std.proofs.Common.{◌≡◌, ℕ, ◌<◌, true}
use Rattle.listing.specs.Walks.{marked}
use Rattle.listing.proofs.walk.Walk.begin.Given as goal

abbrev pub invariant-loop-s : goal.invariant-loop-s
invariant-loop-s g l = record {
  same : l.self.plan ≡ l.fn.self.plan;
  starts : (t : ℕ) → t < l.s → (g.G.Game.meaning l.fn.self.plan.game.now).start t ≡ true → marked l.self.seen t ≡ true;
}
