use Rattle.std.proofs.Common.{ℕ, ◌<◌, ◌≤◌, get_or}
use Rattle.labelset.specs.Bits.{has_bit}
use Rattle.solver.specs.Run.{Running, Moved, Followed}
use Rattle.solver.proofs.layers.Layer.settle.Given as goal

abbrev pub invariant-loop-i : goal.invariant-loop-i
invariant-loop-i g l =
    let m = g.G.Game.meaning l.self.board.now.game.now in
    let b = has_bit l.self.board.now.bars in
    record {
      run : Running m b l.self.rank l.work;
      moved : Moved m b l.self.rank l.initial.work l.work;
      followed : (j : ℕ) → l.lo ≤ j → j < l.i → Followed m b l.self.rank l.work.cells.now (get_or l.initial.work.queue.items j 0) 0;
    }
