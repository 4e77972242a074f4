use Rattle.labelset.specs.Bits.{has_bit}
use Rattle.solver.specs.Links.{code_of}
use Rattle.solver.specs.Run.{Running, Moved, Followed}
use Rattle.solver.proofs.Walks.{Stop}
use Rattle.solver.proofs.layers.Layer.walk.Given as goal

abbrev pub invariant-loop-next : goal.invariant-loop-next
invariant-loop-next g l =
    let m = g.G.Game.meaning l.self.board.now.game.now in
    let b = has_bit l.self.board.now.bars in
    record {
      run : Running m b l.self.rank l.work;
      moved : Moved m b l.self.rank l.initial.work l.work;
      followed : Followed m b l.self.rank l.work.cells.now l.t (code_of l.next);
      stop : Stop m b l.t l.next;
    }

abbrev pub decreases-loop-next : goal.decreases-loop-next
decreases-loop-next g l = code_of l.next
