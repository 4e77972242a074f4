use Rattle.std.proofs.Common.{◌≡◌}
use Rattle.solver.specs.Run.{Begun}
use Rattle.solver.proofs.board.Board.begin.Given as goal

abbrev pub invariant-loop-s : goal.invariant-loop-s
invariant-loop-s g l = record {
  begun : Begun (g.G.Game.meaning l.self.game.now) l.s l.work;
  lent : l.work.cells.ghost_name ≡ l.initial.work.cells.ghost_name;
}
