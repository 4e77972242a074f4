use Rattle.std.proofs.Common.{◌≡◌, ◌-◌, ◌≤◌}
use Rattle.labelset.specs.Bits.{has_bit}
use Rattle.solver.specs.Run.{At}
use Rattle.solver.proofs.fill.Given as goal

abbrev pub invariant-loop-from : goal.invariant-loop-from
invariant-loop-from g l = record {
  at : At (g.G.Game.meaning l.board.game.now) (has_bit l.board.bars) l.rank l.from l.work;
  lent : l.work.cells.ghost_name ≡ l.initial.work.cells.ghost_name;
  low : l.rank ≤ l.from;
}

abbrev pub decreases-loop-from : goal.decreases-loop-from
decreases-loop-from g l = 4096 - l.from
