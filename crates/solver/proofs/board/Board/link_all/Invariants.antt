use Rattle.std.proofs.Common.{◌*◌}
use Rattle.labelset.specs.Bits.{has_bit}
use Rattle.solver.specs.Arcs.{Linked}
use Rattle.solver.proofs.board.Board.link_all.Given as goal

abbrev pub invariant-loop-s : goal.invariant-loop-s
invariant-loop-s g l = Linked (g.G.Game.meaning l.self.game.now) (has_bit l.self.bars) (l.s * 64) l.preds.heads l.preds.links
