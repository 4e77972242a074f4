use Rattle.writer.proofs.Over.{Filled}
use Rattle.writer.proofs.Rows.{before}
use Rattle.writer.proofs.Sound.put_all_moves.Given as goal

abbrev pub invariant-loop-i : goal.invariant-loop-i
invariant-loop-i l = Filled (before l.rows l.moves l.i) l.at l.initial.out l.out
