use Rattle.std.proofs.Common.{take}
use Rattle.writer.specs.Parts.{rows_bytes}
use Rattle.writer.proofs.Over.{Filled}
use Rattle.writer.proofs.Sound.put_states.Given as goal

abbrev pub invariant-loop-row : goal.invariant-loop-row
invariant-loop-row l = Filled (rows_bytes l.tables.names.now (take l.row-index l.tables.rows.now)) l.at l.initial.out l.out
