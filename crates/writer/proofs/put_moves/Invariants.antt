use Rattle.std.proofs.Common.{take}
use Rattle.writer.specs.Parts.{moves_bytes}
use Rattle.writer.proofs.Over.{Filled}
use Rattle.writer.proofs.put_moves.Given as goal

abbrev pub invariant-loop-m : goal.invariant-loop-m
invariant-loop-m l = Filled (moves_bytes l.source (take l.m-index l.moves)) l.at l.initial.out l.out
