use Rattle.std.proofs.Common.{take}
use Rattle.std.specs.List.{flat_map}
use Rattle.writer.proofs.Over.{Filled}
use Rattle.writer.proofs.put_record.Given as goal

abbrev pub invariant-loop-part : goal.invariant-loop-part
invariant-loop-part l = Filled (flat_map (λ p. p.now) (take l.part-index l.parts)) l.at l.initial.out l.out
