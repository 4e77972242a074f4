use Rattle.std.proofs.Common.{arith}
use Rattle.reader.proofs.Tailing.{moves_full}
use Rattle.reader.proofs.read_moves.Goals as goal

pub returns-in_err-read_tail-clause-value : goal.returns-in_err-read_tail-clause-value
returns-in_err-read_tail-clause-value c = grind (arith, moves_full)
