use Rattle.std.proofs.Common.{arith}
use Rattle.text.proofs.Lines.{length_line}
use Rattle.text.proofs.line.Line.width.Goals as goal

pub returns-clause-value : goal.returns-clause-value
returns-clause-value c = omega (arith, length_line c.args.self.now.lead.now c.args.self.now.numbers.now)
