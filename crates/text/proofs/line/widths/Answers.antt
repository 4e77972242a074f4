use Rattle.std.proofs.Common.{arith}
use Rattle.text.proofs.Lines.{digits_few}
use Rattle.text.proofs.line.widths.Goals as goal

pub digits-requires : goal.digits-requires
digits-requires c = omega (arith, digits_few c.args.numbers.now c.type_inv.numbers)

pub overflow_add-result : goal.overflow_add-result
overflow_add-result c = omega (arith, digits_few c.args.numbers.now c.type_inv.numbers)

pub returns-clause-few : goal.returns-clause-few
returns-clause-few c = omega (arith, digits_few c.args.numbers.now c.type_inv.numbers)
