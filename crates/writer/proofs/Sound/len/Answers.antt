use Rattle.std.proofs.Common.{arith}
use Rattle.writer.proofs.Rows.{few_moves, few_names, encode_length}
use Rattle.writer.proofs.Sound.len.Goals as goal

pub names_len-requires : goal.names_len-requires
names_len-requires c = omega (arith, few_names c.args.self.now)

pub overflow_add-result-2 : goal.overflow_add-result-2
overflow_add-result-2 c =
    let few = c.args.self.now.few in
    omega (arith, few, few_names c.args.self.now, c.names_len.ensures)

pub overflow_add-result-3 : goal.overflow_add-result-3
overflow_add-result-3 c =
    let few = c.args.self.now.few in
    omega (arith, few, few_names c.args.self.now, few_moves c.args.self.now, c.names_len.ensures)

pub returns : goal.returns
returns c = omega (arith, encode_length c.args.self.now, c.names_len.ensures)
