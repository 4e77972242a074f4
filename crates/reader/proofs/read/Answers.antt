use Rattle.std.proofs.Common.{length, List, Result, sym, subst}
use Rattle.records.specs.declared.SheetFault.{SheetFault}
use Rattle.sheet.specs.declared.Row.{Row}
use Rattle.sheet.specs.declared.Move.{Move}
use Rattle.format.specs.declared.Counts.{Counts}
use Rattle.format.specs.Laws.{ReadExactly}
use Rattle.format.proofs.Laws.{exactly, read_inside}
use Rattle.reader.proofs.read.Goals as goal

pub returns-clause-exactly : goal.returns-clause-exactly
returns-clause-exactly c =
    let n = length c.args.rows.now in
    let m = length c.args.moves.now in
    subst (λ (t : Result Counts SheetFault × List Row × List Move). ReadExactly n m c.args.bytes.now t) (sym c.read_tables.ensures) (exactly n m c.args.bytes.now)

pub returns-clause-inside : goal.returns-clause-inside
returns-clause-inside c = read_inside _ _ c.args.bytes.now _ _ _ (returns-clause-exactly c)
