use Rattle.sheet.proofs.Leading.{next_is}
use Rattle.sheet.proofs.SheetGame.next.Goals as goal

pub returns : goal.returns
returns c = record { value = c.state_behind.ensures; leads = next_is c.args.self.now.rows.now c.args.self.now.moves.now c.args.state c.args.label c.state_behind.result c.state_behind.ensures }
