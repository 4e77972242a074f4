use Rattle.std.proofs.Common.{get_or, take, decimal}
use Rattle.text.specs.Pages.{Adds}
use Rattle.text.proofs.Lines.{spaced_on}
use Rattle.text.proofs.page.Page.write_numbers.Given as goal

abbrev pub invariant-loop-n : goal.invariant-loop-n
invariant-loop-n l = Adds l.fn.self (spaced_on (decimal (get_or l.numbers 0 0)) (take l.n-index l.more)) l.self
