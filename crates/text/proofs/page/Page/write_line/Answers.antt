use Rattle.text.proofs.Pages.{adds_then}
use Rattle.text.proofs.page.Page.write_line.Goals as goal

pub returns : goal.returns
returns c = adds_then c.write.ensures (adds_then c.write_numbers.ensures c.write-2.ensures)
