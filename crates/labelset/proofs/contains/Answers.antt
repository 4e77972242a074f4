use Rattle.std.proofs.Common.{sym, ◌∙◌}
use Rattle.std.proofs.lemmas.Bool.{le-ltb}
use Rattle.labelset.proofs.Bits.{high_bit}
use Rattle.labelset.proofs.contains.Goals as goal

pub returns-else-label-lt-LABELS : goal.returns-else-label-lt-LABELS
returns-else-label-lt-LABELS c = le-ltb c.args.label 64 c.if-label-lt-LABELS.false ∙ sym (high_bit c.args.set c.args.label c.ranges.set.fits c.if-label-lt-LABELS.false)
