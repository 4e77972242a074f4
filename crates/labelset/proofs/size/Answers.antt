use Rattle.labelset.proofs.Bits.{ones_many}
use Rattle.labelset.proofs.size.Goals as goal

pub returns : goal.returns
returns c = ones_many 64 c.args.set c.ranges.set.fits
