use Rattle.std.proofs.Common.{arith}
use Rattle.planner.proofs.Shown.{refusal_short}
use Rattle.planner.proofs.put_refusal.Goals as goal

pub returns-clause-short : goal.returns-clause-short
returns-clause-short c = refusal_short c.args.number c.args.first c.args.second (omega (arith, c.ranges.number.fits)) c.ranges.first.fits c.ranges.second.fits
