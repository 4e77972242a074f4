use Rattle.std.proofs.Common.{take, ap, ◌∙◌}
use Rattle.std.proofs.lemmas.List.{take_min}
use Rattle.planner.proofs.first.Goals as goal

pub returns : goal.returns
returns c = ap (λ n. take n c.args.input.now) c.min.ensures ∙ take_min 65536 c.args.input.now
