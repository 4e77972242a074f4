use Rattle.std.proofs.Common.{rules, refl, arith, Ok}
use Rattle.std.specs.Prelude.{⊤}
use Rattle.std.proofs.lemmas.Iterator.{items_from_collect, YieldsList-from_map, YieldsList-from_range}
use Rattle.std.proofs.lemmas.Iterator.Consumers.{YieldsList-at}
use Rattle.sample.specs.Sample.{chain_row}
use Rattle.sample.proofs.chain.Goals as goal

-- each item is what the closure makes of its number
pub returns-clause-rows : goal.returns-clause-rows
returns-clause-rows c = items_from_collect {E = ⊤} (Ok c.in_ok-rows.rows) c.in_ok-rows.ensures.ran (YieldsList-from_map _ (chain_row c.args.size) (YieldsList-at c.map.ensures.source (YieldsList-from_range 0 c.args.size c.args.size refl (omega arith))) c.map.ensures.closure (λ x r q k. search rules))
