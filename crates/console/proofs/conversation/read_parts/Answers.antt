use Rattle.std.proofs.Common.{eqb, rules}
use Rattle.std.proofs.lemmas.Iterator.{YieldsList-from_map, items_from_collect}
use Rattle.std.proofs.lemmas.Iterator.Consumers.{YieldsList-at}
use Rattle.std.proofs.lemmas.Iterator.Splits.{YieldsList-from_slice_split}
use Rattle.console.specs.Calls.{call_of}
use Rattle.console.proofs.conversation.read_parts.Goals as goal

pub returns : goal.returns
returns c =
    items_from_collect _ c.collect.ensures.ran
    (YieldsList-from_map _ call_of
    (YieldsList-at c.map.ensures.source
    (YieldsList-from_slice_split _ (λ b. eqb b 10) c.args.input.now c.split.ensures.rest c.split.ensures.done c.split.ensures.closure (λ x r q k. search rules))) c.map.ensures.closure
    (λ x r q k. search rules))
