use Rattle.std.proofs.Common.{◌≡◌, List, IfOk, vec_items, subst, rules, tests}
use Rattle.std.proofs.lemmas.Iterator.{YieldsList-from_slice, items_from_collect}
use Rattle.std.proofs.lemmas.Iterator.Consumers.{YieldsList-from_filter_map}
use Rattle.law.specs.declared.Call.{Call}
use Rattle.console.proofs.Transcripts.{readable_is}
use Rattle.console.proofs.conversation.readable.Goals as goal

pub returns : goal.returns
returns c =
    subst (λ (qs : List Call). IfOk c.collect.result (λ v. vec_items v ≡ qs)) (readable_is c.args.lines.now)
    (items_from_collect _ c.collect.ensures.ran (YieldsList-from_filter_map _ (λ line. line) (YieldsList-from_slice c.args.lines.now cc) c.filter_map.ensures.closure (λ x r q k. search (rules, tests))))
