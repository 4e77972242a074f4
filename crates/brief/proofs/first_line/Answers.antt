use Rattle.std.proofs.Common.{eqb, rules, tests}
use Rattle.std.proofs.lemmas.Iterator.{YieldsList-from_slice}
use Rattle.std.proofs.lemmas.Iterator.Search.{position_from_yields_List}
use Rattle.brief.proofs.Lines.{up_to_first}
use Rattle.brief.proofs.first_line.Goals as goal

pub returns : goal.returns
returns c =
    up_to_first (λ b. eqb b 10) c.args.text.now c.position.result _
    (position_from_yields_List (λ b. eqb b 10) _ _ _ c.position.ensures.ran (YieldsList-from_slice c.args.text.now cc) (λ x b q k. search (rules, tests))) (search rules)
