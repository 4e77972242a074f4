use Rattle.std.proofs.Common.{vec_items, not, ap, ◌∙◌, rules}
use Rattle.console.proofs.Lines.{tested, ended, all_read, one_more_read}
use Rattle.console.proofs.conversation.read_calls.Goals as goal
use Rattle.console.proofs.conversation.read_calls.Goals.{then-is_none_or, else-is_none_or}

pub returns : goal.returns
returns c =
    let stands = ended c.args.input.now c.last.result c.is_none_or.result c.last.ensures.value
    (tested c.last.result c.is_none_or.result _ (λ b told. search rules) c.is_none_or.ensures) in
    elim c.if-is_none_or.branch [
      | then-is_none_or w ↦
          one_more_read c.args.input.now _ (vec_items c.in_ok-lines.lines) _ (stands ∙ ap not w.if-is_none_or.true) c.in_ok-lines.ensures (search rules) (ap vec_items w.lines-is ∙ w.pop.ensures.rest)
      | else-is_none_or w ↦ all_read c.args.input.now _ (stands ∙ ap not w.if-is_none_or.false) (ap vec_items w.lines-is ∙ c.in_ok-lines.ensures)
    ]
