use Rattle.std.proofs.Common.{vec_items, string_bytes, ap, ◌∙◌}
use Rattle.console.specs.Conversation.{readable}
use Rattle.console.proofs.Answered.{conversed}
use Rattle.console.proofs.Back.{read_back}
use Rattle.console.proofs.conversation.converse.Goals as goal

pub returns : goal.returns
returns g c =
    let lines = c.in_ok-lines.ensures in
    record {
      told =
          conversed string_bytes (g.G.Game.meaning c.args.game) c.args.input.now c.as_slice-2.result.now c.as_slice-3.result.now (vec_items c.in_ok-answers.answers) c.as_slice-4.result.now c.show_answers.result
          (c.as_slice-2.ensures.value ∙ (c.in_ok-calls.ensures ∙ ap readable (c.as_slice.ensures.value ∙ lines))) c.in_ok-answers.ensures (c.as_slice-3.ensures.value ∙ lines) c.as_slice-4.ensures.value c.show_answers.ensures;
      complete = read_back;
    }
