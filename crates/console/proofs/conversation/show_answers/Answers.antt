use Rattle.std.proofs.Common.{not, List, string_bytes, Option, ap, ◌∙◌, rules}
use Rattle.std.proofs.lemmas.List.{at_drop_all}
use Rattle.law.specs.declared.Call.{Call}
use Rattle.console.specs.Conversation.{transcript}
use Rattle.console.proofs.Parts.{carried, settled}
use Rattle.console.proofs.Transcripts.{transcript_none, transcript_some, transcript_out}
use Rattle.console.proofs.conversation.show_answers.Goals as goal
use Rattle.console.proofs.conversation.show_answers.Goals.{then-is_none+in_ok-push_str, else-is_none+in-Some+in_ok-writeln, else-loop-line-test, then-loop-line-test+else-is_none+in_default}

pub loop-line-preserved : goal.loop-line-preserved
loop-line-preserved c =
    let lines = c.args.lines.now in
    let i = c.loop-line.line-index in
    let rest = c.loop-line.answers.rest.now in
    elim c.if-is_none.branch [
      | then-is_none+in_ok-push_str w ↦
          carried (string_bytes c.loop-line.text) _ _ _ _ _ (ap string_bytes w.text-is ∙ w.in_ok-push_str.ensures.bytes)
          (transcript_none lines rest i c.loop-line-test.true (c.is_none.ensures ∙ ap not w.if-is_none.true) ∙ cc) c.loop-line.invariant
      | else-is_none+in-Some+in_ok-writeln w ↦
          carried (string_bytes c.loop-line.text) _ _ _ _ _ (ap string_bytes w.text-is ∙ w.in_ok-writeln.ensures.bytes)
          (transcript_some lines rest w.in-Some.answer.now c.if-is_none.answers.rest.now i c.loop-line-test.true (cc w.in-Some.ensures.steps) (c.is_none.ensures ∙ ap not w.if-is_none.false)) c.loop-line.invariant
    ]

pub returns : goal.returns
returns c =
    let lines = c.args.lines.now in
    let i = c.loop-line.line-index in
    let rest = c.loop-line.answers.rest.now in
    elim c.loop-line-test.branch [
      | else-loop-line-test w ↦ settled _ _ _ (at_drop_all (λ (ls : List (Option Call)). transcript ls rest) lines i w.loop-line-test.false) c.loop-line.invariant
      | then-loop-line-test+else-is_none+in_default w ↦
          settled _ _ _ (transcript_out lines rest i w.loop-line-test.true (search rules) (w.is_none.ensures ∙ ap not w.if-is_none.false)) c.loop-line.invariant
    ]
