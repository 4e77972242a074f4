use Rattle.std.proofs.Common.{◌≡◌, ◌++◌, drop, string_bytes}
use Rattle.console.specs.Conversation.{transcript}
use Rattle.console.proofs.conversation.show_answers.Given as goal

-- the text so far, and then that of what is left
abbrev pub invariant-loop-line : goal.invariant-loop-line
invariant-loop-line l = string_bytes l.text ++ transcript (drop l.line-index l.lines) l.answers.rest.now ≡ transcript l.lines l.fn.answers
