use Rattle.std.proofs.Common.{codes, sym, ap, arith, rules}
use Rattle.std.proofs.lemmas.Slice.Eq.{text_from_reads}
use Rattle.console.specs.Calls.{bare_call}
use Rattle.console.proofs.calls.bare_call.Goals as goal

pub returns-in-reply : goal.returns-in-reply
returns-in-reply c = ap bare_call (sym (text_from_reads c.args.line.now (codes "reply") (omega arith) (search rules)))

pub returns-in-leave : goal.returns-in-leave
returns-in-leave c = ap bare_call (sym (text_from_reads c.args.line.now (codes "leave") (omega arith) (search rules)))
