use Rattle.std.proofs.Common.{[]}
use Rattle.law.proofs.Laws.{word_final}
use Rattle.watch.specs.Lived.{log_of}
use Rattle.watch.proofs.session.watch_all.Goals as goal

pub returns-clause-word : goal.returns-clause-word
returns-clause-word g c = word_final (g.G.Game.meaning c.args.game) (g.G.Game.lawful c.args.game) (log_of c.carry_out.result c.args.calls.now c.carry_out.new.answers [])
