use Rattle.std.proofs.Common.{◌≡◌, ◌&&◌, leb, ℕ, List, Result, ◌∙◌, rules}
use Rattle.std.proofs.lemmas.Bool.{and_from, cond-true, le-leb}
use Rattle.law.specs.Answers.{ranking}
use Rattle.law.specs.Log.{Log, barred, stands}
use Rattle.law.proofs.Laws.{stands_sound}
use Rattle.watch.specs.Lived.{Lived}
use Rattle.listing.specs.declared.ListFault.{ListFault}
use Rattle.listing.specs.Answers.{listed}
use Rattle.listing.proofs.list.Goals as goal

pub returns-clause-standing : goal.returns-clause-standing
returns-clause-standing g c =
    let m = g.G.Game.meaning c.args.watch.now.game in
    let ok = g.G.Game.lawful c.args.watch.now.game in
    let lived : (L : Log) → Lived m L c.args.watch.now.memory → ◌≡◌ {A = Result ℕ ListFault × List ℕ} (c.list_cells.result, c.list_cells.new.out) (listed m (ranking m (barred L)) (stands L) c.args.out.now) = search rules in
    λ L old st. lived L old ∙ cond-true (stands L && leb m.size 4096) _ _ (and_from _ _ st (le-leb m.size 4096 (stands_sound m ok L old.kept st).few_states))
