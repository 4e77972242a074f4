use Rattle.std.proofs.Common.{rules, not, is_some}
use Rattle.game.specs.Ranks.{leads_to}
use Rattle.game.proofs.Ranges.{find_below}
use Rattle.watch.specs.Memory.{ranking_of}
use Rattle.watch.proofs.Watch.witness.Goals as goal

pub returns : goal.returns
returns g c =
    let m = g.G.Game.meaning c.args.self.now.game in
    find_below _ _ m.ceiling c.labels.ensures (λ l. leads_to (m.next c.args.s l) (λ t. not (is_some ((ranking_of c.args.self.now.memory).rank t)))) _ c.find.result c.find.ensures.ran (λ x b q k. search rules)
