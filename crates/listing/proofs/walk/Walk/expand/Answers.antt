use Rattle.std.proofs.Common.{◌≡◌, true, sym, ◌∙◌, subst}
use Rattle.solver.specs.Cells.{ranking_in}
use Rattle.listing.specs.Reach.{reached}
use Rattle.listing.proofs.Reached.{reached_more}
use Rattle.listing.proofs.walk.Walk.expand.Goals as goal

pub visit-requires : goal.visit-requires
visit-requires g c =
    let p = c.args.self.now.plan in
    let more = reached_more (g.G.Game.meaning p.game.now) (g.G.Game.lawful p.game.now) (ranking_in p.cells.now) c.args.s c.loop-label.label c.in-Some.t c.requires (sym c.follow.ensures ∙ c.in-Some.is) in
    subst (λ p. reached (g.G.Game.meaning p.game.now) (ranking_in p.cells.now) c.in-Some.t ≡ true) (sym c.loop-label.invariant.later.same) more
