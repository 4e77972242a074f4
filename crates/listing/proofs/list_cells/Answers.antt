use Rattle.std.proofs.Common.{◌≡◌, true, ◌&&◌, leb, sym, ap, ◌∙◌, arith}
use Rattle.std.proofs.lemmas.Bool.{and_from, cond-true, le-leb}
use Rattle.solver.proofs.Known.{solved_ranking}
use Rattle.listing.specs.Answers.{listed}
use Rattle.listing.proofs.Right.{right}
use Rattle.listing.proofs.list_cells.Goals as goal

pub returns-then-size-le-MOST-clause-solved : goal.returns-then-size-le-MOST-clause-solved
returns-then-size-le-MOST-clause-solved g c =
    let m = g.G.Game.meaning c.args.game.now in
    let stands : (c.args.planned && leb m.size 4096) ≡ true = and_from _ _ c.if-planned.true (le-leb m.size 4096 (omega (arith, c.size.ensures))) in
    λ b h. c.list_plan.ensures ∙ sym (cond-true (c.args.planned && leb m.size 4096) _ _ stands) ∙ ap (λ ρ. listed m ρ c.args.planned c.args.out.now) (solved_ranking m b c.args.cells.now h)

pub returns-then-size-le-MOST-clause-right : goal.returns-then-size-le-MOST-clause-right
returns-then-size-le-MOST-clause-right g c = right (g.G.Game.meaning c.args.game.now) (g.G.Game.lawful c.args.game.now)

pub returns-else-planned-clause-right : goal.returns-else-planned-clause-right
returns-else-planned-clause-right g c = right (g.G.Game.meaning c.args.game.now) (g.G.Game.lawful c.args.game.now)
