use Rattle.std.proofs.Common.{◌≡◌, ℕ, suc, ◌≤◌, length, sym, ap, subst, arith}
use Rattle.solver.specs.Cells.{ranking_in}
use Rattle.text.specs.Pages.{Adds}
use Rattle.text.proofs.Pages.{adds_room, adds_then}
use Rattle.listing.specs.Lines.{entry_text, line_of, lines_below}
use Rattle.listing.proofs.Texts.{lines_more, lines_longer, lines_fit}
use Rattle.listing.proofs.lines.Reached.put.Goals as goal

pub put_entry-requires : goal.put_entry-requires
put_entry-requires g c =
    let m = g.G.Game.meaning c.args.self.now.plan.game.now in
    let ρ = ranking_in c.args.self.now.plan.cells.now in
    let s : ℕ = c.loop-s.s in
    let in' : suc s ≤ m.size = omega (arith, c.size-s-end.ensures, c.loop-s-test.true) in
    let here : length (entry_text c.entry_of.result) ≡ length (line_of m ρ s) = ap (λ e. length (entry_text e)) c.entry_of.ensures in
    adds_room {xs = lines_below m ρ s} _ c.loop-s.invariant (omega (arith, here, lines_longer m ρ s, lines_fit m ρ (suc s) m.size in', c.requires))

pub loop-s-preserved : goal.loop-s-preserved
loop-s-preserved g c =
    let m = g.G.Game.meaning c.args.self.now.plan.game.now in
    let ρ = ranking_in c.args.self.now.plan.cells.now in
    let here = subst (λ e. Adds c.loop-s.page (entry_text e) c.put_entry.new.page) c.entry_of.ensures c.put_entry.ensures in
    subst (λ x. Adds c.args.page.now x c.put_entry.new.page) (sym (lines_more m ρ c.loop-s.s)) (adds_then {xs = lines_below m ρ c.loop-s.s} c.loop-s.invariant here)
