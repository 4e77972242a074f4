use Rattle.std.proofs.Common.{◌≡◌, ℕ, List, ◌++◌, codes, Ok, Result, ◌∙◌, ap, rules}
use Rattle.solver.specs.Cells.{ranking_in}
use Rattle.law.specs.declared.Verdict.TheVariants.{Held}
use Rattle.text.specs.Lines.{count_line}
use Rattle.text.proofs.Places.{put_written, written_then}
use Rattle.listing.specs.declared.ListFault.{ListFault}
use Rattle.listing.specs.Answers.{put_whole}
use Rattle.listing.specs.Lines.{lines_below, text_after}
use Rattle.listing.proofs.Texts.{put_in}
use Rattle.listing.proofs.list_held.Goals as goal

pub returns : goal.returns
returns g c =
    let out = c.args.out.now in
    let plan = c.reach-reached.result.plan in
    let text : List ℕ = count_line (codes "HELD ") c.from.result ++ lines_below (g.G.Game.meaning plan.game.now) (ranking_in plan.cells.now) (g.G.Game.meaning plan.game.now).size in
    let page = c.put-2.new.page in
    let first = put_written 0 (count_line (codes "HELD ") c.from.result) out c.put.ensures.placed c.put.ensures.moved c.unwrap.ensures in
    let all : ◌≡◌ {A = Result ℕ ListFault × List ℕ} (Ok page.at, page.out.now) (put_whole text out) = put_in text out page.out.now page.at (written_then first c.put-2.ensures.written) in
    let same : put_whole text out ≡ put_whole (text_after (g.G.Game.meaning c.args.plan.game.now) (ranking_in c.args.plan.cells.now) (Held c.args.top)) out =
    ap (λ p. put_whole (text_after (g.G.Game.meaning p.game.now) (ranking_in p.cells.now) (Held c.from.result)) out) c.reach-reached.ensures
    ∙ ap (λ n. put_whole (text_after (g.G.Game.meaning c.args.plan.game.now) (ranking_in c.args.plan.cells.now) (Held n)) out) c.from.ensures in
    ap (λ (o : List ℕ). (Ok page.at, o)) (search rules) ∙ (all ∙ same)
