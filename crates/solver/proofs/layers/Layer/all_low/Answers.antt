use Rattle.std.proofs.Common.{rules, ◌≡◌, ℕ, Bool, true, false, ◌==◌, ap, ◌∙◌, arith}
use Rattle.std.proofs.lemmas.Iterator.{first_from_Range}
use borrow.Author.Tests.{tests}
use Rattle.game.specs.Search.{all_below}
use Rattle.game.specs.Ranks.{none_or}
use Rattle.solver.specs.Known.{low}
use Rattle.solver.proofs.Finds.{Passes, stop_in}
use Rattle.solver.proofs.layers.Layer.all_low.Goals as goal

pub returns : goal.returns
returns g c =
    let m = g.G.Game.meaning c.args.self.now.board.now.game.now in
    let q : ℕ → Bool = λ l. none_or (m.next c.args.s l) (low c.args.cells.now c.args.self.now.rank) in
    let stops : Passes q c.labels-labels.result _ = stop_in q c.args.pointer.now c.labels-labels.result c.find.result (rw c.labels-labels.ensures c.requires.0) c.requires.1 (first_from_Range _ _ _ _ (λ k. q k ≡ false) (λ k. q k ≡ true) c.find.ensures.ran (λ x q k. search (rules, tests)) (λ x q k. search (rules, tests)))
    in record {
      pointer = (omega (arith, c.unwrap_or.ensures, stops.few, c.labels-labels.ensures), ap (all_below q) c.unwrap_or.ensures ∙ stops.passes);
      value = ap (λ x. x == c.labels-labels.result) c.unwrap_or.ensures ∙ stops.value ∙ ap (all_below q) c.labels-labels.ensures;
    }
