use Rattle.std.proofs.Common.{◌≡◌, ℕ, max, List, [], ◌∷◌, refl, sym, ap, ◌∙◌, unwrap_or, arith, rules}
use Rattle.std.specs.List.{fold, range_with_len}
use Rattle.std.proofs.iter.Yields.{nat_range_steps}
use Rattle.std.proofs.lemmas.List.Sums.{fold-append}
use Rattle.std.proofs.lemmas.Fn.{fold_over}
use Rattle.std.proofs.lemmas.Iterator.{YieldsList-from_range}
use Rattle.game.specs.Search.{highest}
use Rattle.law.specs.Answers.{start_rank}
use Rattle.solver.specs.Cells.{ranking_in}
use Rattle.solver.proofs.Finds.{highest_in}
use Rattle.solver.proofs.outcome.highest_rank.Goals as goal

pub returns : goal.returns
returns g c =
    let f : ℕ → _ = start_rank (g.G.Game.meaning c.args.game.now) (ranking_in c.args.cells.now).rank in
    let h : ℕ → ℕ → ℕ = λ top s. max top (unwrap_or (f s) 0) in
    let J : List ℕ → ℕ → Type 0 = λ xs top. top ≡ fold h 0 xs in
    let said : c.fold.result ≡ fold h 0 (range_with_len 0 c.size.result) = fold_over nat_range_steps (λ x. x) _ J _ (λ ys a x b f' at k. (let now : b ≡ h a x = search rules in now ∙ ap (λ t. h t x) at ∙ sym (fold-append h 0 ys (x ∷ [])), search rules)) (record { start = 0; end = c.size.result }) _ 0 c.fold.result (YieldsList-from_range 0 c.size.result c.size.result refl (omega arith)).runs refl c.fold.ensures.ran in
    said ∙ highest_in f c.size.result ∙ ap (highest f) c.size.ensures
