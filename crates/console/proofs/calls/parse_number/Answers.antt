use Rattle.std.proofs.Common.{ℕ, Bor, sym, refl, ap, ◌∙◌, arith, rules, tests}
use Rattle.std.proofs.iter.Yields.{fronts}
use Rattle.std.proofs.lemmas.Iterator.{YieldsList-from_slice}
use Rattle.console.specs.Calls.{clamped, most_state}
use Rattle.console.proofs.Folds.{folded}
use Rattle.console.proofs.Numerals.{more_clamped, clamped_on, numeral_of_some}
use Rattle.console.proofs.calls.parse_number.Goals as goal

pub returns : goal.returns
returns c =
    let ran = c.try_fold.ensures.ran in
    let ds = c.args.digits.now in
    folded (more_clamped most_state) _ fronts (λ (x : Bor ℕ). x.now) _ _ _ (λ b x w q k. search rules) c.try_fold.result ds ran.0 ran.1 c.iter.result _ ran.2 0 ran.3 (YieldsList-from_slice {s = c.iter.result} ds cc).runs ran.4 refl ran.5 ran.6
    ∙ (clamped_on most_state ds 0 (omega arith) ∙ ap (clamped most_state) (sym (numeral_of_some ds (search (rules, tests)))))
