use Rattle.std.proofs.Common.{◌≡◌, List, [], length, take, subst, arith, length-take}
use Rattle.sheet.specs.declared.Row.{Row}
use Rattle.sheet.specs.declared.Move.{Move}
use Rattle.sheet.specs.Sheets.{sheet_meaning}
use Rattle.law.specs.Law.{Kept}
use Rattle.watch.specs.Lived.{logged}
use Rattle.worked.specs.House.{house_moves, house}
use Rattle.worked.proofs.Cases.{worked}
use Rattle.worked.proofs.Right.{kept_answers}
use Rattle.worked.proofs.ask_house.Goals as goal

pub returns-clause-right : goal.returns-clause-right
returns-clause-right c =
    let calls = c.args.calls.now in
    let r = c.watch_all.result in
    let told = take r c.watch_all.new.answers in
    let kept : Kept house (logged (take r calls) told []) =
    subst (λ (x : List Row). Kept (sheet_meaning x house_moves) (logged (take r calls) told [])) c.house_rows-rows.ensures
    (subst (λ (x : List Move). Kept (sheet_meaning c.house_rows-rows.result x) (logged (take r calls) told [])) c.house_moves-moves.ensures c.watch_all.ensures.law.right) in
    let long : length told ≡ length (take r calls) = omega (arith, length-take r c.watch_all.new.answers, length-take r calls, c.watch_all.ensures.value, c.watch_all.auto.answers) in
    kept_answers house (take r calls) told [] long kept

pub returns-clause-cases : goal.returns-clause-cases
returns-clause-cases c = worked
