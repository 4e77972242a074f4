use Rattle.std.proofs.Common.{◌≡◌, ◌≤◌, true, [], ◌∷◌, ◌++◌, IfOk, vec_items, None, refl, ap, ◌∙◌, sym, subst}
use Rattle.law.specs.declared.Call.TheVariants.{Plan}
use Rattle.law.specs.declared.Answer.TheVariants.{Planned}
use Rattle.law.specs.Answers.{ranking}
use Rattle.law.specs.Checks.{first_fault}
use Rattle.law.specs.Log.{Log, barred, stands}
use Rattle.watch.specs.Lived.{Lived, entry}
use Rattle.watch.proofs.Steps.{planned_anew}
use Rattle.listing.specs.Lines.{listing_text}
use Rattle.brief.specs.Brief.{lead, listing_brief, plan_brief}
use Rattle.brief.proofs.Listings.{no_fault}
use Rattle.brief.proofs.plan_line.Goals as goal

pub returns-in-Ok : goal.returns-in-Ok
returns-in-Ok g c =
    let meaning = g.G.Game.meaning in
    let m = meaning c.args.game in
    let planned = planned_anew meaning c.new-watch.ensures.same c.new-watch.ensures.lived c.in-Ok.ensures.same c.in-Ok.ensures.extends in
    let L : Log = entry Plan (Planned c.in-Ok.field-0) ∷ [] in
    let lists : Lived m L c.plan.new.self.memory → stands L ≡ true → m.size ≤ 4096 → vec_items c.in_ok-text-in-Ok.text ≡ listing_text m (ranking m (barred L)) =
    subst (λ x. Lived (meaning x) L c.plan.new.self.memory → stands L ≡ true → (meaning x).size ≤ 4096 → vec_items c.in_ok-text-in-Ok.text ≡ listing_text (meaning x) (ranking (meaning x) (barred L))) planned.0 (c.in_ok-text-in-Ok.ensures.listed L) in
    let sound : first_fault m ≡ None = ap (λ x. first_fault (meaning x)) (sym c.new-watch.ensures.same) ∙ no_fault _ _ _ _ c.plan.ensures.value c.in-Ok.is in
    let few : m.size ≤ 4096 = subst (λ x. (meaning x).size ≤ 4096) c.new-watch.ensures.same c.in-Ok.ensures.checked.few_states in
    let text = c.as_slice.ensures.value ∙ lists planned.1 refl few in
    subst (λ line. IfOk c.planned_line.result (λ v. vec_items v ≡ line))
    (ap (λ t. lead c.args.name.now c.args.size ++ listing_brief t) text ∙ ap (λ o. lead c.args.name.now c.args.size ++ plan_brief m o) (sym sound)) c.planned_line.ensures
