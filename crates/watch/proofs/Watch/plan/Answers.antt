use Rattle.std.proofs.Common.{◌≡◌, ◌≤◌, length, None, Ok, sym, refl, ap, ◌∙◌, subst, arith, rules}
use Rattle.std.proofs.lemmas.Bool.{and_from, le-leb}
use Rattle.game.specs.Ranks.{rank}
use Rattle.game.proofs.Winning.{none_endless}
use Rattle.law.specs.Checks.{first_fault}
use Rattle.law.specs.Answers.{plan_answer, plan_verdict}
use Rattle.law.specs.Verdicts.{VerdictIs}
use Rattle.law.proofs.Laws.{verdict_is}
use Rattle.law.proofs.Checked.{no_fault_sound, fault_is}
use Rattle.solver.proofs.Known.{solved_ranking}
use Rattle.solver.specs.Cells.{Solved}
use Rattle.watch.specs.declared.Table.{Table}
use Rattle.watch.specs.Memory.{bars_of}
use Rattle.watch.proofs.Steps.{plan_refused, plan_extends, plan_final}
use Rattle.watch.proofs.Watch.plan.Goals as goal

pub returns-in-Some-clause-extends : goal.returns-in-Some-clause-extends
returns-in-Some-clause-extends g c = plan_refused _ (g.G.Game.lawful c.args.self.now.game) _ _ c.in-Some.fault (sym c.find_fault.ensures ∙ c.in-Some.is) c.count_refusal.ensures

pub returns-in-Some-clause-checked : goal.returns-in-Some-clause-checked
returns-in-Some-clause-checked g c = fault_is _ (g.G.Game.lawful c.args.self.now.game) c.in-Some.fault (sym c.find_fault.ensures ∙ c.in-Some.is)

pub returns : goal.returns
returns g c =
    let m = g.G.Game.meaning c.args.self.now.game in
    let ok = g.G.Game.lawful c.args.self.now.game in
    let d = c.args.self.now.memory in
    let none : first_fault m ≡ None = sym c.find_fault.ensures ∙ c.in_default.is in
    let few : m.size ≤ 4096 = (no_fault_sound m ok none).few_states in
    let long : length d.table.cells ≡ 4096 = search rules in
    let t : Table = record { cells = c.solve.new.cells } in
    let solved : Solved m (bars_of d) t.cells = c.solve.ensures.solved (c.solve.ensures.answer ∙ and_from _ _ (le-leb m.size 4096 few) (le-leb m.size (length d.table.cells) (omega arith))) in
    let said : c.verdict.result ≡ plan_verdict m (rank m (bars_of d)) = c.verdict.ensures ∙ ap (λ ρ. plan_verdict m ρ.rank) (solved_ranking m (bars_of d) t.cells solved) in
    record {
      same = refl;
      value = ap Ok said ∙ sym (ap (λ o. plan_answer o (plan_verdict m (rank m (bars_of d)))) none);
      after = (refl, solved);
      extends = plan_extends m ok d t c.verdict.result c.verdict.ensures none solved;
      checked = no_fault_sound m ok none;
      word = subst (VerdictIs m (bars_of d)) (sym said) (verdict_is m ok (bars_of d) (no_fault_sound m ok none));
      finality = plan_final m ok (bars_of d) none;
      endless = none_endless m (bars_of d);
    }
