-- Every list of calls with right answers may be relied on.
use Rattle.std.proofs.Common.{◌≡◌, ℕ, zero, suc, ◌+◌, ◌≤◌, Bool, true, false, cond, not, ◌&&◌, eqb, List, [], ◌∷◌, ◌++◌, is_some, Some, None, Ok, Option, Result, unwrap_or, sym, refl, ap, ◌∙◌, subst, inl, inr, ⊎_elim, arith}
use mathlib.Core.Path.{fun_ext}
use Rattle.std.proofs.lemmas.Bool.{cases_Bool, cond-true, cond-false, and_parts, and_from, or_cases, or_right, not-true, not-false, not_from_false, not_from_true, both_ways, lt-ltb, eqb-true}
use Rattle.game.specs.Meaning.{Meaning, Lawful, done, feasible, Step}
use Rattle.game.specs.Search.{first_below, highest}
use Rattle.game.specs.Ranks.{Bars, rank, choice, witness}
use Rattle.game.specs.Strategies.{Move, at, Strategy, WinsWithin}
use Rattle.game.specs.Final.{Final, Unblocked, TakesWitness}
use Rattle.law.specs.declared.Call.{Call}
use Rattle.law.specs.declared.Call.TheVariants.{Plan, Open, Reply, Report, Rate, Bar, Lift, Look, Leave}
use Rattle.law.specs.declared.Answer.{Answer}
use Rattle.law.specs.declared.Answer.TheVariants.{Planned, Opened, Replied, Reported, Rated, Refused}
use Rattle.law.specs.declared.Fault.{Fault}
use Rattle.law.specs.declared.Fault.TheVariants.{NoState, NotFeasible, RunOpen, RunOver, OtherTurn, NoPlan, NoRank}
use Rattle.law.specs.declared.Verdict.{Verdict}
use Rattle.law.specs.Verdicts.{HeldIs, LostIs, VerdictIs}
use Rattle.law.specs.declared.Verdict.TheVariants.{Held}
use Rattle.law.specs.declared.Rating.{Rating}
use Rattle.law.specs.declared.Rating.TheVariants.{LostEnd, LostKiosk, LostPublic}
use Rattle.law.specs.Checks.{first_fault, Sound}
use Rattle.law.specs.Answers.{ranking, refuse_if, or_fault, verdict, lost_start, start_rank, plan_verdict, plan_answer, with_rank, rank_of, chosen_move, reply_answer, report_answer, rating, rating_at}
use Rattle.law.specs.Log.{Entry, Log, accepted, says, barred, changes, is_plan, stands, position, is_move, accepted_moves, breaks_off, behind, answered_label, moved}
use Rattle.law.specs.Law.{answered, replied, answer, Kept, Would, PlanIsFinal, WordIsFinal, Undisturbed, RunEnds, TakesRated, LossWitnessed, Law, OverOrOn}
use Rattle.game.proofs.Meanings.{start_inside, public_inside, step_feasible, feasible_step}
use Rattle.game.proofs.Searches.{none_some, same_some, option_cases, first_none, first_all, highest_ge, highest_le, first_is, some_is}
use Rattle.game.proofs.Rules.{zero_done, goes_on}
use Rattle.game.proofs.Winning.{no_strategy_better, done_goal, choice_has, choice_is, public_down, witness_has, witness_wins, final}
use Rattle.law.proofs.Checked.{no_fault_sound, sound_no_fault}

pub sound_unblocked : (m : Meaning) → Lawful m → Sound m → Unblocked m
sound_unblocked m ok h s pub' ne = h.has_moves s (public_inside m ok s pub') ne

-- a longer bound will do
pub longer : {m : Meaning} {b : Bars} {w : Strategy m b} {k n s : ℕ} → k ≤ n → WinsWithin m b w k s → WinsWithin m b w n s
longer le win = record { short = λ h f. omega (arith, win.short h f); at_goal = win.at_goal }

-- Plan

held_not_refused : {n : ℕ} {f : Fault} → Refused f ≡ Planned (Held n) → ⊥
held_not_refused e = let z : ◌≡◌ {A = ℕ} 0 1 = cc in omega arith

module _ (m : Meaning) (ok : Lawful m) (b : Bars) where
  -- what plan answers where it finds the fault o, or none
  abbrev pub planned : Option Fault → Answer
  planned o = answered Planned (plan_answer o (plan_verdict m (rank m b)))

  pub accepted_plan : (o : Option Fault) → accepted (planned o) ≡ true → o ≡ None
  accepted_plan None e = refl
  accepted_plan (Some f) e = absurd (both_ways false refl e)

  pub plan_accepted : (o : Option Fault) → o ≡ None → accepted (planned o) ≡ true
  plan_accepted o e = ap (λ x. accepted (planned x)) e

  -- what is planned where no fault is found
  planned_is : (o : Option Fault) (v : Verdict) → planned o ≡ Planned v → (o ≡ None) × (plan_verdict m (rank m b) ≡ v)
  planned_is None v e = (refl, cc)
  planned_is (Some f) v e = let z : ◌≡◌ {A = ℕ} 0 1 = cc in absurd (omega arith)

  verdict_held : (o : Option ℕ) (n k : ℕ) → Planned (verdict o n) ≡ Planned (Held k) → (o ≡ None) × (n ≡ k)
  verdict_held None n k e = (refl, cc)
  verdict_held (Some s) n k e = let z : ◌≡◌ {A = ℕ} 0 1 = cc in absurd (omega arith)

  pub record HeldFacts (n : ℕ) : Type 0 where
    pub ranked_starts : (s : ℕ) → m.start s ≡ true → (r : ℕ) × (rank m b s ≡ Some r) × (r ≤ n)
    pub reached : (k : ℕ) → ((s r : ℕ) → m.start s ≡ true → rank m b s ≡ Some r → r ≤ k) → n ≤ k

  start_rank_is : (s r : ℕ) → m.start s ≡ true → rank m b s ≡ Some r → start_rank m (rank m b) s ≡ Some r
  start_rank_is s r st e = cond-true (m.start s) (rank m b s) None st ∙ e

  is_start_rank : (s r : ℕ) → start_rank m (rank m b) s ≡ Some r → (m.start s ≡ true) × (rank m b s ≡ Some r)
  is_start_rank s r e =
      ⊎_elim
      (λ st. (st, sym (cond-true (m.start s) (rank m b s) None st) ∙ e))
      (λ ns. absurd (none_some (cond-false (m.start s) (rank m b s) None ns) e))
      (cases_Bool (m.start s))

  pub held_facts : (n : ℕ) → planned None ≡ Planned (Held n) → HeldFacts n
  held_facts n e =
      let both = verdict_held (first_below (lost_start m (rank m b)) m.size) (highest (start_rank m (rank m b)) m.size) n e in
      record {
        ranked_starts = λ s st. ⊎_elim
            (λ un. absurd (both_ways _ (first_none (lost_start m (rank m b)) m.size both.0 s (start_inside m ok s st)) (and_from _ _ st (not_from_false _ (ap is_some un)))))
            (λ has. (has.0, has.1, omega (arith, highest_ge (start_rank m (rank m b)) m.size s has.0 (start_inside m ok s st) (start_rank_is s has.0 st has.1), both.1)))
            (option_cases (rank m b s));
        reached = λ k h. omega (arith, highest_le (start_rank m (rank m b)) m.size k (λ s r lt e. let f = is_start_rank s r e in h s r f.0 f.1), both.1);
      }

  pub all_ranked_held : ((s : ℕ) → m.start s ≡ true → is_some (rank m b s) ≡ true) → (n : ℕ) × (planned None ≡ Planned (Held n))
  all_ranked_held h =
      let none = first_all (lost_start m (rank m b)) m.size (λ s lt. ⊎_elim
      (λ yes'. let both = and_parts _ _ yes' in absurd (both_ways _ (not-true _ both.1) (h s both.0)))
      (λ no'. no')
      (cases_Bool ((lost_start m (rank m b)) s))) in
      (highest (start_rank m (rank m b)) m.size, ap (λ o. Planned (verdict o (highest (start_rank m (rank m b)) m.size))) none)

-- What the verdict says

module _ (m : Meaning) (ok : Lawful m) (b : Bars) (sound : Sound m) where
  abbrev facts : Final m b
  facts = final m ok (sound_unblocked m ok sound) b

  abbrev lost : ℕ → Bool
  lost = lost_start m (rank m b)

  abbrev top : ℕ
  top = highest (start_rank m (rank m b)) m.size

  -- a start that is not lost has a rank
  ranked : (s : ℕ) → m.start s ≡ true → lost s ≡ false → (r : ℕ) × (rank m b s ≡ Some r)
  ranked s st fine = ⊎_elim (λ un. absurd (both_ways _ fine (and_from _ _ st (not_from_false _ (ap is_some un))))) (λ has. has) (option_cases (rank m b s))

  below_top : (s r : ℕ) → m.start s ≡ true → rank m b s ≡ Some r → r ≤ top
  below_top s r st e = highest_ge (start_rank m (rank m b)) m.size s r (start_inside m ok s st) (cond-true (m.start s) (rank m b s) None st ∙ e)

  held_is : first_below lost m.size ≡ None → HeldIs m b top
  held_is none = record {
    strategy = facts.choices_win.0;
    by_choices = facts.choices_win.1;
    wins = λ s st. let has = ranked s st (first_none lost m.size none s (start_inside m ok s st)) in longer (below_top s has.0 st has.1) (facts.choices_win.2 s has.0 has.1);
    least = λ w k win. highest_le (start_rank m (rank m b)) m.size k (λ s r lt e.
        let is = is_start_rank m ok b s r e in
        let got = facts.none_better w k s (win s is.0) in
        omega (arith, same_some is.1 got.1, got.2));
  }

  lost_is : (q : ℕ) → first_below lost m.size ≡ Some q → LostIs m b q
  lost_is q found =
      let low = first_is lost m.size q found in
      let both = and_parts (m.start q) _ low.passes in
      record {
        start = both.0;
        hopeless = λ w win. both_ways _ (not-true _ both.1) (some_is (facts.none_better w win.0 q win.1).1);
        lowest = λ s lt st. let has = ranked s st (low.lowest s lt) in (facts.choices_win.0, (has.0, facts.choices_win.2 s has.0 has.1));
      }

  pub verdict_is : VerdictIs m b (plan_verdict m (rank m b))
  verdict_is = go (first_below lost m.size) refl
    where
      go : (o : Option ℕ) → first_below lost m.size ≡ o → VerdictIs m b (verdict o top)
      go None e = held_is e
      go (Some q) e = lost_is q e

module _ (m : Meaning) (ok : Lawful m) (L : Log) where
  held_fault : (o : Option Fault) (n : ℕ) → planned m ok (barred L) o ≡ Planned (Held n) → o ≡ None
  held_fault None n e = refl
  held_fault (Some f) n e = absurd (held_not_refused e)

  would_sound : Would m L Plan → first_fault m ≡ None
  unfolding answer
  would_sound e = accepted_plan m ok (barred L) (first_fault m) e

  pub word_final : WordIsFinal m L
  unfolding answer
  word_final v e =
      let both = planned_is m ok (barred L) (first_fault m) v e in
      subst (VerdictIs m (barred L)) both.1 (verdict_is m ok (barred L) (no_fault_sound m ok both.0))

  pub plan_final : PlanIsFinal m L
  unfolding answer
  plan_final = record {
    accepted_if_sound = λ h. plan_accepted m ok (barred L) (first_fault m) (sound_no_fault m ok h);
    sound_if_accepted = λ e. no_fault_sound m ok (would_sound e);
    held_if_won = λ e w win.
        let none = would_sound e in
        let unblocked = sound_unblocked m ok (no_fault_sound m ok none) in
        let got = all_ranked_held m ok (barred L) (λ s st. let one = win s st in ap is_some (no_strategy_better m ok (barred L) unblocked w one.0 s one.1).1) in
        (got.0, ap (planned m ok (barred L)) none ∙ got.1);
    won_if_held = λ n e. let held = word_final (Held n) e in (held.strategy, held.wins);
    no_sooner = λ n e. (word_final (Held n) e).least;
  }

-- Runs

pub past : {A : Type 0} (f : A → Answer) (c : Bool) (e : Fault) (r : Result A Fault) → accepted (answered f (refuse_if c e r)) ≡ true → (c ≡ false) × (refuse_if c e r ≡ r) × (accepted (answered f r) ≡ true)
past f true e r h = absurd (both_ways false refl h)
past f false e r h = (refl, refl, h)

pub through : {A : Type 0} (f : A → Answer) (c : Bool) (e : Fault) (r : Result A Fault) → c ≡ false → accepted (answered f r) ≡ true → accepted (answered f (refuse_if c e r)) ≡ true
through f true e r no' h = absurd (both_ways true no' refl)
through f false e r no' h = h

plan_call : (c : Call) → is_plan c ≡ true → c ≡ Plan
plan_call Plan e = refl
plan_call (Open s) e = absurd (both_ways false refl e)
plan_call Reply e = absurd (both_ways false refl e)
plan_call (Report l) e = absurd (both_ways false refl e)
plan_call (Rate s) e = absurd (both_ways false refl e)
plan_call (Bar l) e = absurd (both_ways false refl e)
plan_call (Lift l) e = absurd (both_ways false refl e)
plan_call Look e = absurd (both_ways false refl e)
plan_call Leave e = absurd (both_ways false refl e)

module _ (m : Meaning) (ok : Lawful m) where
  -- where a plan stands, one was accepted, so the game has no fault
  pub stands_sound : (L : Log) → Kept m L → stands L ≡ true → Sound m
  stands_sound [] k e = absurd (both_ways false refl e)
  stands_sound (x ∷ L) k e =
      ⊎_elim
      (λ acc. ⊎_elim
      (λ plan. no_fault_sound m ok (would_sound m ok L (ap (λ c. accepted (answer m L c)) (sym (plan_call x.asked plan)) ∙ sym (ap accepted k.1) ∙ acc)))
      (λ old. stands_sound L k.0 (and_parts _ _ old).0)
      (or_cases (is_plan x.asked) _ (sym (cond-true (accepted x.told) _ _ acc) ∙ e)))
      (λ ref. stands_sound L k.0 (sym (cond-false (accepted x.told) _ _ ref) ∙ e))
      (cases_Bool (accepted x.told))

  -- a run under a plan, at a ranked position
  pub record Runs (L : Log) (left : ℕ) : Type 0 where
    pub place : ℕ
    pub here : position m L ≡ Some place
    pub ranked : rank m (barred L) place ≡ Some left
    pub plan : stands L ≡ true

  refused_keeps : (L : Log) (x : Entry) (left : ℕ) → accepted x.told ≡ false → Runs L left → Runs (x ∷ L) left
  refused_keeps L x left ref run = record {
    place = run.place;
    here = cond-false (accepted x.told) _ _ ref ∙ run.here;
    ranked = ap (λ b. rank m b run.place) (fun_ext (λ l. cond-false (accepted x.told) (unwrap_or (says x.asked l) (barred L l)) (barred L l) ref)) ∙ run.ranked;
    plan = cond-false (accepted x.told) _ _ ref ∙ run.plan;
  }

  pub same_bars : (b : Bars) (c : Call) → changes b c ≡ false → (l : ℕ) → unwrap_or (says c l) (b l) ≡ b l
  same_bars b Plan h l = refl
  same_bars b (Open s) h l = refl
  same_bars b Reply h l = refl
  same_bars b (Report x) h l = refl
  same_bars b (Rate s) h l = refl
  same_bars b (Bar x) h l = ⊎_elim (λ e. ap (λ t. unwrap_or (cond t (Some true) None) (b l)) e ∙ sym (ap b (sym (eqb-true x l e)) ∙ not-false _ h)) (λ e. ap (λ t. unwrap_or (cond t (Some true) None) (b l)) e) (cases_Bool (eqb x l))
  same_bars b (Lift x) h l = ⊎_elim (λ e. ap (λ t. unwrap_or (cond t (Some false) None) (b l)) e ∙ sym (ap b (sym (eqb-true x l e)) ∙ h)) (λ e. ap (λ t. unwrap_or (cond t (Some false) None) (b l)) e) (cases_Bool (eqb x l))
  same_bars b Look h l = refl
  same_bars b Leave h l = refl

  bars_kept : (L : Log) (x : Entry) → accepted x.told ≡ true → changes (barred L) x.asked ≡ false → barred (x ∷ L) ≡ barred L
  bars_kept L x acc h = fun_ext (λ l. cond-true (accepted x.told) (unwrap_or (says x.asked l) (barred L l)) (barred L l) acc ∙ same_bars (barred L) x.asked h l)

  plan_kept : (L : Log) (x : Entry) → accepted x.told ≡ true → changes (barred L) x.asked ≡ false → stands L ≡ true → stands (x ∷ L) ≡ true
  plan_kept L x acc h st = cond-true (accepted x.told) _ _ acc ∙ or_right (is_plan x.asked) _ (and_from _ _ st (not_from_false _ h))

  -- an accepted call that leaves the bars takes the run to t
  goes_to : (L : Log) (x : Entry) (left left' t : ℕ) → accepted x.told ≡ true → changes (barred L) x.asked ≡ false → Runs L left → moved m x.asked x.told (position m L) ≡ Some t → rank m (barred L) t ≡ Some left' → Runs (x ∷ L) left'
  goes_to L x left left' t acc h run mv rk = record {
    place = t;
    here = cond-true (accepted x.told) _ _ acc ∙ mv;
    ranked = ap (λ b. rank m b t) (bars_kept L x acc h) ∙ rk;
    plan = plan_kept L x acc h run.plan;
  }

  with_rank_is : (l : ℕ) (o : Option ℕ) → accepted (answered replied (with_rank l o)) ≡ true → (r : ℕ) × (answered replied (with_rank l o) ≡ Replied l r)
  with_rank_is l None e = absurd (both_ways false refl e)
  with_rank_is l (Some r) e = (r, refl)

  chosen_is : (b : Bars) (p : ℕ) (o : Option ℕ) → accepted (answered replied (chosen_move m (ranking m b) p o)) ≡ true → (l : ℕ) × (r : ℕ) × (o ≡ Some l) × (answered replied (chosen_move m (ranking m b) p o) ≡ Replied l r)
  chosen_is b p None e = absurd (both_ways false refl e)
  chosen_is b p (Some l) e = let got = with_rank_is l (rank_of (ranking m b) (m.next p l)) e in (l, got.0, refl, got.1)

  reply_is : (b : Bars) (st : Bool) (p : ℕ) → accepted (answered replied (reply_answer m (ranking m b) st (Some p))) ≡ true → (l : ℕ) × (r : ℕ) × (choice m b p ≡ Some l) × (answered replied (reply_answer m (ranking m b) st (Some p)) ≡ Replied l r)
  reply_is b st p e =
      let one = past replied (done m p) RunOver _ e in
      let two = past replied (m.public p) OtherTurn _ one.2 in
      let three = past replied (not st) NoPlan _ two.2 in
      let four = past replied (not (is_some (rank m b p))) NoRank _ three.2 in
      let got = chosen_is b p (choice m b p) four.2 in
      (got.0, got.1, got.2, ap (answered replied) (one.1 ∙ two.1 ∙ three.1 ∙ four.1) ∙ got.3)

  pub report_to : (p l : ℕ) → accepted (answered Reported (report_answer m (Some p) l)) ≡ true → report_answer m (Some p) l ≡ or_fault NotFeasible (m.next p l)
  report_to p l e =
      let one = past Reported (done m p) RunOver _ e in
      let two = past Reported (not (m.public p)) OtherTurn _ one.2 in
      let three = past Reported (not (feasible m p l)) NotFeasible _ two.2 in
      one.1 ∙ two.1 ∙ three.1

  pub report_is : (p l : ℕ) → accepted (answered Reported (report_answer m (Some p) l)) ≡ true → (t : ℕ) × (m.public p ≡ true) × Step m p l t
  report_is p l e =
      let one = past Reported (done m p) RunOver _ e in
      let two = past Reported (not (m.public p)) OtherTurn _ one.2 in
      let three = past Reported (not (feasible m p l)) NotFeasible _ two.2 in
      let to = feasible_step m ok p l (not-false _ three.0) in
      (to.0, not-false _ two.0, to.1)

  -- one more call
  Next : Log → Call → Answer → ℕ → Type 0
  Next L c a left = (left' : ℕ) × Runs (record { asked = c; told = a } ∷ L) left' × (cond (accepted a && is_move c) 1 0 + left' ≤ left)

  next : (L : Log) (left : ℕ) (c : Call) (a : Answer) → Runs L left → a ≡ answer m L c → accepted a ≡ true → changes (barred L) c ≡ false → breaks_off c ≡ false → Next L c a left
  unfolding answer Next
  next L left Plan a run e acc ch lv = (left, goes_to L _ left left run.place acc ch run run.here run.ranked, simp acc (omega arith))
  next L left (Open s) a run e acc ch lv = absurd (both_ways _ (past Opened (is_some (position m L)) RunOpen _ (sym (ap accepted e) ∙ acc)).0 (ap is_some run.here))
  next L left Reply a run e acc ch lv =
      let at_run : a ≡ answered replied (reply_answer m (ranking m (barred L)) (stands L) (Some run.place)) = e ∙ ap (λ o. answered replied (reply_answer m (ranking m (barred L)) (stands L) o)) run.here in
      let got = reply_is (barred L) (stands L) run.place (sym (ap accepted at_run) ∙ acc) in
      let is' = choice_is m ok (barred L) run.place got.0 got.2 in
      let lab : answered_label a ≡ got.0 = ap answered_label (at_run ∙ got.3) in
      (is'.rest, goes_to L _ left is'.rest is'.to acc ch run (ap (λ o. behind m o (answered_label a)) run.here ∙ ap (m.next run.place) lab ∙ is'.step.1) is'.rank_to, simp acc (omega (arith, same_some run.ranked is'.from)))
  next L left (Report l) a run e acc ch lv =
      let got = report_is run.place l (sym (ap accepted (e ∙ ap (λ o. answered Reported (report_answer m o l)) run.here)) ∙ acc) in
      let down = public_down m ok (barred L) run.place left l got.0 got.1 run.ranked got.2 in
      (down.0, goes_to L _ left down.0 got.0 acc ch run (ap (λ o. behind m o l) run.here ∙ got.2.1) down.1, simp acc (omega (arith, down.2)))
  next L left (Rate s) a run e acc ch lv = (left, goes_to L _ left left run.place acc ch run run.here run.ranked, simp acc (omega arith))
  next L left (Bar x) a run e acc ch lv = (left, goes_to L _ left left run.place acc ch run run.here run.ranked, simp acc (omega arith))
  next L left (Lift x) a run e acc ch lv = (left, goes_to L _ left left run.place acc ch run run.here run.ranked, simp acc (omega arith))
  next L left Look a run e acc ch lv = (left, goes_to L _ left left run.place acc ch run run.here run.ranked, simp acc (omega arith))
  next L left Leave a run e acc ch lv = absurd (both_ways true lv refl)

  -- any number of calls
  pub calls : (L : Log) (r : ℕ) → Runs L r → (K : Log) → Kept m (K ++ L) → Undisturbed L K → (left : ℕ) × Runs (K ++ L) left × (accepted_moves K + left ≤ r)
  unfolding Next
  calls L r run [] k u = (r, run, omega arith)
  calls L r run (x ∷ K) k u =
      let (left, run', le) = calls L r run K k.0 u.0 in
      ⊎_elim
      (λ acc. let und = u.1 acc in let got = next (K ++ L) left x.asked x.told run' k.1 acc und.0 und.1 in (got.0, got.1, omega (arith, got.2)))
      (λ ref. (left, refused_keeps (K ++ L) x left ref run', simp ref (omega arith)))
      (cases_Bool (accepted x.told))

  -- the run is over at a goal, or a move would be accepted
  pub moves_on : Unblocked m → (L : Log) (left : ℕ) (run : Runs L left) → OverOrOn m L run.place
  unfolding answer
  moves_on unblocked L left run =
      let p = run.place in
      ⊎_elim
      (λ d. inl (d, done_goal m ok (barred L) p d))
      (λ nd. inr (⊎_elim
      (λ pub'.
      let go = unblocked p pub' (on left run.ranked nd) in
      inr (
        go.0,
        ap (λ o. accepted (answered Reported (report_answer m o go.0))) run.here ∙
            through Reported (done m p) RunOver _ nd (through Reported (not (m.public p)) OtherTurn _ (not_from_true _ pub')
            (through Reported (not (feasible m p go.0)) NotFeasible _ (not_from_true _ (step_feasible m ok p go.0 go.1 go.2))
            (ap (λ o. accepted (answered Reported (or_fault NotFeasible o))) go.2.1))),
      ))
      (λ kio.
      let ch = choice_has m ok (barred L) p left nd kio run.ranked in
      let is' = choice_is m ok (barred L) p ch.0 ch.1 in
      inl (ap (λ o. accepted (answered replied (reply_answer m (ranking m (barred L)) (stands L) o))) run.here ∙
      through replied (done m p) RunOver _ nd (through replied (m.public p) OtherTurn _ kio (through replied (not (stands L)) NoPlan _ (not_from_true _ run.plan)
      (through replied (not (is_some (rank m (barred L) p))) NoRank _ (not_from_true _ (ap is_some run.ranked))
      (ap (λ o. accepted (answered replied (chosen_move m (ranking m (barred L)) p o))) ch.1 ∙ ap (λ o. accepted (answered replied (with_rank ch.0 (rank_of (ranking m (barred L)) o)))) is'.step.1 ∙ ap (λ o. accepted (answered replied (with_rank ch.0 o))) is'.rank_to))))))
      (cases_Bool (m.public p))))
      (cases_Bool (done m p))
    where
      on : (r : ℕ) → rank m (barred L) run.place ≡ Some r → done m run.place ≡ false → m.end run.place ≡ false
      on zero e nd = absurd (both_ways _ nd (zero_done m ok (barred L) run.place e))
      on (suc q) e nd = goes_on m ok (barred L) run.place q e

  pub run_ends : (L : Log) → RunEnds m L
  run_ends L = record {
    few_moves = λ p r K st pos rk k u. let got = calls L r (record { place = p; here = pos; ranked = rk; plan = st }) K k u in omega (arith, got.2);
    goes_on = λ p r K st pos rk k u.
        let got = calls L r (record { place = p; here = pos; ranked = rk; plan = st }) K k u in
        (got.1.place, got.1.here, moves_on (sound_unblocked m ok (stands_sound (K ++ L) k got.1.plan)) (K ++ L) got.0 got.1);
  }

  -- Losses
  rate_lost : (L : Log) → Unblocked m → stands L ≡ true → (s : ℕ) → m.public s ≡ true → m.end s ≡ false → rank m (barred L) s ≡ None → (l : ℕ) × (witness m (barred L) s ≡ Some l) × (answer m L (Rate s) ≡ Rated (LostPublic l))
  unfolding answer witness
  rate_lost L unblocked st s pub' ne un =
      let sp = witness_has m ok (barred L) unblocked s pub' ne un in
      let lost : Rating = LostPublic (unwrap_or (witness m (barred L) s) 0) in (
        sp.0,
        sp.1,
        ap (λ t. answered Rated (refuse_if (not t) NoState (refuse_if (not (stands L)) NoPlan (Ok (rating m (ranking m (barred L)) s))))) (lt-ltb s m.size (public_inside m ok s pub')) ∙
            ap (λ t. answered Rated (refuse_if (not t) NoPlan (Ok (rating m (ranking m (barred L)) s)))) st ∙
            ap (λ o. Rated (rating_at m (ranking m (barred L)) s o)) un ∙
            ap (λ t. Rated (cond t LostEnd (cond (m.public s) lost LostKiosk))) ne ∙
            ap (λ t. Rated (cond t lost LostKiosk)) pub' ∙
            ap (λ o. Rated (LostPublic (unwrap_or o 0))) sp.1,
      )

  same_lost : {l k : ℕ} {a : Answer} → a ≡ Rated (LostPublic l) → a ≡ Rated (LostPublic k) → l ≡ k
  same_lost e f = cc

  takes_witness : (L : Log) → Unblocked m → stands L ≡ true → (s : ℕ) (h : List Move) → TakesRated m L s h → TakesWitness m (barred L) s h
  takes_witness L unblocked st s [] t = tt
  takes_witness L unblocked st s (x ∷ h) t =
      (takes_witness L unblocked st s h t.0, λ pub' ne un. let got = rate_lost L unblocked st (at s h) pub' ne un in got.1 ∙ ap Some (same_lost got.2 (t.1 pub' ne un)))

  pub loss_witnessed : (L : Log) → Kept m L → LossWitnessed m L
  loss_witnessed L k = record {
    rated = λ st s pub' ne un. let got = rate_lost L (sound_unblocked m ok (stands_sound L k st)) st s pub' ne un in (got.0, got.2);
    lost = λ st w s un h f t stop. witness_wins m ok (barred L) w s un h f (takes_witness L (sound_unblocked m ok (stands_sound L k st)) st s h t) stop;
  }

-- THE LAW
pub law : Law
law m ok L k = record { plan_is_final = plan_final m ok L; run_ends = run_ends m ok L; loss_witnessed = loss_witnessed m ok L k }
