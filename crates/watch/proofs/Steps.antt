-- From what a call leaves in the memory to what it adds to every list of calls.
use Rattle.std.proofs.Common.{◌≡◌, ℕ, ◌+◌, ◌/◌, ◌%◌, ◌^◌, ◌<◌, Bool, true, false, cond, not, ◌&&◌, ◌||◌, eqb, ltb, List, [], ◌∷◌, ◌++◌, length, get_or, take, set, is_some, Some, None, Ok, Err, Option, Result, unwrap_or, sym, refl, ap, ◌∙◌, subst, arith}
use mathlib.Core.Path.{fun_ext}
use Rattle.std.proofs.Math.Bool.{and-true}
use Rattle.std.specs.Prelude.{MatchResult}
use Rattle.std.proofs.lemmas.Nat.{pow_pos, shr_le}
use Rattle.std.proofs.lemmas.List.{take_more, take_more_set, length-take-le}
use Rattle.std.proofs.lemmas.Bool.{cond-true, both_ways, and_parts, not-true, not-false, ltb-true}
use Rattle.game.specs.Meaning.{Meaning, Lawful, done}
use Rattle.game.specs.Ranks.{Bars, bits, set_label, rank}
use Rattle.game.specs.Final.{Final}
use Rattle.game.proofs.Winning.{final}
use Rattle.law.specs.declared.Fault.{Fault}
use Rattle.law.specs.declared.Rating.{Rating}
use Rattle.law.specs.declared.Verdict.{Verdict}
use Rattle.law.specs.declared.View.{View}
use Rattle.law.specs.declared.Fault.TheVariants.{NotStart, NoState, NoLabel, RunOpen, RunOver, OtherTurn, NoPlan, NoRank}
use Rattle.law.specs.declared.Call.{Call}
use Rattle.law.specs.declared.Call.TheVariants.{Plan, Open, Reply, Report, Rate, Look, Leave}
use Rattle.law.specs.declared.Answer.{Answer}
use Rattle.law.specs.declared.Answer.TheVariants.{Planned, Opened, Reported, Rated, Barred, Seen, Left, Refused}
use Rattle.law.specs.Checks.{first_fault}
use Rattle.law.specs.Answers.{Ranking, ranking, refuse_if, or_fault, plan_verdict, plan_answer, open_answer, reply_answer, report_answer, rate_answer, rating, change_answer, look_answer, leave_answer}
use Rattle.law.specs.Log.{Log, accepted, says, barred, changes, is_plan, position, stands, behind, moved}
use Rattle.law.specs.Law.{answered, replied, answer, Kept}
use Rattle.law.proofs.Laws.{law, same_bars, sound_unblocked}
use Rattle.law.proofs.Checked.{no_fault_sound}
use Rattle.labelset.specs.Bits.{has_bit}
use Rattle.labelset.proofs.Bits.{bits_lt, changed_has, whole_set}
use Rattle.solver.proofs.Known.{solved_ranking}
use Rattle.solver.specs.Cells.{ranking_in, Solved}
use Rattle.watch.specs.declared.Memory.{Memory}
use Rattle.watch.specs.declared.Table.{Table}
use Rattle.watch.specs.Memory.{bars_of, ranking_of, counted, moved_to, with_plan, after, replied_to, changed, agree, change_call}
use Rattle.watch.specs.Lived.{Shows, Lived, entry, Extends, logged, log_of}

module _ (m : Meaning) (ok : Lawful m) where
  -- one more right answer
  more : (L : Log) (d e : Memory) (c : Call) (a : Answer) → Lived m L d → a ≡ answer m L c → Shows m (entry c a ∷ L) e → Lived m (entry c a ∷ L) e
  more L d e c a old right sh = let k : Kept m (entry c a ∷ L) = (old.kept, right) in record { shows = sh; kept = k; relies = law m ok (entry c a ∷ L) k }

  refused_shows : (L : Log) (d : Memory) (c : Call) (f : Fault) → Shows m L d → Shows m (entry c (Refused f) ∷ L) (counted d)
  refused_shows L d c f sh = record { bars_are = sh.bars_are; bars_fit = sh.bars_fit; at_position = sh.at_position; plan = sh.plan; table_is = sh.table_is; count = omega (arith, sh.count) }

  -- an accepted call, by what it leaves
  accepted_shows : (L : Log) (d e : Memory) (c : Call) (a : Answer) → Shows m L d → accepted a ≡ true → ((x : ℕ) → bars_of e x ≡ unwrap_or (says c x) (barred L x)) → e.bars < 2 ^ 64 → e.position ≡ moved m c a (position m L) → e.planned ≡ (is_plan c || (stands L && not (changes (barred L) c))) → ((is_plan c || (stands L && not (changes (barred L) c))) ≡ true → Solved m (λ x. unwrap_or (says c x) (barred L x)) e.table.cells) → e.refusals ≡ d.refusals → Shows m (entry c a ∷ L) e
  accepted_shows L d e c a sh acc bars fit pos plan table count = record {
    bars_are = λ x. bars x ∙ sym (cond-true (accepted a) _ _ acc);
    bars_fit = fit;
    at_position = pos ∙ sym (cond-true (accepted a) _ _ acc);
    plan = plan ∙ sym (cond-true (accepted a) _ _ acc);
    table_is = λ st. subst (λ b. Solved m b e.table.cells) (sym (fun_ext (λ x. cond-true (accepted a) (unwrap_or (says c x) (barred L x)) (barred L x) acc))) (table (sym (cond-true (accepted a) _ _ acc) ∙ st));
    count = let none : cond {A = ℕ} (accepted a) 0 1 ≡ 0 = cond-true {A = ℕ} (accepted a) 0 1 acc in omega (arith, sh.count);
  }

  -- a call that says nothing of labels and is no plan
  pub record Quiet (c : Call) : Type 0 where
    pub no_label : (x : ℕ) → says c x ≡ None
    pub no_plan : is_plan c ≡ false
    pub no_change : (b : Bars) → changes b c ≡ false

  -- it moves at most the position
  quiet_shows : (L : Log) (d : Memory) (c : Call) (a : Answer) (p : Option ℕ) → Quiet c → Shows m L d → accepted a ≡ true → p ≡ moved m c a (position m L) → Shows m (entry c a ∷ L) (moved_to d p)
  quiet_shows L d c a p q sh acc to =
      let same : stands L ≡ (is_plan c || (stands L && not (changes (barred L) c))) = sym (and-true (stands L)) ∙ ap (λ t. stands L && not t) (sym (q.no_change (barred L))) ∙ ap (λ t. t || (stands L && not (changes (barred L) c))) (sym q.no_plan) in
      let said : (x : ℕ) → barred L x ≡ unwrap_or (says c x) (barred L x) = λ x. ap (λ o. unwrap_or o (barred L x)) (sym (q.no_label x)) in
      accepted_shows L d (moved_to d p) c a sh acc (λ x. sh.bars_are x ∙ said x) sh.bars_fit to (sh.plan ∙ same)
      (λ st. subst (λ b. Solved m b d.table.cells) (fun_ext said) (sh.table_is (same ∙ st))) refl

  -- a call by its result: refused, or accepted with the memory e
  by_result : {A : Type 0} (d e new : Memory) (c : Call) (f : A → Answer) (r : Result A Fault) → new ≡ after r d e → ((L : Log) → Lived m L d → answered f r ≡ answer m L c) → ((a : A) (L : Log) → r ≡ Ok a → Lived m L d → Shows m (entry c (f a) ∷ L) e) → Extends m d c (answered f r) new
  by_result d e new c f (Ok a) left right shows L old = subst (Lived m (entry c (f a) ∷ L)) (sym left) (more L d e c (f a) old (right L old) (shows a L refl old))
  by_result d e new c f (Err x) left right shows L old = subst (Lived m (entry c (Refused x) ∷ L)) (sym left) (more L d (counted d) c (Refused x) old (right L old) (refused_shows L d c x old.shows))

  -- the same of a call that moves at most the position
  quiet_extends : {A : Type 0} (d new : Memory) (c : Call) (f : A → Answer) (p : Option ℕ) (r : Result A Fault) → Quiet c → ((a : A) → accepted (f a) ≡ true) → ((a : A) (L : Log) → r ≡ Ok a → d.position ≡ position m L → p ≡ moved m c (f a) (position m L)) → ((L : Log) → Lived m L d → answered f r ≡ answer m L c) → new ≡ after r d (moved_to d p) → Extends m d c (answered f r) new
  quiet_extends d new c f p r q acc to right left = by_result d (moved_to d p) new c f r left right (λ a L e old. quiet_shows L d c (f a) p q old.shows (acc a) (to a L e old.shows.at_position))

  -- what an answer says does not hang on the cells where no plan stands
  same_if : {A : Type 0} (c : Bool) (f : Fault) (x y : Result A Fault) → (c ≡ false → x ≡ y) → refuse_if c f x ≡ refuse_if c f y
  same_if true f x y h = refl
  same_if false f x y h = h refl

  -- the ranks are the plan's where it stands
  planned_ranking : (L : Log) (d : Memory) → Shows m L d → stands L ≡ true → ranking_of d ≡ ranking m (barred L)
  planned_ranking L d sh st = solved_ranking m (barred L) d.table.cells (sh.table_is st)

  -- Open
  open_right : (d : Memory) (s : ℕ) (L : Log) → Lived m L d → answered Opened (open_answer m (ranking_of d) d.planned d.position s) ≡ answer m L (Open s)
  unfolding answer
  open_right d s L old =
      let sh = old.shows in
      ap (λ o. answered Opened (open_answer m (ranking_of d) d.planned o s)) sh.at_position ∙ ap (λ st. answered Opened (open_answer m (ranking_of d) st (position m L) s)) sh.plan ∙
      ap (answered Opened) (same_if (is_some (position m L)) RunOpen _ _ (λ _. same_if (not (m.start s)) NotStart _ _ (λ _. same_if (not (stands L)) NoPlan _ _ (λ on.
      ap (λ ρ. or_fault NoRank (ρ.rank s)) (planned_ranking L d sh (not-false _ on))))))

  pub open_extends : (d new : Memory) (s : ℕ) (r : Result ℕ Fault) → r ≡ open_answer m (ranking_of d) d.planned d.position s → new ≡ after r d (moved_to d (Some s)) → Extends m d (Open s) (answered Opened r) new
  open_extends d new s r is = quiet_extends d new (Open s) Opened (Some s) r (record { no_label = λ x. refl; no_plan = refl; no_change = λ b. refl }) (λ a. refl) (λ a L e at. refl) (λ L old. ap (answered Opened) is ∙ open_right d s L old)

  -- Reply
  reply_same : (ρ ρ' : Ranking) (st : Bool) (o : Option ℕ) → (st ≡ true → ρ ≡ ρ') → reply_answer m ρ st o ≡ reply_answer m ρ' st o
  reply_same ρ ρ' true o h = ap (λ x. reply_answer m x true o) (h refl)
  reply_same ρ ρ' false None h = refl
  reply_same ρ ρ' false (Some p) h = same_if (done m p) RunOver _ _ (λ _. same_if (m.public p) OtherTurn _ _ (λ _. refl))

  reply_right : (d : Memory) (L : Log) → Lived m L d → answered replied (reply_answer m (ranking_of d) d.planned d.position) ≡ answer m L Reply
  unfolding answer
  reply_right d L old =
      let sh = old.shows in
      ap (λ o. answered replied (reply_answer m (ranking_of d) d.planned o)) sh.at_position ∙ ap (λ st. answered replied (reply_answer m (ranking_of d) st (position m L))) sh.plan ∙
      ap (answered replied) (reply_same (ranking_of d) (ranking m (barred L)) (stands L) (position m L) (planned_ranking L d sh))

  pub reply_extends : (d new : Memory) (r : Result (ℕ × ℕ) Fault) → r ≡ reply_answer m (ranking_of d) d.planned d.position → new ≡ after r d (moved_to d (replied_to m d r)) → Extends m d Reply (answered replied r) new
  reply_extends d new r is = quiet_extends d new Reply replied (replied_to m d r) r (record { no_label = λ x. refl; no_plan = refl; no_change = λ b. refl }) (λ a. refl) (λ a L e at. ap (replied_to m d) e ∙ ap (λ o. behind m o a.0) at) (λ L old. ap (answered replied) is ∙ reply_right d L old)

  -- Report
  report_right : (d : Memory) (l : ℕ) (L : Log) → Lived m L d → answered Reported (report_answer m d.position l) ≡ answer m L (Report l)
  unfolding answer
  report_right d l L old = ap (λ o. answered Reported (report_answer m o l)) old.shows.at_position

  pub report_extends : (d new : Memory) (l : ℕ) (r : Result ℕ Fault) → r ≡ report_answer m d.position l → new ≡ after r d (moved_to d (behind m d.position l)) → Extends m d (Report l) (answered Reported r) new
  report_extends d new l r is = quiet_extends d new (Report l) Reported (behind m d.position l) r (record { no_label = λ x. refl; no_plan = refl; no_change = λ b. refl }) (λ a. refl) (λ a L e at. ap (λ o. behind m o l) at) (λ L old. ap (answered Reported) is ∙ report_right d l L old)

  -- Rate
  rate_right : (d : Memory) (s : ℕ) (L : Log) → Lived m L d → answered Rated (rate_answer m (ranking_of d) d.planned s) ≡ answer m L (Rate s)
  unfolding answer
  rate_right d s L old =
      let sh = old.shows in
      ap (λ st. answered Rated (rate_answer m (ranking_of d) st s)) sh.plan ∙
      ap (answered Rated) (same_if (not (ltb s m.size)) NoState _ _ (λ _. same_if (not (stands L)) NoPlan _ _ (λ on. ap (λ ρ. Ok (rating m ρ s)) (planned_ranking L d sh (not-false _ on)))))

  pub rate_extends : (d new : Memory) (s : ℕ) (r : Result Rating Fault) → r ≡ rate_answer m (ranking_of d) d.planned s → new ≡ after r d d → Extends m d (Rate s) (answered Rated r) new
  rate_extends d new s r is = quiet_extends d new (Rate s) Rated d.position r (record { no_label = λ x. refl; no_plan = refl; no_change = λ b. refl }) (λ a. refl) (λ a L e at. at) (λ L old. ap (answered Rated) is ∙ rate_right d s L old)

  -- Leave
  leave_right : (d : Memory) (L : Log) → Lived m L d → answered Left (leave_answer d.position) ≡ answer m L Leave
  unfolding answer
  leave_right d L old = ap (λ o. answered Left (leave_answer o)) old.shows.at_position

  pub leave_extends : (d new : Memory) (r : Result ℕ Fault) → r ≡ leave_answer d.position → new ≡ after r d (moved_to d None) → Extends m d Leave (answered Left r) new
  leave_extends d new r is = quiet_extends d new Leave Left None r (record { no_label = λ x. refl; no_plan = refl; no_change = λ b. refl }) (λ a. refl) (λ a L e at. refl) (λ L old. ap (answered Left) is ∙ leave_right d L old)

  -- Look
  pub look_extends : (d : Memory) (v : View) → v ≡ look_answer m d.position d.bars d.planned d.refusals → Extends m d Look (Seen v) d
  unfolding answer
  look_extends d v is L old =
      let sh = old.shows in
      let bars_is : d.bars ≡ bits (barred L) 64 = whole_set d.bars (barred L) sh.bars_fit (λ k lt. sh.bars_are k) in
      more L d d Look _ old
      (ap Seen is ∙ λ i. Seen (look_answer m (sh.at_position i) (bars_is i) (sh.plan i) (sh.count i)))
      (quiet_shows L d Look (Seen v) d.position (record { no_label = λ x. refl; no_plan = refl; no_change = λ b. refl }) sh refl sh.at_position)

  -- Bar and lift
  change_right : (d : Memory) (member : Bool) (x : ℕ) (L : Log) → Lived m L d → answered Barred (change_answer m (bars_of d) x member) ≡ answer m L (change_call member x)
  unfolding answer
  change_right d true x L old = ap (λ b. answered Barred (change_answer m b x true)) (fun_ext old.shows.bars_are)
  change_right d false x L old = ap (λ b. answered Barred (change_answer m b x false)) (fun_ext old.shows.bars_are)

  -- what such a call says of a label, and whether it changes the set
  said : (member : Bool) (x l : ℕ) (old : Bool) → cond (eqb x l) member old ≡ unwrap_or (says (change_call member x) l) old
  said true x l old = go (eqb x l)
    where
      go : (t : Bool) → cond t true old ≡ unwrap_or (cond t (Some true) None) old
      go true = refl
      go false = refl
  said false x l old = go (eqb x l)
    where
      go : (t : Bool) → cond t false old ≡ unwrap_or (cond t (Some false) None) old
      go true = refl
      go false = refl

  stays : (member : Bool) (x : ℕ) (b : Bars) → agree (b x) member ≡ not (changes b (change_call member x))
  stays true x b = go (b x)
    where
      go : (t : Bool) → agree t true ≡ not (not t)
      go true = refl
      go false = refl
  stays false x b = go (b x)
    where
      go : (t : Bool) → agree t false ≡ not t
      go true = refl
      go false = refl

  no_plan_call : (member : Bool) (x : ℕ) → is_plan (change_call member x) ≡ false
  no_plan_call true x = refl
  no_plan_call false x = refl

  no_move : (member : Bool) (x : ℕ) (a : Answer) (p : Option ℕ) → moved m (change_call member x) a p ≡ p
  no_move true x a p = refl
  no_move false x a p = refl

  -- a change that is accepted has a label below the ceiling
  label_low : (x : ℕ) (r : Result ℕ Fault) (a : ℕ) → refuse_if (not (ltb x m.ceiling)) NoLabel r ≡ Ok a → x < m.ceiling
  label_low x r a e = go (ltb x m.ceiling) refl e
    where
      go : (t : Bool) → ltb x m.ceiling ≡ t → refuse_if (not t) NoLabel r ≡ Ok a → x < m.ceiling
      go true is h = ltb-true x m.ceiling is
      go false is h = let z : ◌≡◌ {A = ℕ} 0 1 = cc in absurd (omega arith)

  pub change_extends : (d new : Memory) (x : ℕ) (member : Bool) (r : Result ℕ Fault) → r ≡ change_answer m (bars_of d) x member → new ≡ after r d (changed d x member) → Extends m d (change_call member x) (answered Barred r) new
  change_extends d new x member r is left = by_result d (changed d x member) new (change_call member x) Barred r left (λ L old. ap (answered Barred) is ∙ change_right d member x L old) (λ a L e old.
      let sh = old.shows in
      let low : x < 64 = omega (arith, ok.few, label_low x _ a (sym is ∙ e)) in
      let call : Call = change_call member x in
      let now' : (l : ℕ) → bars_of (changed d x member) l ≡ unwrap_or (says call l) (barred L l) = λ l. changed_has d.bars x member sh.bars_fit low l ∙ ap (cond (eqb x l) member) (sh.bars_are l) ∙ said member x l (barred L l) in
      let on : (is_plan call || (stands L && not (changes (barred L) call))) ≡ (stands L && not (changes (barred L) call)) = ap (λ t. t || (stands L && not (changes (barred L) call))) (no_plan_call member x) in
      let plan_is : (d.planned && agree (bars_of d x) member) ≡ (is_plan call || (stands L && not (changes (barred L) call))) =
      ap (λ t. t && agree (bars_of d x) member) sh.plan ∙ ap (λ t. stands L && agree t member) (sh.bars_are x) ∙ ap (λ t. stands L && t) (stays member x (barred L)) ∙ sym on in
      accepted_shows L d (changed d x member) call (Barred a) sh refl now' (bits_lt (set_label (bars_of d) x member) 64) (sh.at_position ∙ sym (no_move member x (Barred a) (position m L))) plan_is
      (λ st. let both = and_parts (stands L) _ (sym on ∙ st) in subst (λ b. Solved m b d.table.cells) (sym (fun_ext (λ l. same_bars m ok (barred L) call (not-true _ both.1) l))) (sh.table_is both.0))
      refl)

  -- Plan
  pub plan_refused : (d new : Memory) (f : Fault) → first_fault m ≡ Some f → new ≡ counted d → Extends m d Plan (Refused f) new
  unfolding answer
  plan_refused d new f e left L old = subst (Lived m (entry Plan (Refused f) ∷ L)) (sym left) (more L d (counted d) Plan (Refused f) old (sym (ap (λ o. answered Planned (plan_answer o (plan_verdict m (rank m (barred L))))) e)) (refused_shows L d Plan f old.shows))

  pub plan_extends : (d : Memory) (t : Table) (v : Verdict) → v ≡ plan_verdict m (ranking_in t.cells).rank → first_fault m ≡ None → Solved m (bars_of d) t.cells → Extends m d Plan (Planned v) (with_plan d t)
  unfolding answer
  plan_extends d t v is none solved L old =
      let sh = old.shows in
      let solved' : Solved m (barred L) t.cells = subst (λ b. Solved m b t.cells) (fun_ext sh.bars_are) solved in
      more L d (with_plan d t) Plan _ old
      (ap Planned is ∙ ap (λ ρ. Planned (plan_verdict m ρ.rank)) (solved_ranking m (barred L) t.cells solved') ∙ sym (ap (λ o. answered Planned (plan_answer o (plan_verdict m (rank m (barred L))))) none))
      (accepted_shows L d (with_plan d t) Plan (Planned _) sh refl sh.bars_are sh.bars_fit sh.at_position refl (λ _. solved') refl)

  -- an accepted plan is final
  pub plan_final : (b : Bars) → first_fault m ≡ None → Final m b
  plan_final b none = final m ok (sound_unblocked m ok (no_fault_sound m ok none)) b

  zero_shr : (x : ℕ) → 0 / 2 ^ x ≡ 0
  zero_shr x = omega (arith, shr_le 0 x)

  -- New
  pub fresh : (d : Memory) → d.bars ≡ 0 → d.position ≡ None → d.planned ≡ false → d.refusals ≡ 0 → Lived m [] d
  fresh d b0 p0 f0 r0 = record {
    shows = record {
      bars_are = λ x. ap (λ n. has_bit n x) b0 ∙ ap (λ n. eqb (n % 2) 1) (zero_shr x);
      bars_fit = omega (arith, pow_pos 64);
      at_position = p0;
      plan = f0;
      table_is = λ st. absurd (both_ways false refl st);
      count = omega arith;
    };
    kept = tt;
    relies = law m ok [] tt;
  }

-- a call as it was matched, and its result as the answer that was made of it
pub told : {A : Type 0} (m : Meaning) (d e : Memory) (c c' : Call) (f : A → Answer) (r : Result A Fault) (a : Answer) → c ≡ c' → MatchResult r (λ x. a ≡ f x) (λ x. a ≡ Refused x) → Extends m d c' (answered f r) e → Extends m d c a e
told m d e c c' f (Ok x) a call is h = subst (λ q. Extends m d q a e) (sym call) (subst (λ b. Extends m d c' b e) (sym is) h)
told m d e c c' f (Err x) a call is h = subst (λ q. Extends m d q a e) (sym call) (subst (λ b. Extends m d c' b e) (sym is) h)

-- a new watch that planned has lived through that plan, and holds its game still
pub planned_anew : {G : Type 0} (meaning : G → Meaning) {game made left : G} {d e : Memory} {v : Verdict} → made ≡ game → Lived (meaning game) [] d → left ≡ made → Extends (meaning made) d Plan (Planned v) e → (left ≡ game) × Lived (meaning game) (entry Plan (Planned v) ∷ []) e
planned_anew meaning {d} {e} {v} same fresh kept extends = (kept ∙ same, subst (λ x. Extends (meaning x) d Plan (Planned v) e) same extends [] fresh)

-- one more call at the end
logged_more : (qs : List Call) (rs : List Answer) (q : Call) (r : Answer) (L : Log) → length qs ≡ length rs → logged (qs ++ (q ∷ [])) (rs ++ (r ∷ [])) L ≡ entry q r ∷ logged qs rs L
logged_more [] [] q r L h = refl
logged_more [] (x ∷ rs) q r L h = absurd (omega arith)
logged_more (x ∷ qs) [] q r L h = absurd (omega arith)
logged_more (x ∷ qs) (y ∷ rs) q r L h = logged_more qs rs q r (entry x y ∷ L) (omega arith)

-- one turn of a loop that carries out the calls in order
pub turn : (m : Meaning) (d₀ d e : Memory) (qs : List Call) (rs : List Answer) (i : ℕ) (q₀ : Call) (r : Answer) → i < length qs → i < length rs → ((L : Log) → Lived m L d₀ → Lived m (log_of i qs rs L) d) → Extends m d (get_or qs i q₀) r e → (L : Log) → Lived m L d₀ → Lived m (log_of (i + 1) qs (set rs i r) L) e
turn m d₀ d e qs rs i q₀ r h k before now' L old =
    let q : Call = get_or qs i q₀ in
    let asked : take (i + 1) qs ≡ take i qs ++ (q ∷ []) = take_more qs i q₀ h in
    let told : take (i + 1) (set rs i r) ≡ take i rs ++ (r ∷ []) = take_more_set rs i r k in
    let same : length (take i qs) ≡ length (take i rs) = length-take-le i qs (omega arith) ∙ sym (length-take-le i rs (omega arith)) in
    let log : log_of (i + 1) qs (set rs i r) L ≡ entry q r ∷ log_of i qs rs L =
    ap (λ x. logged x (take (i + 1) (set rs i r)) L) asked ∙ ap (λ x. logged (take i qs ++ (q ∷ [])) x L) told ∙ logged_more (take i qs) (take i rs) q r L same in
    subst (λ x. Lived m x e) (sym log) (now' _ (before L old))
