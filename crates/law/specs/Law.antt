-- THE LAW of every list of calls: which answer is right next, and what may be relied on.
use Rattle.std.specs.Prelude.{◌≡◌, ℕ, ◌≤◌, min, true, false, ◌⊎◌, List, [], ◌∷◌, ◌++◌, Some, None, Ok, Err, Result}
use Rattle.game.specs.Meaning.{Meaning, Lawful, done}
use Rattle.game.specs.Ranks.{bits, rank}
use Rattle.game.specs.Strategies.{Move, at, Strategy, Follows, Stops}
use Rattle.law.specs.declared.Call.{Call}
use Rattle.law.specs.declared.Call.TheVariants.{Plan, Open, Reply, Report, Rate, Bar, Lift, Look, Leave}
use Rattle.law.specs.declared.Answer.{Answer}
use Rattle.law.specs.declared.Answer.TheVariants.{Planned, Opened, Replied, Reported, Rated, Barred, Seen, Left, Refused}
use Rattle.law.specs.declared.Fault.{Fault}
use Rattle.law.specs.declared.Verdict.{Verdict}
use Rattle.law.specs.declared.Verdict.TheVariants.{Held}
use Rattle.law.specs.declared.Rating.TheVariants.{LostPublic}
use Rattle.law.specs.Checks.{first_fault, Sound}
use Rattle.law.specs.Answers.{ranking, plan_verdict, plan_answer, open_answer, reply_answer, report_answer, rate_answer, change_answer, look_answer, leave_answer}
use Rattle.law.specs.Verdicts.{WinsAll, WinsAllWithin, VerdictIs}
use Rattle.law.specs.Log.{Log, accepted, barred, changes, stands, position, accepted_moves, refusals, breaks_off}

-- a result as the answer that a list of calls shows
abbrev pub answered : {A : Type 0} → (A → Answer) → Result A Fault → Answer
answered f (Ok a) = f a
answered f (Err e) = Refused e

abbrev pub replied : ℕ × ℕ → Answer
replied x = Replied x.0 x.1

-- the right answer to a call after a list of calls
unfoldable pub answer : Meaning → Log → Call → Answer
answer m L Plan = answered Planned (plan_answer (first_fault m) (plan_verdict m (rank m (barred L))))
answer m L (Open s) = answered Opened (open_answer m (ranking m (barred L)) (stands L) (position m L) s)
answer m L Reply = answered replied (reply_answer m (ranking m (barred L)) (stands L) (position m L))
answer m L (Report l) = answered Reported (report_answer m (position m L) l)
answer m L (Rate s) = answered Rated (rate_answer m (ranking m (barred L)) (stands L) s)
answer m L (Bar x) = answered Barred (change_answer m (barred L) x true)
answer m L (Lift x) = answered Barred (change_answer m (barred L) x false)
answer m L Look = Seen (look_answer m (position m L) (bits (barred L) 64) (stands L) (min (refusals L) 4294967295))
answer m L Leave = answered Left (leave_answer (position m L))

-- every answer in the list is the right one
abbrev pub Kept : Meaning → Log → Type 0
Kept m [] = Unit {0}
Kept m (e ∷ L) = Kept m L × (e.told ≡ answer m L e.asked)

-- c would be accepted next
abbrev pub Would : Meaning → Log → Call → Type 0
Would m L c = accepted (answer m L c) ≡ true

-- PLAN IS FINAL, and its number is least
pub record PlanIsFinal (m : Meaning) (L : Log) : Type 0 where
  -- plan would be accepted next exactly if its checks find no fault
  pub accepted_if_sound : Sound m → Would m L Plan
  pub sound_if_accepted : Would m L Plan → Sound m
  -- then it says held exactly if one strategy wins from every start
  pub held_if_won : Would m L Plan → (w : Strategy m (barred L)) → WinsAll m (barred L) w → (n : ℕ) × (answer m L Plan ≡ Planned (Held n))
  -- after held one wins within the number answered, and whichever wins within k has k at least that number
  pub won_if_held : (n : ℕ) → answer m L Plan ≡ Planned (Held n) → (w : Strategy m (barred L)) × WinsAllWithin m (barred L) w n
  pub no_sooner : (n : ℕ) → answer m L Plan ≡ Planned (Held n) → (w : Strategy m (barred L)) (k : ℕ) → WinsAllWithin m (barred L) w k → n ≤ k

-- ITS WORD IS TRUE: held only if one strategy wins, within the number answered and none sooner; lost only if none does
abbrev pub WordIsFinal : Meaning → Log → Type 0
WordIsFinal m L = (v : Verdict) → answer m L Plan ≡ Planned v → VerdictIs m (barred L) v

-- K came after L, and in it neither the barred labels changed nor was the run broken off
abbrev pub Undisturbed : Log → Log → Type 0
Undisturbed L [] = Unit {0}
Undisturbed L (e ∷ K) = Undisturbed L K × (accepted e.told ≡ true → (changes (barred (K ++ L)) e.asked ≡ false) × (breaks_off e.asked ≡ false))

-- the run is over at q, at a goal, or reply or some report would be accepted next
abbrev pub OverOrOn : Meaning → Log → ℕ → Type 0
OverOrOn m L q = ((done m q ≡ true) × (m.goal q ≡ true)) ⊎ ((Would m L Reply) ⊎ ((l : ℕ) × Would m L (Report l)))

-- RUNS END AT A GOAL: with a plan standing and the run at p of rank r, in whatever calls K come next
pub record RunEnds (m : Meaning) (L : Log) : Type 0 where
  -- at most r more moves are accepted
  pub few_moves : (p r : ℕ) (K : Log) → stands L ≡ true → position m L ≡ Some p → rank m (barred L) p ≡ Some r → Kept m (K ++ L) → Undisturbed L K → accepted_moves K ≤ r
  -- and until the run is over, at a goal, it goes on
  pub goes_on : (p r : ℕ) (K : Log) → stands L ≡ true → position m L ≡ Some p → rank m (barred L) p ≡ Some r → Kept m (K ++ L) → Undisturbed L K → (q : ℕ) × (position m (K ++ L) ≡ Some q) × OverOrOn m (K ++ L) q

-- in the play h from s the public takes the label that rate answers, at each of its states without rank
abbrev pub TakesRated : Meaning → Log → ℕ → List Move → Type 0
TakesRated m L s [] = Unit {0}
TakesRated m L s (x ∷ h) = TakesRated m L s h × (m.public (at s h) ≡ true → m.end (at s h) ≡ false → rank m (barred L) (at s h) ≡ None → answer m L (Rate (at s h)) ≡ Rated (LostPublic x.label))

-- A LOSS IS WITNESSED, with a plan standing
pub record LossWitnessed (m : Meaning) (L : Log) : Type 0 where
  -- at every public state without rank that is no end, rate would be accepted next and answers a label
  pub rated : stands L ≡ true → (s : ℕ) → m.public s ≡ true → m.end s ≡ false → rank m (barred L) s ≡ None → (l : ℕ) × (answer m L (Rate s) ≡ Rated (LostPublic l))
  -- if the public takes it there, no play from a state without rank stops at a goal, whatever strategy it follows
  pub lost : stands L ≡ true → (w : Strategy m (barred L)) (s : ℕ) → rank m (barred L) s ≡ None → (h : List Move) → Follows m (barred L) w s h → TakesRated m L s h → Stops m (barred L) w s h → m.goal (at s h) ≡ false

-- what an engineer may rely on after the calls of L
pub record Relies (m : Meaning) (L : Log) : Type 0 where
  pub plan_is_final : PlanIsFinal m L
  pub run_ends : RunEnds m L
  pub loss_witnessed : LossWitnessed m L

-- the whole law, over every game and every list of calls with right answers
abbrev pub Law : Type 0
Law = (m : Meaning) → Lawful m → (L : Log) → Kept m L → Relies m L
