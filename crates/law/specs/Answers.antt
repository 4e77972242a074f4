-- What each call answers, from the game, from what a plan says of its states, and from where the watch stands.
use Rattle.std.specs.Prelude.{ℕ, Bool, true, false, cond, not, ◌&&◌, is_some, Some, None, Ok, Err, Option, Result, nat_lt}
use Rattle.std.specs.Option.{unwrap_or, option_map}
use Rattle.game.specs.Meaning.{Meaning, done, feasible}
use Rattle.game.specs.Search.{first_below, count_below, highest}
use Rattle.game.specs.Ranks.{Bars, set_label, rank, choice, witness_by}
use Rattle.law.specs.declared.Fault.{Fault}
use Rattle.law.specs.declared.Fault.TheVariants.{NotStart, NoState, NoLabel, NotFeasible, NoRun, RunOpen, RunOver, OtherTurn, NoPlan, NoRank}
use Rattle.law.specs.declared.Verdict.{Verdict}
use Rattle.law.specs.declared.Verdict.TheVariants.{Held, Lost}
use Rattle.law.specs.declared.Rating.{Rating}
use Rattle.law.specs.declared.Rating.TheVariants.{Done, Kiosk, Public, LostEnd, LostKiosk, LostPublic}
use Rattle.law.specs.declared.View.{View}

-- what a plan says of each state
pub record Ranking : Type 0 where
  pub rank : ℕ → Option ℕ
  pub choice : ℕ → Option ℕ

-- the ranks and choices under the bars b
abbrev pub ranking : Meaning → Bars → Ranking
ranking m b = record { rank = rank m b; choice = choice m b }

abbrev pub refuse_if : {A : Type 0} → Bool → Fault → Result A Fault → Result A Fault
refuse_if true f r = Err f
refuse_if false f r = r

abbrev pub or_fault : {A : Type 0} → Fault → Option A → Result A Fault
or_fault f (Some a) = Ok a
or_fault f None = Err f

-- plan: a fault of the game, or held with the highest rank of a start, or lost with the lowest start that has none
abbrev pub verdict : Option ℕ → ℕ → Verdict
verdict None n = Held n
verdict (Some s) n = Lost s

abbrev pub lost_start : Meaning → (ℕ → Option ℕ) → ℕ → Bool
lost_start m ρ s = m.start s && not (is_some (ρ s))

abbrev pub start_rank : Meaning → (ℕ → Option ℕ) → ℕ → Option ℕ
start_rank m ρ s = cond (m.start s) (ρ s) None

abbrev pub plan_verdict : Meaning → (ℕ → Option ℕ) → Verdict
plan_verdict m ρ = verdict (first_below (lost_start m ρ) m.size) (highest (start_rank m ρ) m.size)

abbrev pub plan_answer : Option Fault → Verdict → Result Verdict Fault
plan_answer (Some f) v = Err f
plan_answer None v = Ok v

-- open: the rank of the start
abbrev pub open_answer : Meaning → Ranking → Bool → Option ℕ → ℕ → Result ℕ Fault
open_answer m ρ planned run s =
    refuse_if (is_some run) RunOpen (refuse_if (not (m.start s)) NotStart (refuse_if (not planned) NoPlan (or_fault NoRank (ρ.rank s))))

-- reply: the choice at the position, and the rank behind it
abbrev pub with_rank : ℕ → Option ℕ → Result (ℕ × ℕ) Fault
with_rank l None = Err NoRank
with_rank l (Some r) = Ok (l, r)

abbrev pub rank_of : Ranking → Option ℕ → Option ℕ
rank_of ρ None = None
rank_of ρ (Some t) = ρ.rank t

abbrev pub chosen_move : Meaning → Ranking → ℕ → Option ℕ → Result (ℕ × ℕ) Fault
chosen_move m ρ p None = Err NoRank
chosen_move m ρ p (Some l) = with_rank l (rank_of ρ (m.next p l))

abbrev pub reply_answer : Meaning → Ranking → Bool → Option ℕ → Result (ℕ × ℕ) Fault
reply_answer m ρ planned None = Err NoRun
reply_answer m ρ planned (Some p) =
    refuse_if (done m p) RunOver (refuse_if (m.public p) OtherTurn (refuse_if (not planned) NoPlan
    (refuse_if (not (is_some (ρ.rank p))) NoRank (chosen_move m ρ p (ρ.choice p)))))

-- report: the state behind the label
abbrev pub report_answer : Meaning → Option ℕ → ℕ → Result ℕ Fault
report_answer m None l = Err NoRun
report_answer m (Some p) l =
    refuse_if (done m p) RunOver (refuse_if (not (m.public p)) OtherTurn (refuse_if (not (feasible m p l)) NotFeasible (or_fault NotFeasible (m.next p l))))

-- rate: one of six
abbrev pub ranked_rating : Bool → ℕ → Option ℕ → Rating
ranked_rating true r c = Public r
ranked_rating false r None = Done
ranked_rating false r (Some l) = Kiosk r l

abbrev pub rating_at : Meaning → Ranking → ℕ → Option ℕ → Rating
rating_at m ρ s (Some r) = cond (done m s) Done (ranked_rating (m.public s) r (ρ.choice s))
rating_at m ρ s None = cond (m.end s) LostEnd (cond (m.public s) (LostPublic (unwrap_or (witness_by m ρ.rank s) 0)) LostKiosk)

abbrev pub rating : Meaning → Ranking → ℕ → Rating
rating m ρ s = rating_at m ρ s (ρ.rank s)

abbrev pub rate_answer : Meaning → Ranking → Bool → ℕ → Result Rating Fault
rate_answer m ρ planned s = refuse_if (not (nat_lt s m.size)) NoState (refuse_if (not planned) NoPlan (Ok (rating m ρ s)))

-- bar and lift, which put label x into the set or take it out: how many labels are then barred
abbrev pub change_answer : Meaning → Bars → ℕ → Bool → Result ℕ Fault
change_answer m b x member = refuse_if (not (nat_lt x m.ceiling)) NoLabel (Ok (count_below (set_label b x member) 64))

-- look: a run is over where its position is done
abbrev pub over_at : Meaning → Option ℕ → Bool
over_at m None = false
over_at m (Some p) = done m p

abbrev pub look_answer : Meaning → Option ℕ → ℕ → Bool → ℕ → View
look_answer m run bars planned refused = record {
  position = run;
  public = option_map m.public run;
  over = over_at m run;
  bars = bars;
  planned = planned;
  refusals = refused;
}

-- leave: the last position
abbrev pub leave_answer : Option ℕ → Result ℕ Fault
leave_answer run = or_fault NoRun run
