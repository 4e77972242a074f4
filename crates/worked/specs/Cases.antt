-- Worked cases, on the definitions that the calls' contracts use.
use Rattle.std.specs.Prelude.{◌≡◌, ℕ, true, false, List, [], ◌∷◌, Some, codes}
use Rattle.game.specs.Meaning.{Meaning}
use Rattle.law.specs.declared.Call.{Call}
use Rattle.law.specs.declared.Call.TheVariants.{Plan, Open, Reply, Report, Rate, Bar, Look}
use Rattle.law.specs.declared.Answer.{Answer}
use Rattle.law.specs.declared.Answer.TheVariants.{Planned, Opened, Replied, Reported, Rated, Barred, Seen}
use Rattle.law.specs.declared.Verdict.TheVariants.{Held, Lost}
use Rattle.law.specs.declared.Rating.TheVariants.{Kiosk, LostEnd, LostKiosk, LostPublic}
use Rattle.law.specs.declared.View.{View}
use Rattle.law.specs.Log.{Log}
use Rattle.law.specs.Law.{answer}
use Rattle.nim.specs.Nims.{nim_meaning}
use Rattle.planner.specs.Printed.{printed}
use Rattle.worked.specs.House.{house}

-- the right answers to calls on a new watch, the first call first
abbrev pub answers_after : Meaning → Log → List Call → List Answer
answers_after m L [] = []
answers_after m L (c ∷ cs) = answer m L c ∷ answers_after m (record { asked = c; told = answer m L c } ∷ L) cs

abbrev pub answers : Meaning → List Call → List Answer
answers m cs = answers_after m [] cs

-- the fifteen bytes of a sheet with one state, a start that is an end and a goal
abbrev pub smallest : List ℕ
smallest = 0x53 ∷ 0x48 ∷ 1 ∷ 1 ∷ 0 ∷ 0x53 ∷ 0x54 ∷ 0x0E ∷ 0 ∷ 0x5A ∷ 0x5A ∷ 0 ∷ 0 ∷ 0 ∷ 0 ∷ []

abbrev pub cut_short : List ℕ
cut_short = 0x53 ∷ 0x48 ∷ 1 ∷ 1 ∷ 0 ∷ 0x53 ∷ 0x54 ∷ 0x0E ∷ 0 ∷ 0x5A ∷ 0x5A ∷ 0 ∷ 0 ∷ 0 ∷ []

-- the run is over at state 3, the kiosk's, with a plan standing and nothing refused
abbrev pub over_at_three : View
over_at_three = record { position = Some 3; public = Some false; over = true; bars = 0; planned = true; refusals = 0 }

pub record WorkedCases : Type 0 where
  -- the house game: held within 4; ratings of 5, 2 and 4
  pub house_ratings : answers house (Plan ∷ Rate 5 ∷ Rate 2 ∷ Rate 4 ∷ []) ≡ Planned (Held 4) ∷ Rated (Kiosk 2 3) ∷ Rated (LostPublic 1) ∷ Rated LostEnd ∷ []
  -- lost at 0 once label 3 is barred
  pub house_without_three : answers house (Bar 3 ∷ Plan ∷ []) ≡ Barred 1 ∷ Planned (Lost 0) ∷ []
  -- with label 1 barred alone, 0 is lost at the kiosk's turn
  pub house_without_one : answers house (Bar 1 ∷ Plan ∷ Rate 0 ∷ []) ≡ Barred 1 ∷ Planned (Lost 0) ∷ Rated LostKiosk ∷ []
  -- the run through 1, 5 and 6 to the goal
  pub house_run : answers house (Plan ∷ Open 0 ∷ Reply ∷ Report 1 ∷ Reply ∷ Report 0 ∷ Look ∷ []) ≡ Planned (Held 4) ∷ Opened 4 ∷ Replied 1 3 ∷ Reported 5 ∷ Replied 3 1 ∷ Reported 3 ∷ Seen over_at_three ∷ []
  -- Fibonacci Nim with 4 matches is held within 3, its start has choice 1; with 2 matches it is lost
  pub nim_four : answers (nim_meaning 4) (Plan ∷ Rate 19 ∷ []) ≡ Planned (Held 3) ∷ Rated (Kiosk 3 1) ∷ []
  pub nim_two : answers (nim_meaning 2) (Plan ∷ []) ≡ Planned (Lost 5) ∷ []
  -- what is printed of the fifteen bytes, and of all but the last
  pub smallest_printed : printed smallest ≡ codes "HELD 0\n"
  pub cut_printed : printed cut_short ≡ codes "REFUSED 2 2 11\n"
