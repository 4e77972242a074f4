-- A list of calls on a new watch, read by arguments and answers alone. The newest call comes first.
use Rattle.std.specs.Prelude.{ℕ, ◌+◌, Bool, true, false, cond, not, ◌&&◌, ◌||◌, List, [], ◌∷◌, Some, None, Option, ◌==◌}
use Rattle.std.specs.Option.{unwrap_or}
use Rattle.game.specs.Meaning.{Meaning}
use Rattle.law.specs.declared.Call.{Call}
use Rattle.law.specs.declared.Call.TheVariants.{Plan, Open, Reply, Report, Rate, Bar, Lift, Look, Leave}
use Rattle.law.specs.declared.Answer.{Answer}
use Rattle.law.specs.declared.Answer.TheVariants.{Planned, Opened, Replied, Reported, Rated, Barred, Seen, Left, Refused}

-- a call and its answer
pub record Entry : Type 0 where
  pub asked : Call
  pub told : Answer

abbrev pub Log : Type 0
Log = List Entry

-- a call that is not refused is accepted
abbrev pub accepted : Answer → Bool
accepted (Planned v) = true
accepted (Opened r) = true
accepted (Replied l r) = true
accepted (Reported s) = true
accepted (Rated r) = true
accepted (Barred n) = true
accepted (Seen v) = true
accepted (Left s) = true
accepted (Refused f) = false

-- what an accepted call says of label l: barred, lifted or nothing
abbrev pub says : Call → ℕ → Option Bool
says Plan l = None
says (Open s) l = None
says Reply l = None
says (Report x) l = None
says (Rate s) l = None
says (Bar x) l = cond (x == l) (Some true) None
says (Lift x) l = cond (x == l) (Some false) None
says Look l = None
says Leave l = None

-- l is barred: the last accepted bar or lift of it was a bar
abbrev pub barred : Log → ℕ → Bool
barred [] l = false
barred (e ∷ L) l = cond (accepted e.told) (unwrap_or (says e.asked l) (barred L l)) (barred L l)

-- a call that changes the set b of barred labels, if it is accepted
abbrev pub changes : (ℕ → Bool) → Call → Bool
changes b Plan = false
changes b (Open s) = false
changes b Reply = false
changes b (Report x) = false
changes b (Rate s) = false
changes b (Bar x) = not (b x)
changes b (Lift x) = b x
changes b Look = false
changes b Leave = false

abbrev pub is_plan : Call → Bool
is_plan Plan = true
is_plan (Open s) = false
is_plan Reply = false
is_plan (Report x) = false
is_plan (Rate s) = false
is_plan (Bar x) = false
is_plan (Lift x) = false
is_plan Look = false
is_plan Leave = false

-- a plan stands: one was accepted, and no bar or lift since has changed the set of barred labels
abbrev pub stands : Log → Bool
stands [] = false
stands (e ∷ L) = cond (accepted e.told) (is_plan e.asked || (stands L && not (changes (barred L) e.asked))) (stands L)

-- the state behind a label, from the position if there is one
abbrev pub behind : Meaning → Option ℕ → ℕ → Option ℕ
behind m None l = None
behind m (Some s) l = m.next s l

-- the label that reply answered
abbrev pub answered_label : Answer → ℕ
answered_label (Planned v) = 0
answered_label (Opened r) = 0
answered_label (Replied l r) = l
answered_label (Reported s) = 0
answered_label (Rated r) = 0
answered_label (Barred n) = 0
answered_label (Seen v) = 0
answered_label (Left s) = 0
answered_label (Refused f) = 0

-- the position after an accepted call, from the one before
abbrev pub moved : Meaning → Call → Answer → Option ℕ → Option ℕ
moved m Plan a p = p
moved m (Open s) a p = Some s
moved m Reply a p = behind m p (answered_label a)
moved m (Report l) a p = behind m p l
moved m (Rate s) a p = p
moved m (Bar x) a p = p
moved m (Lift x) a p = p
moved m Look a p = p
moved m Leave a p = None

-- the position of the open run, if one is open
abbrev pub position : Meaning → Log → Option ℕ
position m [] = None
position m (e ∷ L) = cond (accepted e.told) (moved m e.asked e.told (position m L)) (position m L)

-- reply and report are the moves of a run
abbrev pub is_move : Call → Bool
is_move Plan = false
is_move (Open s) = false
is_move Reply = true
is_move (Report x) = true
is_move (Rate s) = false
is_move (Bar x) = false
is_move (Lift x) = false
is_move Look = false
is_move Leave = false

-- a call that breaks a run off, if it is accepted
abbrev pub breaks_off : Call → Bool
breaks_off Plan = false
breaks_off (Open s) = false
breaks_off Reply = false
breaks_off (Report x) = false
breaks_off (Rate s) = false
breaks_off (Bar x) = false
breaks_off (Lift x) = false
breaks_off Look = false
breaks_off Leave = true

-- how many moves were accepted
abbrev pub accepted_moves : Log → ℕ
accepted_moves [] = 0
accepted_moves (e ∷ L) = cond (accepted e.told && is_move e.asked) 1 0 + accepted_moves L

-- how many calls were refused
abbrev pub refusals : Log → ℕ
refusals [] = 0
refusals (e ∷ L) = cond (accepted e.told) 0 1 + refusals L
