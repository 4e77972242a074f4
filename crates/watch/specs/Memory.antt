-- What a watch holds beside its game, and what each call leaves in it.
use Rattle.std.specs.Prelude.{◌≡◌, ℕ, ◌+◌, min, Bool, true, false, not, ◌&&◌, replicate, Some, None, Ok, Err, Option, Result}
use Rattle.game.specs.Meaning.{Meaning, done}
use Rattle.game.specs.Ranks.{Bars, bits, set_label}
use Rattle.law.specs.declared.Fault.{Fault}
use Rattle.law.specs.declared.Verdict.{Verdict}
use Rattle.law.specs.declared.Call.{Call}
use Rattle.law.specs.declared.Call.TheVariants.{Bar, Lift}
use Rattle.law.specs.declared.Fault.TheVariants.{NoRun, RunOver, OtherTurn}
use Rattle.law.specs.Answers.{Ranking, refuse_if}
use Rattle.law.specs.Log.{behind}
use Rattle.labelset.specs.Bits.{has_bit}
use Rattle.solver.specs.Cells.{empty, ranking_in, Solved}
use Rattle.watch.specs.declared.Table.{Table}
use Rattle.watch.specs.declared.Memory.{Memory}

-- the labels that are barred
abbrev pub bars_of : Memory → Bars
bars_of d = has_bit d.bars

-- what the cells say of each state
abbrev pub ranking_of : Memory → Ranking
ranking_of d = ranking_in d.table.cells

-- what a new watch holds: no bars, no run, no plan, nothing refused, and empty cells
abbrev pub new_memory : Memory
new_memory = record { bars = 0; position = None; planned = false; refusals = 0; table = record { cells = replicate 4096 empty } }

-- one refusal more, up to 4,294,967,295, and nothing else
abbrev pub counted : Memory → Memory
counted d = record { bars = d.bars; position = d.position; planned = d.planned; refusals = min (d.refusals + 1) 4294967295; table = d.table }

-- another position, and nothing else
abbrev pub moved_to : Memory → Option ℕ → Memory
moved_to d p = record { bars = d.bars; position = p; planned = d.planned; refusals = d.refusals; table = d.table }

-- other bars; the plan falls if `stays` is false
abbrev pub with_bars : Memory → Bars → Bool → Memory
with_bars d b stays = record { bars = bits b 64; position = d.position; planned = d.planned && stays; refusals = d.refusals; table = d.table }

-- a plan that stands
abbrev pub with_plan : Memory → Table → Memory
with_plan d t = record { bars = d.bars; position = d.position; planned = true; refusals = d.refusals; table = t }

-- what a call leaves: a refused one moves nothing but the count
abbrev pub after : {A : Type 0} → Result A Fault → Memory → Memory → Memory
after (Ok a) d e = e
after (Err f) d e = counted d

-- plan leaves solved cells
abbrev pub AfterPlan : Meaning → Memory → Result Verdict Fault → Memory → Type 0
AfterPlan m d (Ok v) e = (e ≡ with_plan d e.table) × Solved m (bars_of d) e.table.cells
AfterPlan m d (Err f) e = e ≡ counted d

-- the position behind the label that reply answered
abbrev pub replied_to : Meaning → Memory → Result (ℕ × ℕ) Fault → Option ℕ
replied_to m d (Ok x) = behind m d.position x.0
replied_to m d (Err f) = None

abbrev pub agree : Bool → Bool → Bool
agree true t = t
agree false t = not t

-- bar puts the label in and lift takes it out; the plan stays if that changes nothing
abbrev pub changed : Memory → ℕ → Bool → Memory
changed d x member = with_bars d (set_label (bars_of d) x member) (agree (bars_of d x) member)

-- the call that puts a label into the set of bars, or takes it out
abbrev pub change_call : Bool → ℕ → Call
change_call true x = Bar x
change_call false x = Lift x

-- not the turn that is asked for
abbrev pub other_turn : Bool → Bool → Bool
other_turn true public = not public
other_turn false public = public

-- the position of a run that goes on, at the turn that is asked for
abbrev pub position_at : Meaning → Option ℕ → Bool → Result ℕ Fault
position_at m None public = Err NoRun
position_at m (Some p) public = refuse_if (done m p) RunOver (refuse_if (other_turn public (m.public p)) OtherTurn (Ok p))
