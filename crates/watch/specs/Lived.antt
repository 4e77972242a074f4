-- A watch that has lived through a list of calls: what its memory shows of them, and the law at that list.
use Rattle.std.specs.Prelude.{◌≡◌, ℕ, ◌^◌, ◌<◌, min, true, List, [], ◌∷◌, length, take}
use Rattle.game.specs.Meaning.{Meaning}
use Rattle.law.specs.declared.Call.{Call}
use Rattle.law.specs.declared.Answer.{Answer}
use Rattle.law.specs.Log.{Entry, Log, barred, stands, position, refusals}
use Rattle.law.specs.Law.{Kept, Relies}
use Rattle.solver.specs.Cells.{Solved}
use Rattle.watch.specs.declared.Memory.{Memory}
use Rattle.watch.specs.Memory.{bars_of}

-- what the memory shows of the calls of L
pub record Shows (m : Meaning) (L : Log) (d : Memory) : Type 0 where
  pub bars_are : (x : ℕ) → bars_of d x ≡ barred L x
  pub bars_fit : d.bars < 2 ^ 64
  pub at_position : d.position ≡ position m L
  pub plan : d.planned ≡ stands L
  pub table_is : stands L ≡ true → Solved m (barred L) d.table.cells
  pub count : d.refusals ≡ min (refusals L) 4294967295

-- The watch has answered the calls of L, every answer was the right one, and all that the law says may be relied on.
pub record Lived (m : Meaning) (L : Log) (d : Memory) : Type 0 where
  pub shows : Shows m L d
  pub kept : Kept m L
  pub relies : Relies m L

abbrev pub entry : Call → Answer → Entry
entry c a = record { asked = c; told = a }

-- a call extends every list that the watch has lived through by itself and its answer
abbrev pub Extends : Meaning → Memory → Call → Answer → Memory → Type 0
Extends m d c a e = (L : Log) → Lived m L d → Lived m (entry c a ∷ L) e

-- the list L, and then the calls with their answers, the first one first
abbrev pub logged : List Call → List Answer → Log → Log
logged [] rs L = L
logged (q ∷ qs) [] L = L
logged (q ∷ qs) (r ∷ rs) L = logged qs rs (entry q r ∷ L)

-- Of a list of calls and their answers on a new watch: every answer is the right one, and the whole law holds there.
pub record LawHolds (m : Meaning) (L : Log) : Type 0 where
  pub right : Kept m L
  pub relies : Relies m L

-- how many calls are carried out: as many as there is room for answers
abbrev pub carried_out : List Call → List Answer → ℕ
carried_out qs rs = min (length qs) (length rs)

-- the list after the first n calls with their answers
abbrev pub log_of : ℕ → List Call → List Answer → Log → Log
log_of n qs rs L = logged (take n qs) (take n rs) L
