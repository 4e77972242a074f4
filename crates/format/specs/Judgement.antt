-- Which tables the writer takes, in terms of readings: those that a reading gives, wherever the names lie.

use Rattle.std.specs.Prelude.{◌≡◌, ℕ, ◌+◌, ◌<◌, ◌≤◌, ◌⊎◌, List, map, length, take, Ok, Err, sum_by, Result}
use Rattle.std.specs.List.{AllByRecursion}
use Rattle.sheet.specs.declared.Row.{Row}
use Rattle.sheet.specs.declared.Move.{Move}
use Rattle.format.specs.declared.WriteFault.{WriteFault}
use Rattle.format.specs.declared.WriteFault.TheVariants.{Size, Unsound, Room}
use Rattle.format.specs.Format.{Sheet, Fits, encode}
use Rattle.format.specs.Tables.{rows_of, moves_of, state_in, moves_in, relocated}
use Rattle.format.specs.Writing.{fitted}

-- the row's name lies inside the bytes that hold the names
abbrev pub NameInside : List ℕ → Row → Type 0
NameInside names r = r.place + r.len ≤ length names

-- the row's moves lie inside the table
abbrev pub MovesInside : List Move → Row → Type 0
MovesInside ms r = r.first + r.count ≤ length ms

-- the reading of the sheet `s`, of `size` states, begins with these rows, their names and their moves
pub record Begins (size : ℕ) (names : List ℕ) (ms : List Move) (rows : List Row) (s : Sheet) : Type 0 where
  pub fits : Fits s
  pub sized : length s.states ≡ size
  pub rows_read : take (length rows) (rows_of s) ≡ relocated 5 rows
  pub names_read : take (length rows) s.states ≡ map (state_in names) rows
  pub moves_read : map (moves_in (moves_of s)) rows ≡ map (moves_in ms) rows
  pub names_inside : AllByRecursion (NameInside names) rows
  pub moves_inside : AllByRecursion (MovesInside ms) rows

-- the reading of the sheet `s` gives these rows, names and moves, and no others
pub record Gives (names : List ℕ) (ms : List Move) (rows : List Row) (s : Sheet) : Type 0 where
  pub fits : Fits s
  pub rows_read : rows_of s ≡ relocated 5 rows
  pub names_read : s.states ≡ map (state_in names) rows
  pub moves_read : moves_of s ≡ ms
  pub names_inside : AllByRecursion (NameInside names) rows

-- how many moves the rows count together
abbrev pub counts_of : List Row → ℕ
counts_of rows = sum_by (λ (r : Row). r.count) rows

-- some reading begins with the rows before `i`, but none with those up to `i`; or `i` is the number of rows, and moves are left over
abbrev pub FirstUnread : List ℕ → List Move → List Row → ℕ → Type 0
FirstUnread names ms rows i =
    ((s : Sheet) × Begins (length rows) names ms (take i rows) s)
    × (((i < length rows) × ((s : Sheet) → Begins (length rows) names ms (take (i + 1) rows) s → ⊥))
    ⊎ ((i ≡ length rows) × (counts_of rows < length ms)))

-- what the writer's answer says of the tables: `len` bytes are those of a sheet whose reading gives them, and each refusal has its reason
abbrev pub Judges : List Row → List Move → List ℕ → List ℕ → Result ℕ WriteFault → Type 0
Judges rows ms names out (Ok len) = (s : Sheet) × Gives names ms rows s × (len ≡ length (encode s)) × (len ≤ length out)
Judges rows ms names out (Err Size) = (length rows < 1) ⊎ (4096 < length rows)
Judges rows ms names out (Err (Unsound i)) = (1 ≤ length rows) × (length rows ≤ 4096) × FirstUnread names ms rows i
Judges rows ms names out (Err Room) = (s : Sheet) × Gives names ms rows s × (length out < length (encode s))

-- tables that the reading of a sheet gives are written as that sheet's bytes, if there is room
abbrev pub WriteExactly : List Row → List Move → List ℕ → List ℕ → Result ℕ WriteFault × List ℕ → Type 0
WriteExactly rows ms names out t =
    Judges rows ms names out t.0 × ((s : Sheet) → Gives names ms rows s → t ≡ fitted (encode s) out)
