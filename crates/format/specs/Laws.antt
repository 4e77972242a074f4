-- Reading and writing undo one another, and no two sheets have the same bytes.

use Rattle.std.specs.Prelude.{◌≡◌, ℕ, ◌-◌, ◌≤◌, List, ◌++◌, map, length, take, replicate, IfOk, Ok, Result, OnOk}
use Rattle.records.specs.declared.SheetFault.{SheetFault}
use Rattle.sheet.specs.declared.Row.{Row}
use Rattle.sheet.specs.declared.Move.{Move}
use Rattle.format.specs.declared.Counts.{Counts}
use Rattle.format.specs.declared.WriteFault.{WriteFault}
use Rattle.format.specs.Format.{Sheet, Fits, encode}
use Rattle.format.specs.Tables.{rows_of, moves_of, state_in, relocated}
use Rattle.sheet.specs.Sheets.{zero_row, zero_move}
use Rattle.format.specs.Reading.{read_result}
use Rattle.format.specs.Writing.{write_result, over}

-- the bytes are those of the sheet `s`, which fits the format and two tables of `n` rows and `m` moves
abbrev pub Encodes : ℕ → ℕ → List ℕ → Sheet → Type 0
Encodes n m bs s = Fits s × (encode s ≡ bs) × (length s.states ≤ n) × (length s.moves ≤ m)

-- the answer to a sheet's bytes, and its tables
abbrev pub loaded : Sheet → ℕ → ℕ → Result Counts SheetFault × List Row × List Move
loaded s n m = (
  Ok (record { states = length s.states; moves = length s.moves }),
  rows_of s ++ replicate (n - length s.states) zero_row,
  moves_of s ++ replicate (m - length s.moves) zero_move,
)

-- bytes are read exactly if they are those of a sheet that fits, and what is read is that sheet
abbrev pub ReadExactly : ℕ → ℕ → List ℕ → Result Counts SheetFault × List Row × List Move → Type 0
ReadExactly n m bs t =
    OnOk t.0 ((s : Sheet) × Encodes n m bs s × (t ≡ loaded s n m))
    × ((s : Sheet) → Encodes n m bs s → t ≡ loaded s n m)

-- no two sheets have the same bytes
abbrev pub Unique : List ℕ → Type 0
Unique bs = (s t : Sheet) → Fits s → Fits t → encode s ≡ bs → encode t ≡ bs → s ≡ t

-- writing what was read restores the bytes
abbrev pub WritesBack : List ℕ → Result Counts SheetFault × List Row × List Move → Type 0
WritesBack bs t =
    IfOk t.0 (λ c. (out : List ℕ) → length bs ≤ length out
    → write_result (take c.states t.1) (take c.moves t.2) bs out ≡ (Ok (length bs), over bs out))

-- reading what was written restores rows, moves and names; a name lies where its record has it
abbrev pub ReadsBack : List Row → List Move → List ℕ → List ℕ → Type 0
ReadsBack rows ms names bs =
    ((n m : ℕ) → length rows ≤ n → length ms ≤ m
    → read_result n m bs
    ≡ (
      Ok (record { states = length rows; moves = length ms }),
      relocated 5 rows ++ replicate (n - length rows) zero_row,
      ms ++ replicate (m - length ms) zero_move,
    ))
    × (map (state_in bs) (relocated 5 rows) ≡ map (state_in names) rows)

-- what was written, if anything, can be read back
abbrev pub Restores : List Row → List Move → List ℕ → Result ℕ WriteFault × List ℕ → Type 0
Restores rows ms names t = IfOk t.0 (λ len. ReadsBack rows ms names (take len t.1))
