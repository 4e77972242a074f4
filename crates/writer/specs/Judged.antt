-- What tables hold, and why no reading gives them.

use Rattle.std.specs.Prelude.{◌≡◌, ℕ, List, length, Err, Option}
use Rattle.std.specs.List.{flat_map}
use Rattle.format.specs.declared.WriteFault.{WriteFault}
use Rattle.format.specs.Format.{Sheet, move_bytes}
use Rattle.format.specs.Tables.{arcs_of, sheet_in}
use Rattle.format.specs.Writing.{first_unsound, write_result}
use Rattle.writer.specs.declared.Tables.{Tables}
use Rattle.writer.specs.Parts.{rows_bytes}

-- the sheet that the tables hold
abbrev pub sheet_of : Tables → Sheet
sheet_of t = sheet_in t.names.now t.rows.now t.moves.now

-- the records of its states
abbrev pub states_bytes : Tables → List ℕ
states_bytes t = rows_bytes t.names.now t.rows.now

-- the records of its moves
abbrev pub arcs_bytes : Tables → List ℕ
arcs_bytes t = flat_map move_bytes (arcs_of 0 t.rows.now t.moves.now)

-- the first row that no reading gives, or the number of rows if moves are left over
abbrev pub first_fault : Tables → Option ℕ
first_fault t = first_unsound 0 0 (length t.rows.now) t.names.now t.moves.now t.rows.now

-- a writing answers this fault, whatever the output is
abbrev pub Refused : WriteFault → Tables → Type 0
Refused e t = (out : List ℕ) → write_result t.rows.now t.moves.now t.names.now out ≡ (Err e, out)
