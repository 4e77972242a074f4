-- Words for the parts of a sheet's bytes.

use Rattle.std.specs.Prelude.{ℕ, ◌+◌, ◌≤◌, Bool, ◌&&◌, List, length, nat_lt}
use Rattle.std.specs.List.{flat_map}
use Rattle.sheet.specs.declared.Row.{Row}
use Rattle.sheet.specs.declared.Move.{Move}
use Rattle.format.specs.Format.{state_bytes, move_bytes}
use Rattle.format.specs.Tables.{state_in, arc_of}

-- the records of the states that the rows hold
abbrev pub rows_bytes : List ℕ → List Row → List ℕ
rows_bytes names rows = flat_map (λ r. state_bytes (state_in names r)) rows

-- the records of moves from one source
abbrev pub moves_bytes : ℕ → List Move → List ℕ
moves_bytes source ms = flat_map (λ m. move_bytes (arc_of source m)) ms

-- the label lies below 64, and the target is a state
abbrev pub move_fits : ℕ → Move → Bool
move_fits size m = nat_lt m.label 64 && nat_lt m.target size

-- the name is short, and lies within the bytes that hold the names
abbrev pub Named : List ℕ → Row → Type 0
Named names r = (r.len ≤ 16) × (r.place + r.len ≤ length names)

-- the length of a row's name
abbrev pub name_len : Row → ℕ
name_len r = r.len
