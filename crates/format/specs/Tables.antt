-- From a sheet to its tables of rows and moves, and back.

use Rattle.std.specs.Prelude.{ℕ, ◌+◌, List, [], ◌∷◌, ◌++◌, map, length, take, drop, count_by, nat_eq, nat_lt}
use Rattle.sheet.specs.declared.Row.{Row}
use Rattle.sheet.specs.declared.Move.{Move}
use Rattle.format.specs.declared.Arc.{Arc}
use Rattle.format.specs.Format.{State, Sheet}

-- From a sheet to its tables

-- a move without its source
abbrev pub move_of : Arc → Move
move_of a = record { label = a.label; target = a.target }

-- how many moves have the source `i`
abbrev pub own : ℕ → List Arc → ℕ
own i arcs = count_by (λ a. nat_eq a.source i) arcs

-- how many moves have a lower source than `i`
abbrev pub lower : ℕ → List Arc → ℕ
lower i arcs = count_by (λ a. nat_lt a.source i) arcs

-- rows that know no moves yet, where the record of the first begins at `at`
abbrev pub placed : ℕ → List State → List Row
placed at [] = []
placed at (s ∷ ss) =
    record { flags = s.flags; place = at + 4; len = length s.name; first = 0; count = 0 } ∷ placed (at + 4 + length s.name) ss

-- the rows from number `i` on, with their moves
abbrev pub counted : ℕ → List Arc → List Row → List Row
counted i arcs [] = []
counted i arcs (r ∷ rs) =
    record { flags = r.flags; place = r.place; len = r.len; first = lower i arcs; count = own i arcs } ∷ counted (i + 1) arcs rs

-- the rows of a sheet, names placed as its bytes have them
abbrev pub rows_of : Sheet → List Row
rows_of s = counted 0 s.moves (placed 5 s.states)

-- the move table of a sheet
abbrev pub moves_of : Sheet → List Move
moves_of s = map move_of s.moves

-- From tables to the sheet that they hold, the names taken from `names`

-- the name of a row
abbrev pub name_in : List ℕ → Row → List ℕ
name_in names r = take r.len (drop r.place names)

-- the moves of a row
abbrev pub moves_in : List Move → Row → List Move
moves_in ms r = take r.count (drop r.first ms)

-- the state of a row
abbrev pub state_in : List ℕ → Row → State
state_in names r = record { flags = r.flags; name = name_in names r }

-- a move of the row `i`
abbrev pub arc_of : ℕ → Move → Arc
arc_of i m = record { source = i; label = m.label; target = m.target }

-- the moves of the rows from number `i` on, one row after the other
abbrev pub arcs_of : ℕ → List Row → List Move → List Arc
arcs_of i [] ms = []
arcs_of i (r ∷ rs) ms = map (arc_of i) (take r.count ms) ++ arcs_of (i + 1) rs (drop r.count ms)

-- the sheet that the tables hold
abbrev pub sheet_in : List ℕ → List Row → List Move → Sheet
sheet_in names rows ms = record { states = map (state_in names) rows; moves = arcs_of 0 rows ms }

-- rows whose names lie where their records, the first at `at`, have them
abbrev pub relocated : ℕ → List Row → List Row
relocated at [] = []
relocated at (r ∷ rs) =
    record { flags = r.flags; place = at + 4; len = r.len; first = r.first; count = r.count } ∷ relocated (at + 4 + r.len) rs
