-- The house game as the two tables of its sheet: seven unnamed states.
use Rattle.std.specs.Prelude.{ℕ, List, [], ◌∷◌}
use Rattle.sheet.specs.declared.Row.{Row}
use Rattle.sheet.specs.declared.Move.{Move}
use Rattle.sheet.specs.Sheets.{sheet_meaning}
use Rattle.game.specs.Meaning.{Meaning}

-- a state with flags, where its record has the (empty) name, and its moves
abbrev pub row : ℕ → ℕ → ℕ → ℕ → Row
row flags place first count = record { flags = flags; place = place; len = 0; first = first; count = count }

abbrev pub move : ℕ → ℕ → Move
move label target = record { label = label; target = target }

-- 0 kiosk and start; 1, 2, 6 public; 3 kiosk, end and goal; 4 kiosk and end; 5 kiosk
abbrev pub house_rows : List Row
house_rows = row 2 9 0 2 ∷ row 1 13 2 2 ∷ row 1 17 4 2 ∷ row 12 21 6 0 ∷ row 4 25 6 0 ∷ row 0 29 6 2 ∷ row 1 33 8 1 ∷ []

abbrev pub house_moves : List Move
house_moves = move 1 1 ∷ move 2 2 ∷ move 0 3 ∷ move 1 5 ∷ move 0 3 ∷ move 1 4 ∷ move 1 1 ∷ move 3 6 ∷ move 0 3 ∷ []

abbrev pub house : Meaning
house = sheet_meaning house_rows house_moves
