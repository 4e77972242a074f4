-- Small sheets read and written, by computation.

use Rattle.std.proofs.Common.{◌≡◌, ℕ, List, [], ◌∷◌, replicate, Ok, Err, refl}
use Rattle.records.specs.declared.RecordFault.TheVariants.{Byte}
use Rattle.records.specs.declared.SheetFault.TheVariants.{Record}
use Rattle.sheet.specs.declared.Row.{Row}
use Rattle.sheet.specs.declared.Move.{Move}
use Rattle.format.specs.declared.WriteFault.TheVariants.{Unsound, Room}
use Rattle.sheet.specs.Sheets.{zero_row, zero_move}
use Rattle.format.specs.Reading.{read_result}
use Rattle.format.specs.Writing.{write_result}

-- worked cases

smallest : read_result 2 1 (0x53 ∷ 0x48 ∷ 1 ∷ 1 ∷ 0 ∷ 0x53 ∷ 0x54 ∷ 0x0E ∷ 0 ∷ 0x5A ∷ 0x5A ∷ 0 ∷ 0 ∷ 0 ∷ 0 ∷ []) ≡ (Ok (record { states = 1; moves = 0 }), record { flags = 14; place = 9; len = 0; first = 0; count = 0 } ∷ zero_row ∷ [], zero_move ∷ [])
smallest = refl

cut : read_result 1 0 (0x53 ∷ 0x48 ∷ 1 ∷ 1 ∷ 0 ∷ 0x53 ∷ 0x54 ∷ 0x0E ∷ 0 ∷ 0x5A ∷ 0x5A ∷ 0 ∷ 0 ∷ 0 ∷ []) ≡ (Err (Record (Byte (record { index = 2; offset = 11 }))), zero_row ∷ [], [])
cut = refl

-- two states, the second named "a", and one move from 0 to 1 by label 7
abbrev two_bytes : List ℕ
two_bytes = 0x53 ∷ 0x48 ∷ 1 ∷ 2 ∷ 0 ∷ 0x53 ∷ 0x54 ∷ 2 ∷ 0 ∷ 0x53 ∷ 0x54 ∷ 12 ∷ 1 ∷ 0x61 ∷ 0x4D ∷ 0x56 ∷ 0 ∷ 0 ∷ 7 ∷ 1 ∷ 0 ∷ 0x5A ∷ 0x5A ∷ 1 ∷ 0 ∷ 0 ∷ 0 ∷ []

abbrev row : ℕ → ℕ → ℕ → ℕ → ℕ → Row
row flags place len first count = record { flags = flags; place = place; len = len; first = first; count = count }

abbrev move : ℕ → ℕ → Move
move label target = record { label = label; target = target }

read_two : read_result 2 1 two_bytes ≡ (Ok (record { states = 2; moves = 1 }), row 2 9 0 0 1 ∷ row 12 13 1 1 0 ∷ [], move 7 1 ∷ [])
read_two = refl

write_two : write_result (row 2 0 0 0 1 ∷ row 12 0 1 1 0 ∷ []) (move 7 1 ∷ []) (0x61 ∷ []) (replicate 27 255) ≡ (Ok 27, two_bytes)
write_two = refl

-- a gap in the first moves is the fault of the row behind it
gap : write_result (row 0 0 0 0 1 ∷ row 0 0 0 2 1 ∷ []) (move 0 0 ∷ move 0 0 ∷ move 0 0 ∷ []) [] [] ≡ (Err (Unsound 1), [])
gap = refl

-- moves left over name the number of rows
left_over : write_result (row 0 0 0 0 1 ∷ []) (move 0 0 ∷ move 1 0 ∷ []) [] [] ≡ (Err (Unsound 1), [])
left_over = refl

-- an empty name may lie at the end of the bytes, and no further
far : write_result (row 0 1 0 0 0 ∷ []) [] [] [] ≡ (Err (Unsound 0), [])
far = refl

short : write_result (row 0 0 0 0 0 ∷ []) [] [] (replicate 14 9) ≡ (Err Room, replicate 14 9)
short = refl
