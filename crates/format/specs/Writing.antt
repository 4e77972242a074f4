-- What a writing answers and leaves in the output, for all tables.

use Rattle.std.specs.Prelude.{ℕ, ◌+◌, Bool, true, cond, ◌&&◌, List, [], ◌∷◌, ◌++◌, length, take, drop, Some, None, Ok, Err, Option, Result, ◌==◌, nat_le, nat_lt}
use Rattle.records.specs.Fields.{are_flags, all_printable}
use Rattle.sheet.specs.declared.Row.{Row}
use Rattle.sheet.specs.declared.Move.{Move}
use Rattle.format.specs.declared.WriteFault.{WriteFault}
use Rattle.format.specs.declared.WriteFault.TheVariants.{Size, Unsound, Room}
use Rattle.format.specs.Format.{encode}
use Rattle.format.specs.Tables.{name_in, sheet_in}

-- labels rise strictly from `low` on and lie below 64, and targets are states
abbrev pub moves_sound : ℕ → ℕ → List Move → Bool
moves_sound size low [] = true
moves_sound size low (m ∷ ms) = nat_le low m.label && (nat_lt m.label 64 && (nat_lt m.target size && moves_sound size (m.label + 1) ms))

-- flags and name are such as a reading gives
abbrev pub name_sound : List ℕ → Row → Bool
name_sound names r =
    are_flags r.flags && (nat_le r.len 16 && (nat_le (r.place + r.len) (length names) && all_printable (name_in names r)))

-- the row's moves are the next ones of the table, from `first` on, and such as a reading gives
abbrev pub moves_next : ℕ → List Move → ℕ → Row → Bool
moves_next size ms first r =
    (r.first == first) && (nat_le (first + r.count) (length ms) && moves_sound size 0 (take r.count (drop first ms)))

-- a reading can give the row behind rows that have the moves before `first`
abbrev pub row_sound : ℕ → List ℕ → List Move → ℕ → Row → Bool
row_sound size names ms first r = name_sound names r && moves_next size ms first r

-- the first row, from number `i` on, that is not sound behind the rows before it; or the number of rows, if moves are left over
abbrev pub first_unsound : ℕ → ℕ → ℕ → List ℕ → List Move → List Row → Option ℕ
first_unsound i first size names ms [] = cond (first == length ms) None (Some i)
first_unsound i first size names ms (r ∷ rs) =
    cond (row_sound size names ms first r) (first_unsound (i + 1) (first + r.count) size names ms rs) (Some i)

-- `w` written over the front of `out`
abbrev pub over : List ℕ → List ℕ → List ℕ
over w out = w ++ drop (length w) out

-- `w` written over `out` from `at` on
abbrev pub put : ℕ → List ℕ → List ℕ → List ℕ
put at w out = take at out ++ (w ++ drop (at + length w) out)

-- the bytes, if there is room for them
abbrev pub fitted : List ℕ → List ℕ → Result ℕ WriteFault × List ℕ
fitted bytes out = cond (nat_le (length bytes) (length out)) (Ok (length bytes), over bytes out) (Err Room, out)

-- the bytes, unless a row was found unsound
abbrev pub unless : Option ℕ → List ℕ → List ℕ → Result ℕ WriteFault × List ℕ
unless None bytes out = fitted bytes out
unless (Some i) bytes out = (Err (Unsound i), out)

-- what a writing answers, and what the output then holds
abbrev pub write_result : List Row → List Move → List ℕ → List ℕ → Result ℕ WriteFault × List ℕ
write_result rows ms names out =
    cond (nat_le 1 (length rows) && nat_le (length rows) 4096)
    (unless (first_unsound 0 0 (length rows) names ms rows) (encode (sheet_in names rows ms)) out)
    (Err Size, out)
