-- What a reading answers and leaves in the tables, for all bytes: each refusal in its order.

use Rattle.std.specs.Prelude.{ℕ, zero, suc, ◌+◌, ◌-◌, cond, List, [], ◌∷◌, ◌++◌, map, length, replicate, Some, None, Ok, Err, Option, Result, ◌==◌, nat_le}
use Rattle.records.specs.declared.RecordFault.{RecordFault}
use Rattle.records.specs.declared.SheetFault.{SheetFault}
use Rattle.records.specs.declared.SheetFault.TheVariants.{Record, Order, Count, Excess, Room}
use Rattle.records.specs.declared.Expect.TheVariants as expects
use Rattle.records.specs.Records.{Item, head, state, move, end, next, record_at}
use Rattle.sheet.specs.declared.Row.{Row}
use Rattle.sheet.specs.declared.Move.{Move}
use Rattle.format.specs.declared.Arc.{Arc}
use Rattle.format.specs.declared.Counts.{Counts}
use Rattle.format.specs.Format.{above_last}
use Rattle.format.specs.Tables.{move_of, counted}
use Rattle.sheet.specs.Sheets.{zero_row, zero_move}

-- a fault of a record is one of the sheet
abbrev pub in_sheet : {A : Type 0} → Result A RecordFault → Result A SheetFault
in_sheet (Ok a) = Ok a
in_sheet (Err e) = Err (Record e)

-- the number of states that the first record gives
abbrev pub size_of : Item → ℕ
size_of (head size) = size
size_of (state f p name) = 0
size_of (move s l t) = 0
size_of (end c) = 0

-- a state as a row with no moves yet
abbrev pub row_of : Item → Row
row_of (state f p name) = record { flags = f; place = p; len = length name; first = 0; count = 0 }
row_of (head size) = zero_row
row_of (move s l t) = zero_row
row_of (end c) = zero_row

-- the size, and where the record after the first begins
abbrev pub head_size : List ℕ → Result (ℕ × ℕ) SheetFault
head_size bs = next (in_sheet (record_at expects.Head bs 0 0)) (λ p. Ok (size_of p.0, p.1))

-- the state at `at` as a row, and where the next record begins; `n` is the record's index
abbrev pub state_row : List ℕ → ℕ → ℕ → Result (Row × ℕ) SheetFault
state_row bs at n = next (in_sheet (record_at expects.State bs at n)) (λ p. Ok (row_of p.0, p.1))

-- what was read, after the entries in front of it
abbrev pub prepend : {A E : Type 0} → List A → Result (List A × ℕ) E → Result (List A × ℕ) E
prepend xs (Ok p) = Ok (xs ++ p.0, p.1)
prepend xs (Err e) = Err e

-- the rows of the next `k` states, and where the record after them begins
abbrev pub states_from : ℕ → List ℕ → ℕ → ℕ → Result (List Row × ℕ) SheetFault
states_from zero bs at n = Ok ([], at)
states_from (suc k) bs at n = next (state_row bs at n) (λ p. prepend (p.0 ∷ []) (states_from k bs p.1 (n + 1)))

-- a move above the last one and where the next record begins, or the end with the right count and nothing after it
abbrev pub tail_judged : Option Arc → List ℕ → ℕ → ℕ → ℕ → Item → ℕ → Result (Option (Arc × ℕ)) SheetFault
tail_judged last bs at n k (move s l t) nx =
    cond (above_last last (record { source = s; label = l; target = t })) (Ok (Some (record { source = s; label = l; target = t }, nx))) (Err (Order n at))
tail_judged last bs at n k (end c) nx = cond (c == k) (cond (nx == length bs) (Ok None) (Err (Excess n nx))) (Err (Count n at))
tail_judged last bs at n k (head size) nx = Err (Order n at)
tail_judged last bs at n k (state f p name) nx = Err (Order n at)

-- the same from the bytes: the record at `at`, behind `k` moves of a sheet of `size` states
abbrev pub tail_at : ℕ → Option Arc → List ℕ → ℕ → ℕ → Result (Option (Arc × ℕ)) SheetFault
tail_at size last bs at k =
    next (in_sheet (record_at (expects.Tail size) bs at (size + 1 + k))) (λ p. tail_judged last bs at (size + 1 + k) k p.0 p.1)

-- goes on behind a move, and stops at the end
abbrev pub onward : ℕ → Option (Arc × ℕ) → (Arc → ℕ → Result (List Arc × ℕ) SheetFault) → Result (List Arc × ℕ) SheetFault
onward at (Some p) go = prepend (p.0 ∷ []) (go p.0 p.1)
onward at None go = Ok ([], at)

-- the moves from here on, where the table has room for `room` more
abbrev pub moves_from : ℕ → ℕ → Option Arc → List ℕ → ℕ → ℕ → Result (List Arc × ℕ) SheetFault
moves_from zero size last bs at k = next (tail_at size last bs at k) (λ t. onward at t (λ _ _. Err (Room (size + 1 + k) at)))
moves_from (suc room) size last bs at k =
    next (tail_at size last bs at k) (λ t. onward at t (λ a nx. moves_from room size (Some a) bs nx (k + 1)))

-- the rows without their moves, and the moves, that the bytes give to tables of `n` rows and `m` moves
abbrev pub reading : ℕ → ℕ → List ℕ → Result (List Row × List Arc) SheetFault
reading n m bs =
    next (head_size bs)
    (λ h. cond (nat_le h.0 n)
    (next (states_from h.0 bs h.1 1) (λ s. next (moves_from m h.0 None bs s.1 0) (λ a. Ok (s.0, a.0))))
    (Err (Room 0 0)))

-- the tables of `n` rows and `m` moves after a reading: unused entries, and on a refusal all, are zero
abbrev pub filled : ℕ → ℕ → Result (List Row × List Arc) SheetFault → Result Counts SheetFault × List Row × List Move
filled n m (Ok p) = (
  Ok (record { states = length p.0; moves = length p.1 }),
  counted 0 p.1 p.0 ++ replicate (n - length p.0) zero_row,
  map move_of p.1 ++ replicate (m - length p.1) zero_move,
)
filled n m (Err e) = (Err e, replicate n zero_row, replicate m zero_move)

-- what a reading answers, and what the tables of `n` rows and `m` moves then hold
abbrev pub read_result : ℕ → ℕ → List ℕ → Result Counts SheetFault × List Row × List Move
read_result n m bs = filled n m (reading n m bs)
