-- Words for the reader's inner functions: how the tables fill. What a reading leaves in the end is said without them.

use Rattle.std.specs.Prelude.{ℕ, ◌+◌, ◌<◌, cond, List, [], ◌∷◌, ◌++◌, length, drop, replicate, Some, None, Ok, Err, Option, Result, nat_le, slice_index_or, slice_set}
use Rattle.records.specs.declared.SheetFault.{SheetFault}
use Rattle.records.specs.declared.SheetFault.TheVariants.{Room}
use Rattle.records.specs.Records.{next}
use Rattle.sheet.specs.declared.Move.{Move}
use Rattle.sheet.specs.declared.Row.{Row}
use Rattle.format.specs.declared.Arc.{Arc}
use Rattle.format.specs.declared.Counts.{Counts}
use Rattle.format.specs.Tables.{move_of}
use Rattle.sheet.specs.Sheets.{zero_row, zero_move}
use Rattle.format.specs.Reading.{head_size, states_from, moves_from}

-- the entries read so far, with where the next record begins
abbrev pub shown_filled : {A E : Type 0} → Result ℕ E → List A → Result (List A × ℕ) E
shown_filled (Ok at) xs = Ok (xs, at)
shown_filled (Err e) xs = Err e

-- a move that was read has its source among the rows
abbrev pub source_below : ℕ → Option (Arc × ℕ) → Type 0
source_below size (Some p) = p.0.source < size
source_below size None = Unit {0}

-- a row's number of moves
abbrev pub count_of : Row → ℕ
count_of r = r.count

-- one move more
abbrev pub more : Row → Row
more r = record { flags = r.flags; place = r.place; len = r.len; first = r.first; count = r.count + 1 }

-- the row `i` counts one move more
abbrev pub count_one : List Row → ℕ → List Row
count_one rows i = slice_set rows i (more (slice_index_or rows i zero_row))

-- the tables with the moves from place `k` on, and how many are then in use
abbrev pub Stored : Type 0
Stored = ℕ × List Row × List Move

-- the moves put into the table one after the other, and counted
abbrev pub storing : ℕ → List Row → List Move → List Arc → Stored
storing k rows ms [] = (k, rows, ms)
storing k rows ms (a ∷ as') = storing (k + 1) (count_one rows a.source) (slice_set ms k (move_of a)) as'

-- the same for moves read from the input
abbrev pub stored : ℕ → List Row → List Move → Result (List Arc × ℕ) SheetFault → Result Stored SheetFault
stored k rows ms (Ok p) = Ok (storing k rows ms p.0)
stored k rows ms (Err e) = Err e

-- what the moves' loop answers, with the tables
abbrev pub shown_stored : Result ℕ SheetFault → List Row → List Move → Result Stored SheetFault
shown_stored (Ok k) rows ms = Ok (k, rows, ms)
shown_stored (Err e) rows ms = Err e

-- a row with another first move
abbrev pub with_first : ℕ → Row → Row
with_first first r = record { flags = r.flags; place = r.place; len = r.len; first = first; count = r.count }

-- each row's first move, where `first` moves come before them
abbrev pub numbered : ℕ → List Row → List Row
numbered first [] = []
numbered first (r ∷ rs) = with_first first r ∷ numbered (first + r.count) rs

-- the counts and both tables
abbrev pub Tables : Type 0
Tables = Counts × List Row × List Move

-- what the whole reading answers, with the tables
abbrev pub shown_all : Result Counts SheetFault → List Row → List Move → Result Tables SheetFault
shown_all (Ok c) rows ms = Ok (c, rows, ms)
shown_all (Err e) rows ms = Err e

-- the tables after a reading, from what they held before
abbrev pub tables_after : List Row → List Move → List ℕ → Result Tables SheetFault
tables_after rows ms bs =
    next (head_size bs)
    (λ h. cond (nat_le h.0 (length rows))
    (next (states_from h.0 bs h.1 1)
    (λ s. next (stored 0 s.0 ms (moves_from (length ms) h.0 None bs s.1 0))
    (λ m. Ok (record { states = h.0; moves = m.0 }, numbered 0 m.1 ++ drop h.0 rows, m.2))))
    (Err (Room 0 0)))

-- the same once a refusal has cleared the tables
abbrev pub ended : ℕ → ℕ → Result Tables SheetFault → Result Counts SheetFault × List Row × List Move
ended n m (Ok t) = (Ok t.0, t.1, t.2)
ended n m (Err e) = (Err e, replicate n zero_row, replicate m zero_move)
