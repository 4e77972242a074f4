use Rattle.std.proofs.Common.{◌≡◌, ◌+◌, ◌++◌, take, drop, sum_by}
use Rattle.reader.specs.Stored.{numbered, count_of}
use Rattle.reader.proofs.number_rows.Given as goal

abbrev pub invariant-loop-row : goal.invariant-loop-row
invariant-loop-row l =
    (l.first + sum_by count_of (drop l.row-index l.rows) ≡ sum_by count_of l.initial.rows)
    × (take l.row-index l.rows ++ numbered l.first (drop l.row-index l.rows) ≡ numbered 0 l.initial.rows)
