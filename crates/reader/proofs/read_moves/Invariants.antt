use Rattle.std.proofs.Common.{◌≡◌, ◌-◌, length, None, sum_by}
use Rattle.format.specs.Reading.{moves_from}
use Rattle.reader.specs.Stored.{stored, count_of}
use Rattle.reader.proofs.read_moves.Given as goal

abbrev pub invariant-loop-k : goal.invariant-loop-k
invariant-loop-k l = record {
  counted : sum_by count_of l.rows ≡ l.k;
  read : stored l.k l.rows l.moves (moves_from (length l.initial.moves - l.k) l.size l.last l.bytes l.at l.k)
      ≡ stored 0 l.initial.rows l.initial.moves (moves_from (length l.initial.moves) l.size None l.bytes l.start 0);
}
