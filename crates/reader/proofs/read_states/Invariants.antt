use Rattle.std.proofs.Common.{◌≡◌, ◌+◌, ◌-◌, length, take, sum_by}
use Rattle.format.specs.Reading.{prepend, states_from}
use Rattle.reader.specs.Stored.{count_of}
use Rattle.reader.proofs.read_states.Given as goal

abbrev pub invariant-loop-i : goal.invariant-loop-i
invariant-loop-i l = record {
  read : prepend (take l.i l.rows) (states_from (length l.initial.rows - l.i) l.bytes l.at (l.i + 1)) ≡ states_from (length l.initial.rows) l.bytes l.start 1;
  uncounted : sum_by count_of (take l.i l.rows) ≡ 0;
}
