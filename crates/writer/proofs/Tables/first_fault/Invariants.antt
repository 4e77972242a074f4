use Rattle.std.proofs.Common.{◌≡◌, ◌≤◌, length, drop}
use Rattle.format.specs.Writing.{first_unsound}
use Rattle.writer.specs.Judged.{first_fault}
use Rattle.writer.proofs.Tables.first_fault.Given as goal

-- what is left to judge tells what all tells, and the counted moves lie in the table
abbrev pub invariant-loop-i : goal.invariant-loop-i
invariant-loop-i l =
    (first_unsound l.i l.first (length l.self.rows.now) l.self.names.now l.self.moves.now (drop l.i l.self.rows.now) ≡ first_fault l.self)
    × (l.first ≤ length l.self.moves.now)
