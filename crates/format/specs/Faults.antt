-- The number and the row that each fault of a writing stands for.

use Rattle.std.specs.Prelude.{ℕ}
use Rattle.format.specs.declared.WriteFault.{WriteFault}
use Rattle.format.specs.declared.WriteFault.TheVariants.{Size, Unsound, Room}

-- the number that a fault is known by
abbrev pub number_of : WriteFault → ℕ
number_of Size = 8
number_of (Unsound i) = 3
number_of Room = 7

-- the row that a fault names
abbrev pub row_named : WriteFault → ℕ
row_named Size = 0
row_named (Unsound i) = i
row_named Room = 0
