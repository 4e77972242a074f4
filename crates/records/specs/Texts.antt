-- A refused reading as text.
use Rattle.std.specs.Prelude.{ℕ, List, ◌++◌, codes, decimal}
use Rattle.records.specs.declared.SheetFault.{SheetFault}
use Rattle.records.specs.Faults.{number_of, index_of, offset_of}

-- The number of the fault, the record, and where in the input it lies, with a blank between each two.
abbrev pub refusal_text : SheetFault → List ℕ
refusal_text e = codes "REFUSED " ++ decimal (number_of e) ++ codes " " ++ decimal (index_of e) ++ codes " " ++ decimal (offset_of e)
