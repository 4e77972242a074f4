-- What planlist prints for an input.
use Rattle.std.specs.Prelude.{ℕ, false, cond, List, ◌++◌, length, take, drop, Some, None, Ok, Err, codes, Option, Result, nat_le}
use Rattle.game.specs.Meaning.{Meaning}
use Rattle.game.specs.Ranks.{Bars}
use Rattle.law.specs.declared.Fault.{Fault}
use Rattle.law.specs.Faults as plan-faults
use Rattle.law.specs.Checks.{first_fault}
use Rattle.law.specs.Answers.{ranking}
use Rattle.sheet.specs.declared.Row.{Row}
use Rattle.sheet.specs.declared.Move.{Move}
use Rattle.sheet.specs.Sheets.{sheet_meaning}
use Rattle.records.specs.declared.SheetFault.{SheetFault}
use Rattle.records.specs.Faults as sheet-faults
use Rattle.format.specs.declared.Counts.{Counts}
use Rattle.format.specs.Reading.{read_result}
use Rattle.text.specs.Lines.{line}
use Rattle.listing.specs.Lines.{listing_text}

abbrev pub no_bars : Bars
no_bars l = false

-- the line of a refusal: its number and two numbers
abbrev pub refusal_line : ℕ → ℕ → ℕ → List ℕ
refusal_line n a b = line (codes "REFUSED ") n a b

-- the line of plan's fault, or the listing
abbrev pub plan_text : Meaning → Option Fault → List ℕ
plan_text m (Some f) = refusal_line (plan-faults.number_of f) (plan-faults.named_state f) (plan-faults.named_label f)
plan_text m None = listing_text m (ranking m no_bars)

-- what is printed of a game
abbrev pub game_text : Meaning → List ℕ
game_text m = plan_text m (first_fault m)

-- what is printed of a reading: the line of its fault, or the text of the game that the tables stand for
abbrev pub reading_text : Result Counts SheetFault → List Row → List Move → List ℕ
reading_text (Err f) rows ms = refusal_line (sheet-faults.number_of f) (sheet-faults.index_of f) (sheet-faults.offset_of f)
reading_text (Ok c) rows ms = game_text (sheet_meaning (take c.states rows) (take c.moves ms))

-- what is printed of a sheet's bytes that are read into tables of n rows and k moves
unfoldable pub bytes_text : ℕ → ℕ → List ℕ → List ℕ
bytes_text n k bs = let read = read_result n k bs in reading_text read.0 read.1 read.2

-- what is printed of an input: its first 65,536 bytes are a whole sheet, for tables of 4,096 rows and 8,192 moves
abbrev pub printed : List ℕ → List ℕ
printed input = bytes_text 4096 8192 (take 65536 input)

-- a text at the front of an output, and its length; or the output as found, where it does not fit
abbrev pub shown : List ℕ → List ℕ → Option ℕ × List ℕ
shown text out = cond (nat_le (length text) (length out)) (Some (length text), text ++ drop (length text) out) (None, out)
