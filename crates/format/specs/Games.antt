-- The game that a sheet stands for.
use Rattle.std.specs.Prelude.{◌≡◌, ℕ, Bool, ◌&&◌, List, [], length, take, IfOk, Some, Result, ◌==◌, bit_and, nat_lt, slice_index_or}
use Rattle.std.specs.List.{ContainsAt}
use Rattle.game.specs.Meaning.{Meaning}
use Rattle.sheet.specs.declared.Row.{Row}
use Rattle.sheet.specs.declared.Move.{Move}
use Rattle.sheet.specs.Sheets.{sheet_meaning}
use Rattle.records.specs.declared.SheetFault.{SheetFault}
use Rattle.format.specs.declared.Arc.{Arc}
use Rattle.format.specs.declared.Counts.{Counts}
use Rattle.format.specs.Format.{State, Sheet}
use Rattle.format.specs.Laws.{Encodes}

-- a state without flags and name
abbrev pub no_state : State
no_state = record { flags = 0; name = [] }

-- the flag is set at the state i; a number that is no state has none
abbrev pub flagged : Sheet → ℕ → ℕ → Bool
flagged s flag i = nat_lt i (length s.states) && bit_and (slice_index_or s.states i no_state).flags flag == flag

-- the move by label l from i to t
abbrev pub arc : ℕ → ℕ → ℕ → Arc
arc i l t = record { source = i; label = l; target = t }

-- m is THE GAME OF A SHEET: its states, with the facts that their flags tell, and its moves
pub record GameOf (s : Sheet) (m : Meaning) : Type 0 where
  pub states : m.size ≡ length s.states
  pub labels : m.ceiling ≡ 64
  pub public : (i : ℕ) → m.public i ≡ flagged s 1 i
  pub start : (i : ℕ) → m.start i ≡ flagged s 2 i
  pub end : (i : ℕ) → m.end i ≡ flagged s 4 i
  pub goal : (i : ℕ) → m.goal i ≡ flagged s 8 i
  -- label l leads from i to t exactly if the sheet has that move
  pub moves : (i l t : ℕ) → ContainsAt s.moves (arc i l t) → m.next i l ≡ Some t
  pub no_others : (i l t : ℕ) → m.next i l ≡ Some t → ContainsAt s.moves (arc i l t)

-- the game over the tables, of n rows and m moves, that a reading fills is that of the sheet that the bytes encode
abbrev pub ReadsGame : ℕ → ℕ → List ℕ → Result Counts SheetFault × List Row × List Move → Type 0
ReadsGame n m bs t =
    IfOk t.0 (λ c. (s : Sheet) × Encodes n m bs s × GameOf s (sheet_meaning (take c.states t.1) (take c.moves t.2)))
