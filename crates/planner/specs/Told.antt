-- What planlist prints is true of the sheet in its input, and its word is final.
use Rattle.std.specs.Prelude.{◌≡◌, ℕ, ◌⊎◌, List}
use Rattle.game.specs.Meaning.{Meaning}
use Rattle.law.specs.declared.Fault.{Fault}
use Rattle.law.specs.declared.Verdict.{Verdict}
use Rattle.law.specs.Checks.{Sound, FaultIs}
use Rattle.law.specs.Faults as plan-faults
use Rattle.law.specs.Answers.{ranking}
use Rattle.law.specs.Verdicts.{VerdictIs}
use Rattle.records.specs.declared.SheetFault.{SheetFault}
use Rattle.records.specs.Faults as sheet-faults
use Rattle.format.specs.Format.{Sheet}
use Rattle.format.specs.Laws.{Encodes}
use Rattle.format.specs.Games.{GameOf}
use Rattle.format.specs.Blame.{Blames}
use Rattle.listing.specs.Lines.{text_after}
use Rattle.listing.specs.Plays.{Right}
use Rattle.planner.specs.Printed.{no_bars, refusal_line}

-- REFUSED for a game: the text names its fault
pub record Faulty (m : Meaning) (text : List ℕ) : Type 0 where
  pub fault : Fault
  pub is : FaultIs m fault
  pub says : text ≡ refusal_line (plan-faults.number_of fault) (plan-faults.named_state fault) (plan-faults.named_label fault)

-- HELD or LOST: the verdict is the true one. After HELD there is a line for each state that plays by the choices need,
-- with its choice and its rank.
pub record Planned (m : Meaning) (text : List ℕ) : Type 0 where
  pub sound : Sound m
  pub verdict : Verdict
  pub is : VerdictIs m no_bars verdict
  pub says : text ≡ text_after m (ranking m no_bars) verdict
  pub lines : Right m no_bars

-- the bytes are those of a sheet that fits tables of n rows and k moves, and the text is true of its game
pub record OfSheet (n k : ℕ) (bs text : List ℕ) : Type 0 where
  pub sheet : Sheet
  pub encoded : Encodes n k bs sheet
  pub game : Meaning
  pub game_of : GameOf sheet game
  pub told : Faulty game text ⊎ Planned game text

-- REFUSED for bytes: they are those of no sheet that fits, and the text names the fault to blame for it
pub record OfNone (n k : ℕ) (bs text : List ℕ) : Type 0 where
  pub no_sheet : (s : Sheet) → Encodes n k bs s → ⊥
  pub fault : SheetFault
  pub blamed : Blames n k bs fault
  pub says : text ≡ refusal_line (sheet-faults.number_of fault) (sheet-faults.index_of fault) (sheet-faults.offset_of fault)

abbrev pub Told : ℕ → ℕ → List ℕ → List ℕ → Type 0
Told n k bs text = OfNone n k bs text ⊎ OfSheet n k bs text
