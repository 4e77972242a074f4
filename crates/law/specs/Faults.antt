-- The number of each refusal, and what it names.
use Rattle.std.specs.Prelude.{ℕ}
use Rattle.law.specs.declared.Fault.{Fault}
use Rattle.law.specs.declared.Fault.TheVariants.{Size, NoStart, Stuck, KeepsTurn, PublicStart, NotStart, NoState, NoLabel, NotFeasible, NoRun, RunOpen, RunOver, OtherTurn, NoPlan, NoRank}

abbrev pub number_of : Fault → ℕ
number_of Size = 8
number_of NoStart = 9
number_of (Stuck s) = 10
number_of (KeepsTurn s l) = 11
number_of (PublicStart s) = 12
number_of NotStart = 13
number_of NoState = 14
number_of NoLabel = 15
number_of NotFeasible = 16
number_of NoRun = 17
number_of RunOpen = 18
number_of RunOver = 19
number_of OtherTurn = 20
number_of NoPlan = 21
number_of NoRank = 22

-- the state that a refusal names, or 0
abbrev pub named_state : Fault → ℕ
named_state Size = 0
named_state NoStart = 0
named_state (Stuck s) = s
named_state (KeepsTurn s l) = s
named_state (PublicStart s) = s
named_state NotStart = 0
named_state NoState = 0
named_state NoLabel = 0
named_state NotFeasible = 0
named_state NoRun = 0
named_state RunOpen = 0
named_state RunOver = 0
named_state OtherTurn = 0
named_state NoPlan = 0
named_state NoRank = 0

-- the label that a refusal names, or 0
abbrev pub named_label : Fault → ℕ
named_label Size = 0
named_label NoStart = 0
named_label (Stuck s) = 0
named_label (KeepsTurn s l) = l
named_label (PublicStart s) = 0
named_label NotStart = 0
named_label NoState = 0
named_label NoLabel = 0
named_label NotFeasible = 0
named_label NoRun = 0
named_label RunOpen = 0
named_label RunOver = 0
named_label OtherTurn = 0
named_label NoPlan = 0
named_label NoRank = 0
