-- What plan checks of a game before it works out ranks, and what a game without fault is.
use Rattle.std.specs.Prelude.{◌≡◌, ℕ, ◌<◌, ◌≤◌, Bool, true, false, cond, not, ◌&&◌, ◌||◌, ◌⊎◌, Some, None, Ok, Err, Option, Result, ◌==◌, nat_lt}
use Rattle.game.specs.Meaning.{Meaning, feasible, Step}
use Rattle.game.specs.Search.{some_below, first_below, first_of}
use Rattle.law.specs.declared.Fault.{Fault}
use Rattle.law.specs.declared.Fault.TheVariants.{Size, NoStart, Stuck, KeepsTurn, PublicStart, NotStart, NoState, NoLabel, NotFeasible, NoRun, RunOpen, RunOver, OtherTurn, NoPlan, NoRank}
use Rattle.law.specs.declared.Verdict.{Verdict}

-- the next state has the turn of s
abbrev pub keeps : Meaning → ℕ → Option ℕ → Bool
keeps m s None = false
keeps m s (Some t) = cond (m.public s) (m.public t) (not (m.public t))

-- label l is feasible in s, and keeps the turn
abbrev pub keeps_turn : Meaning → ℕ → ℕ → Bool
keeps_turn m s l = feasible m s l && keeps m s (m.next s l)

abbrev pub label_fault : ℕ → Option ℕ → Option Fault
label_fault s None = None
label_fault s (Some l) = Some (KeepsTurn s l)

-- the first fault of a state: a start at the public's turn, no feasible label, a feasible label that keeps the turn
abbrev pub state_fault : Meaning → ℕ → Option Fault
state_fault m s =
    cond (m.start s && m.public s) (Some (PublicStart s))
    (cond (not (m.end s) && not (some_below (feasible m s) m.ceiling)) (Some (Stuck s))
    (label_fault s (first_below (keeps_turn m s) m.ceiling)))

-- the fault that plan finds first: the size, no start, then state by state
unfoldable pub first_fault : Meaning → Option Fault
first_fault m =
    cond (m.size == 0 || nat_lt 4096 m.size) (Some Size)
    (cond (not (some_below m.start m.size)) (Some NoStart)
    (first_of (state_fault m) m.size))

-- a state without fault
pub record StateSound (m : Meaning) (s : ℕ) : Type 0 where
  pub kiosk_start : m.start s ≡ true → m.public s ≡ false
  pub has_move : m.end s ≡ false → (l : ℕ) × (t : ℕ) × Step m s l t
  pub turn_alternates : (l t : ℕ) → Step m s l t → m.public t ≡ not (m.public s)

-- a game without fault
pub record Sound (m : Meaning) : Type 0 where
  pub some_state : 0 < m.size
  pub few_states : m.size ≤ 4096
  pub some_start : (s : ℕ) × (m.start s ≡ true)
  pub kiosk_starts : (s : ℕ) → m.start s ≡ true → m.public s ≡ false
  pub has_moves : (s : ℕ) → s < m.size → m.end s ≡ false → (l : ℕ) × (t : ℕ) × Step m s l t
  pub turns_alternate : (s l t : ℕ) → Step m s l t → m.public t ≡ not (m.public s)

-- the first state with a fault is s
pub record FirstAt (m : Meaning) (s : ℕ) : Type 0 where
  pub few_states : m.size ≤ 4096
  pub some_start : (j : ℕ) × (m.start j ≡ true)
  pub state : s < m.size
  pub lower : (j : ℕ) → j < s → StateSound m j

-- THE FAULT OF A GAME: what plan's refusal says of it. A state is blamed only if every lower one is sound, and a label only
-- if every lower one alternates the turn.
abbrev pub FaultIs : Meaning → Fault → Type 0
FaultIs m Size = (m.size ≡ 0) ⊎ (4096 < m.size)
FaultIs m NoStart = (0 < m.size) × (m.size ≤ 4096) × ((s : ℕ) → m.start s ≡ false)
FaultIs m (PublicStart s) = FirstAt m s × (m.start s ≡ true) × (m.public s ≡ true)
FaultIs m (Stuck s) =
    FirstAt m s × (m.start s ≡ true → m.public s ≡ false) × (m.end s ≡ false) × ((l t : ℕ) → Step m s l t → ⊥)
FaultIs m (KeepsTurn s l) =
    FirstAt m s × (m.start s ≡ true → m.public s ≡ false) × ((t : ℕ) × Step m s l t × (m.public t ≡ m.public s))
    × ((l' t : ℕ) → l' < l → Step m s l' t → m.public t ≡ not (m.public s))
FaultIs m NotStart = ⊥
FaultIs m NoState = ⊥
FaultIs m NoLabel = ⊥
FaultIs m NotFeasible = ⊥
FaultIs m NoRun = ⊥
FaultIs m RunOpen = ⊥
FaultIs m RunOver = ⊥
FaultIs m OtherTurn = ⊥
FaultIs m NoPlan = ⊥
FaultIs m NoRank = ⊥

-- a plan is made of a sound game, and a refusal names the game's fault
abbrev pub Checked : Meaning → Result Verdict Fault → Type 0
Checked m (Ok v) = Sound m
Checked m (Err f) = FaultIs m f
