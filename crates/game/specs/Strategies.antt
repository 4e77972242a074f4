-- Plays, strategies with memory, and when one wins. Moves are listed newest first.
use Rattle.std.specs.Prelude.{◌≡◌, ℕ, zero, suc, ◌≤◌, true, false, ◌⊎◌, List, [], ◌∷◌, length, Some, None, Option}
use Rattle.game.specs.Meaning.{Meaning, Step}
use Rattle.game.specs.Ranks.{Bars}

-- a label, and the state that it led to
pub record Move : Type 0 where
  pub label : ℕ
  pub to : ℕ

-- the state that the moves h lead to from s
abbrev pub at : ℕ → List Move → ℕ
at s [] = s
at s (x ∷ h) = x.to

-- h is a play from s: a chain of states joined by feasible labels
abbrev pub Play : Meaning → ℕ → List Move → Type 0
Play m s [] = Unit {0}
Play m s (x ∷ h) = Play m s h × Step m (at s h) x.label x.to

-- A strategy names at each kiosk state, from the whole play so far, a feasible label that is not barred, or it rests.
pub record Strategy (m : Meaning) (b : Bars) : Type 0 where
  pub names : ℕ → List Move → Option ℕ
  pub legal : (s : ℕ) (h : List Move) (l : ℕ) → Play m s h → m.public (at s h) ≡ false → names s h ≡ Some l → (b l ≡ false) × ((t : ℕ) × Step m (at s h) l t)

-- the play h from s follows w
abbrev pub Follows : (m : Meaning) (b : Bars) → Strategy m b → ℕ → List Move → Type 0
Follows m b w s [] = Unit {0}
Follows m b w s (x ∷ h) = Follows m b w s h × Step m (at s h) x.label x.to × (m.public (at s h) ≡ false → w.names s h ≡ Some x.label)

-- it stops at an end, or where w rests
abbrev pub Stops : (m : Meaning) (b : Bars) → Strategy m b → ℕ → List Move → Type 0
Stops m b w s h = (m.end (at s h) ≡ true) ⊎ ((m.public (at s h) ≡ false) × (w.names s h ≡ None))

-- w wins within k from s: no play that follows it has more than k moves, and every one that stops does so at a goal
pub record WinsWithin (m : Meaning) (b : Bars) (w : Strategy m b) (k s : ℕ) : Type 0 where
  pub short : (h : List Move) → Follows m b w s h → length h ≤ k
  pub at_goal : (h : List Move) → Follows m b w s h → Stops m b w s h → m.goal (at s h) ≡ true

abbrev pub Wins : (m : Meaning) (b : Bars) → Strategy m b → ℕ → Type 0
Wins m b w s = (k : ℕ) × WinsWithin m b w k s

-- the first n moves of an endless play
abbrev pub opening : (ℕ → Move) → ℕ → List Move
opening f zero = []
opening f (suc n) = f n ∷ opening f n
