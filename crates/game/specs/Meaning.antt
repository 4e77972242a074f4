-- What a game is: its meaning, the laws of every game, feasible labels and done states.
use Rattle.std.specs.Prelude.{◌≡◌, ℕ, ◌<◌, ◌≤◌, Bool, false, not, ◌&&◌, ◌||◌, is_some, Some, None, Option}

-- Every answer of a game, with its ceiling of labels. A state that is not public is at the kiosk's turn.
pub record Meaning : Type 0 where
  pub size : ℕ
  pub ceiling : ℕ
  pub public : ℕ → Bool
  pub start : ℕ → Bool
  pub end : ℕ → Bool
  pub goal : ℕ → Bool
  pub next : ℕ → ℕ → Option ℕ

-- s is no state: it has no fact and no move
pub record Nowhere (m : Meaning) (s : ℕ) : Type 0 where
  pub kiosk : m.public s ≡ false
  pub no_start : m.start s ≡ false
  pub no_end : m.end s ≡ false
  pub no_goal : m.goal s ≡ false
  pub no_move : (l : ℕ) → m.next s l ≡ None

-- the laws that every make of game shows
pub record Lawful (m : Meaning) : Type 0 where
  pub few : m.ceiling ≤ 64
  pub labels : (s l : ℕ) → m.ceiling ≤ l → m.next s l ≡ None
  pub inside : (s l t : ℕ) → m.next s l ≡ Some t → t < m.size
  pub outside : (s : ℕ) → m.size ≤ s → Nowhere m s

-- label l is feasible in s: s is no end, and l has a next state there
abbrev pub feasible : Meaning → ℕ → ℕ → Bool
feasible m s l = not (m.end s) && is_some (m.next s l)

-- s is done: a goal that is at the kiosk's turn or an end
abbrev pub done : Meaning → ℕ → Bool
done m s = m.goal s && (not (m.public s) || m.end s)

-- label l is feasible in s, and leads to t
abbrev pub Step : Meaning → ℕ → ℕ → ℕ → Type 0
Step m s l t = (m.end s ≡ false) × (m.next s l ≡ Some t)
