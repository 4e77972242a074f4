-- Fibonacci Nim in the words of its rules: player, matches remaining, matches taken last.
use Rattle.std.specs.Prelude.{◌≡◌, ℕ, ◌-◌, ◌<◌, ◌≤◌, cond, ◌&&◌, Some, None, Option, ◌==◌}
use Rattle.nim.specs.Nims.{nim_meaning, number_of, state_of, player_of, remaining_of, taken_of, may_take}

-- what the game says of s, if s is player j with r matches remaining and p taken last
pub record Position (n j r p s : ℕ) : Type 0 where
  -- s is a state, and no other player, remainder or taking has its number
  pub inside : s < (nim_meaning n).size
  pub at_turn : player_of n s ≡ j
  pub left : remaining_of n s ≡ r
  pub last : taken_of n s ≡ p
  -- its facts
  pub public : (nim_meaning n).public s ≡ (j == 1)
  pub start : (nim_meaning n).start s ≡ (j == 0 && (r == n && p == n))
  pub end : (nim_meaning n).end s ≡ (r == 0)
  pub goal : (nim_meaning n).goal s ≡ (j == 1 && r == 0)
  -- taking a leads to the other player, with r − a remaining and a taken last
  pub next : (a : ℕ) → (nim_meaning n).next s a ≡ cond (may_take n r p a) (Some (number_of n (1 - j) (r - a) a)) None

-- the answer is the state of player j with r remaining and p taken last; without one, n, j, r or p is out of range
abbrev pub Stands : ℕ → ℕ → ℕ → ℕ → Option ℕ → Type 0
Stands n j r p (Some s) = Position n j r p s
Stands n j r p None = (2 ≤ n) → (n ≤ 44) → (j ≤ 1) → (r ≤ n) → (1 ≤ p) → (p ≤ n) → ⊥

-- every state is the state of some player, matches remaining and matches taken last
abbrev pub EveryState : ℕ → Type 0
EveryState n = (s : ℕ) → s < (nim_meaning n).size → state_of n (player_of n s) (remaining_of n s) (taken_of n s) ≡ Some s
