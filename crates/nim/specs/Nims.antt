-- Fibonacci Nim with n matches, by the numbers of its states.
use Rattle.std.specs.Prelude.{ℕ, ◌+◌, ◌-◌, ◌*◌, ◌/◌, ◌%◌, ◌<◌, ◌≤◌, Bool, cond, ◌&&◌, Some, None, Option, ◌==◌, nat_le, nat_lt}
use Rattle.game.specs.Meaning.{Meaning}

-- n matches make a game
abbrev pub playable : ℕ → Bool
playable n = nat_le 2 n && nat_le n 44

-- two players, what remains from 0 to n, and what was taken last from 1 to n
abbrev pub nim_size : ℕ → ℕ
nim_size n = cond (playable n) (2 * (n + 1) * n) 0

-- s is a state
abbrev pub is_state : ℕ → ℕ → Bool
is_state n s = nat_lt s (nim_size n)

-- s is a state, as numbers compare
pub record State (n s : ℕ) : Type 0 where
  pub low : 2 ≤ n
  pub high : n ≤ 44
  pub below : s < 2 * (n + 1) * n

-- the number of the state of player j, with r matches remaining and p taken last
abbrev pub number_of : ℕ → ℕ → ℕ → ℕ → ℕ
number_of n j r p = (j * (n + 1) + r) * n + p - 1

-- there is such a state
abbrev pub in_range : ℕ → ℕ → ℕ → ℕ → Bool
in_range n j r p = playable n && (nat_le j 1 && (nat_le r n && (nat_le 1 p && nat_le p n)))

-- the number of that state, if there is one
abbrev pub state_of : ℕ → ℕ → ℕ → ℕ → Option ℕ
state_of n j r p = cond (in_range n j r p) (Some (number_of n j r p)) None

-- the player at turn in s: 0 for the kiosk, 1 for the public
abbrev pub player_of : ℕ → ℕ → ℕ
player_of n s = s / n / (n + 1)

-- the matches remaining in s
abbrev pub remaining_of : ℕ → ℕ → ℕ
remaining_of n s = s / n % (n + 1)

-- the matches taken last before s
abbrev pub taken_of : ℕ → ℕ → ℕ
taken_of n s = s % n + 1

-- a matches may be taken from r after p were: some, fewer than there are at first, and at most twice what was taken last
abbrev pub may_take : ℕ → ℕ → ℕ → ℕ → Bool
may_take n r p a = nat_le 1 a && (nat_lt a n && (nat_le a r && nat_le a (2 * p)))

-- label a takes a matches, and the other player is at turn
abbrev pub nim_next : ℕ → ℕ → ℕ → Option ℕ
nim_next n s a = cond (is_state n s && may_take n (remaining_of n s) (taken_of n s) a) (Some (number_of n (1 - player_of n s) (remaining_of n s - a) a)) None

-- Fibonacci Nim with n matches: the kiosk begins, as if all had been taken last, and wins if none remain at the public's turn
abbrev pub nim_meaning : ℕ → Meaning
nim_meaning n = record {
  size = nim_size n;
  ceiling = 44;
  public = λ s. is_state n s && (player_of n s == 1);
  start = λ s. is_state n s && (s == number_of n 0 n n);
  end = λ s. is_state n s && (remaining_of n s == 0);
  goal = λ s. is_state n s && (player_of n s == 1 && remaining_of n s == 0);
  next = nim_next n;
}
