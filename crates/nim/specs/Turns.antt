-- The turns of Fibonacci Nim with n matches.
use Rattle.std.specs.Prelude.{ℕ, ◌≤◌, cond, Some, None, Option}
use Rattle.nim.specs.declared.Turn.{Turn}
use Rattle.nim.specs.Nims.{is_state, player_of, remaining_of, taken_of}

-- the game can have the turn
pub record IsTurn (n : ℕ) (t : Turn) : Type 0 where
  pub most_matches : n ≤ 44
  pub player : t.player ≤ 1
  pub remaining : t.remaining ≤ n
  pub some_taken : 1 ≤ t.taken
  pub taken : t.taken ≤ n

-- the turn that s is, if s is a state
abbrev pub turn_at : ℕ → ℕ → Option Turn
turn_at n s = cond (is_state n s) (Some (record { player = player_of n s; remaining = remaining_of n s; taken = taken_of n s })) None
