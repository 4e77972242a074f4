-- A corridor of n rooms, as a game.
use Rattle.std.specs.Prelude.{ℕ, ◌+◌, ◌%◌, Bool, cond, ◌&&◌, Some, None, Option, ◌==◌, nat_lt}
use Rattle.game.specs.Meaning.{Meaning}

-- s is the last room
abbrev pub is_last : ℕ → ℕ → Bool
is_last n s = nat_lt s n && s + 1 == n

-- label 0 leads to the room behind s, if there is one
abbrev pub step_on : ℕ → ℕ → ℕ → Option ℕ
step_on n s l = cond (l == 0 && (nat_lt s n && nat_lt (s + 1) n)) (Some (s + 1)) None

-- The kiosk begins in room 0, both step on in turns, and the last room is end and goal.
abbrev pub corridor_meaning : ℕ → Meaning
corridor_meaning n = record {
  size = n;
  ceiling = 1;
  public = λ s. nat_lt s n && (s % 2 == 1);
  start = λ s. nat_lt s n && (s == 0);
  end = is_last n;
  goal = is_last n;
  next = step_on n;
}
