-- What the made-up sheets hold.
use Rattle.std.specs.Prelude.{ℕ, ◌+◌, ◌*◌, ◌/◌, ◌%◌, ◌^◌, ◌==◌, nat_lt, if◌then◌else◌}
use Rattle.sheet.specs.declared.Row.{Row}
use Rattle.sheet.specs.declared.Move.{Move}

-- a row without a name, whose moves are the next `count` from `first` on
abbrev pub row_of : ℕ → ℕ → ℕ → Row
row_of flags first count = record { flags = flags; place = 0; len = 0; first = first; count = count }

-- the public is at turn in each state with an odd number, and the first is a start
abbrev pub turn_flags : ℕ → ℕ
turn_flags s = s % 2 + (if s == 0 then 2 else 0)

-- State s of a chain of n states, whose last is an end and goal. It has one move.
abbrev pub chain_row : ℕ → ℕ → Row
chain_row n s = row_of (turn_flags s + (if s + 1 == n then 12 else 0)) s 1

-- the one move of state s of a chain
abbrev pub chain_move : ℕ → Move
chain_move s = record { label = 0; target = s + 1 }

-- How many of m moves state s of n states gets: each gets the same number, and the first states one more if some are
-- left over.
abbrev pub share : ℕ → ℕ → ℕ → ℕ
share m n s = if n == 0 then 0 else m / n + (if nat_lt s (m % n) then 1 else 0)

-- the seed behind a seed
abbrev pub next_seed : ℕ → ℕ
next_seed x = (x * 6364136223846793005 + 1442695040888963407) % 2 ^ 64

-- the number below `sides` that the upper 16 bits of a seed show
abbrev pub drawn : ℕ → ℕ → ℕ
drawn x sides = if sides == 0 then 0 else (x / 2 ^ 48) % sides
