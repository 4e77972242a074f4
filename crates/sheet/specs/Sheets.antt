-- The game that two tables stand for, whatever they hold.
use Rattle.std.specs.Prelude.{◌≡◌, ℕ, ◌+◌, ◌<◌, ◌≤◌, Bool, cond, ◌&&◌, List, [], ◌∷◌, length, get_or, take, drop, Some, None, Option, ◌==◌, ◌≢◌, bit_and, nat_le, nat_lt, slice_index_or}
use Rattle.game.specs.Meaning.{Meaning}
use Rattle.sheet.specs.declared.Row.{Row}
use Rattle.sheet.specs.declared.Move.{Move}

abbrev pub zero_row : Row
zero_row = record { flags = 0; place = 0; len = 0; first = 0; count = 0 }

abbrev pub zero_move : Move
zero_move = record { label = 0; target = 0 }

-- the flag is set in the row of s
abbrev pub has_flag : List Row → ℕ → ℕ → Bool
has_flag rows flag s = nat_lt s (length rows) && bit_and (get_or rows s zero_row).flags flag == flag

-- the moves of a row: none if it reaches outside the table
abbrev pub moves_of : List Move → Row → List Move
moves_of moves row = cond (nat_le (row.first + row.count) (length moves)) (take row.count (drop row.first moves)) []

-- the target of the first move with the label
abbrev pub target_of : ℕ → List Move → Option ℕ
target_of l [] = None
target_of l (v ∷ vs) = cond (v.label == l) (Some v.target) (target_of l vs)

-- a target that is no state is none
abbrev pub below : ℕ → Option ℕ → Option ℕ
below n None = None
below n (Some t) = cond (nat_lt t n) (Some t) None

-- the state behind the label l in s
abbrev pub sheet_next : List Row → List Move → ℕ → ℕ → Option ℕ
sheet_next rows moves s l = cond (nat_lt s (length rows) && nat_lt l 64) (below (length rows) (target_of l (moves_of moves (slice_index_or rows s zero_row)))) None

-- the game over a table of rows and a table of moves
abbrev pub sheet_meaning : List Row → List Move → Meaning
sheet_meaning rows moves = record {
  size = length rows;
  ceiling = 64;
  public = has_flag rows 1;
  start = has_flag rows 2;
  end = has_flag rows 4;
  goal = has_flag rows 8;
  next = sheet_next rows moves;
}

-- label l leads from s to t: the row of s lies inside the table of moves, and the first of its moves with the label
-- has the target t, which is a state
pub record Leads (rows : List Row) (moves : List Move) (s l t : ℕ) : Type 0 where
  pub state : s < length rows
  pub label : l < 64
  pub within : (get_or rows s zero_row).first + (get_or rows s zero_row).count ≤ length moves
  pub place : ℕ
  pub own : place < (get_or rows s zero_row).count
  pub labelled : (get_or moves ((get_or rows s zero_row).first + place) zero_move).label ≡ l
  pub target : (get_or moves ((get_or rows s zero_row).first + place) zero_move).target ≡ t
  pub first : (i : ℕ) → i < place → (get_or moves ((get_or rows s zero_row).first + i) zero_move).label ≢ l
  pub inside : t < length rows

-- the answer is the state that the label leads to, and none if there is no such state
pub record NextIs (rows : List Row) (moves : List Move) (s l : ℕ) (r : Option ℕ) : Type 0 where
  pub only : (t : ℕ) → r ≡ Some t → Leads rows moves s l t
  pub all : (t : ℕ) → Leads rows moves s l t → r ≡ Some t
