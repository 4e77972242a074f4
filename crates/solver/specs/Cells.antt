-- What the cells of a table say of a game's states.
use Rattle.std.specs.Prelude.{◌≡◌, ℕ, true, false, ◌&&◌, List, length, None, Result, is_ok, nat_le, slice_index_or}
use Rattle.game.specs.Meaning.{Meaning}
use Rattle.game.specs.Ranks.{Bars, rank, choice}
use Rattle.law.specs.Answers.{Ranking}
use Rattle.solver.specs.declared.Cell.{Cell}
use Rattle.solver.specs.declared.TooLarge.{TooLarge}

abbrev pub empty : Cell
empty = record { rank = None; choice = None }

-- the cell of s; one beyond the table is empty
abbrev pub cell_at : List Cell → ℕ → Cell
cell_at cells s = slice_index_or cells s empty

-- the ranks and choices that the cells hold
abbrev pub ranking_in : List Cell → Ranking
ranking_in cells = record { rank = λ s. (cell_at cells s).rank; choice = λ s. (cell_at cells s).choice }

-- every cell holds the rank and the choice of its state under the bars b
abbrev pub Solved : Meaning → Bars → List Cell → Type 0
Solved m b cells = (s : ℕ) → cell_at cells s ≡ record { rank = rank m b s; choice = choice m b s }

-- What solving leaves: where the game has at most 4,096 states and a cell for each, the cells solved; else as they were.
pub record Solving (m : Meaning) (b : Bars) (before : List Cell) (done : Result Unit TooLarge) (after : List Cell) : Type 0 where
  pub answer : is_ok done ≡ (nat_le m.size 4096 && nat_le m.size (length before))
  pub solved : is_ok done ≡ true → Solved m b after
  pub too_large : is_ok done ≡ false → after ≡ before
