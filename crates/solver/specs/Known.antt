-- What the cells hold while ranks are worked out: the ranks below a bound.
use Rattle.std.specs.Prelude.{◌≡◌, ℕ, zero, suc, Bool, cond, List, get_or, Some, None, Option, ◌==◌, nat_lt, slice_index_or}
use Rattle.std.specs.Option.{option_map}
use Rattle.game.specs.Meaning.{Meaning, done}
use Rattle.game.specs.Search.{first_below}
use Rattle.game.specs.Ranks.{Bars, leads_to, lowest_label, public_must, within, rank}
use Rattle.solver.specs.declared.Cell.{Cell}
use Rattle.solver.specs.Cells.{empty}

-- there is a rank, and it is below k
abbrev pub under : Option ℕ → ℕ → Bool
under o k = leads_to o (λ r. nat_lt r k)

-- the cell of t has a rank below k
abbrev pub low : List Cell → ℕ → ℕ → Bool
low cells k t = under (get_or cells t empty).rank k

-- the rank of s, if it is below k
abbrev pub known : Meaning → Bars → ℕ → ℕ → Option ℕ
known m b k s = first_below (λ j. within m b j s) k

-- a cell of rank k
abbrev pub cell : ℕ → Option ℕ → Cell
cell k c = record { rank = Some k; choice = c }

-- the cell of s, if its rank is o
abbrev pub cell_of : Meaning → Bars → ℕ → Option ℕ → Cell
cell_of m b s None = empty
cell_of m b s (Some zero) = cell 0 None
cell_of m b s (Some (suc q)) = cell (suc q) (cond (m.public s) None (lowest_label m b (within m b q) s))

-- a cell of rank k, if there is a choice
abbrev pub picked : ℕ → Option ℕ → Option Cell
picked k o = option_map (λ l. cell k (Some l)) o

-- what round k finds of a state that has no rank yet, where p says which states had one before
abbrev pub settled : Meaning → Bars → (ℕ → Bool) → ℕ → ℕ → Option Cell
settled m b p k s =
    cond (k == 0) (cond (done m s) (Some (cell 0 None)) None)
    (cond (m.end s) None (cond (m.public s) (cond (public_must m p s) (Some (cell k None)) None) (picked k (lowest_label m b p s))))

-- every cell is that of its state's rank
abbrev pub Filled : Meaning → Bars → List Cell → Type 0
Filled m b cells = (s : ℕ) → slice_index_or cells s empty ≡ cell_of m b s (rank m b s)
