-- What cells, queue and pointers hold while ranks are worked out.
use Rattle.std.specs.Prelude.{◌≡◌, ℕ, suc, ◌*◌, ◌/◌, ◌<◌, ◌≤◌, Bool, true, ◌⊎◌, List, [], length, get_or, is_some, Some, slice_index, slice_index_or}
use Rattle.game.specs.Meaning.{Meaning}
use Rattle.game.specs.Search.{all_below, count_below}
use Rattle.game.specs.Ranks.{Bars, none_or}
use Rattle.solver.specs.declared.Cell.{Cell}
use Rattle.solver.specs.declared.work.Work.{Work}
use Rattle.solver.specs.Cells.{empty}
use Rattle.solver.specs.Known.{known, cell_of}
use Rattle.solver.specs.Arcs.{arc}

-- the cell of s tells a rank of k at most
abbrev pub Touched : Meaning → Bars → ℕ → List Cell → ℕ → Type 0
Touched m b k cells s = slice_index_or cells s empty ≡ cell_of m b s (known m b (suc k) s)

-- every cell tells the ranks below k, and some tell rank k
abbrev pub Mid : Meaning → Bars → ℕ → List Cell → Type 0
Mid m b k cells = (s : ℕ) → (slice_index_or cells s empty ≡ cell_of m b s (known m b k s)) ⊎ Touched m b k cells s

-- the labels of s below its pointer lead to ranks below k
abbrev pub passed : Meaning → (ℕ → Bool) → ℕ → ℕ → Bool
passed m p s i = all_below (λ l. none_or (m.next s l) p) i

-- the states that have a rank below k
abbrev pub ranked_below : Meaning → Bars → ℕ → ℕ → Bool
ranked_below m b k s = is_some (known m b k s)

-- x may be the pointer of s: it is no more than the ceiling, and passes what it should
abbrev pub Points : Meaning → (ℕ → Bool) → ℕ → ℕ → Type 0
Points m p s x = (x ≤ m.ceiling) × (passed m p s x ≡ true)

abbrev pub Pointed : Meaning → Bars → ℕ → List ℕ → Type 0
Pointed m b k pointers = (s : ℕ) → Points m (ranked_below m b k) s (slice_index pointers s)

abbrev pub has_cell : List Cell → ℕ → Bool
has_cell cells s = is_some (get_or cells s empty).rank

-- s stands in the queue from lo to hi
abbrev pub Stands : List ℕ → ℕ → ℕ → ℕ → Type 0
Stands queue lo hi s = (j : ℕ) × (lo ≤ j) × (j < hi) × (slice_index queue j ≡ s)

-- Ranks below k are told, and some of rank k. Every state whose rank is told stands in the queue, and has a cell.
pub record Run (m : Meaning) (b : Bars) (k : ℕ) (cells : List Cell) (queue pointers : List ℕ) : Type 0 where
  pub mid : Mid m b k cells
  pub pointed : Pointed m b k pointers
  pub counted : length queue ≡ count_below (has_cell cells) m.size
  pub inside : (j : ℕ) → j < length queue → slice_index queue j < m.size
  pub room : m.size ≤ length cells

-- From one point of a round to a later one: states told to have rank k meanwhile stand in the queue behind the others.
pub record Moved (m : Meaning) (b : Bars) (k : ℕ) (v w : Work) : Type 0 where
  pub grows : (s : ℕ) → Touched m b k v.cells.now s → Touched m b k w.cells.now s
  pub keeps : (j : ℕ) → j < length v.queue.items → slice_index w.queue.items j ≡ slice_index v.queue.items j
  pub longer : length v.queue.items ≤ length w.queue.items
  pub added : (s : ℕ) → (get_or w.cells.now s empty).rank ≡ Some k → ((get_or v.cells.now s empty).rank ≡ Some k) ⊎ Stands w.queue.items (length v.queue.items) (length w.queue.items) s
  pub lent : w.cells.ghost_name ≡ v.cells.ghost_name

abbrev pub Running : Meaning → Bars → ℕ → Work → Type 0
Running m b k w = Run m b k w.cells.now w.queue.items w.pointers

-- An arc from s was followed: if s has the rank k, that is told.
pub record Reached (m : Meaning) (b : Bars) (k s : ℕ) (v w : Work) : Type 0 where
  pub run : Running m b k w
  pub moved : Moved m b k v w
  pub touched : Touched m b k w.cells.now s

-- Ranks up to k are told, and those of rank k stand in the queue from lo on.
pub record At (m : Meaning) (b : Bars) (k lo : ℕ) (w : Work) : Type 0 where
  pub holds : (s : ℕ) → Touched m b k w.cells.now s
  pub pointed : Pointed m b (suc k) w.pointers
  pub counted : length w.queue.items ≡ count_below (has_cell w.cells.now) m.size
  pub inside : (j : ℕ) → j < length w.queue.items → slice_index w.queue.items j < m.size
  pub layer : (s : ℕ) → known m b (suc k) s ≡ Some k → Stands w.queue.items lo (length w.queue.items) s
  pub room : m.size ≤ length w.cells.now

-- every arc from e on into t was followed
abbrev pub Followed : Meaning → Bars → ℕ → List Cell → ℕ → ℕ → Type 0
Followed m b k cells t e = (d : ℕ) → d < m.size * 64 → arc m b d ≡ Some t → e ≤ d → Touched m b k cells (d / 64)

-- The done states below i are told, and stand in the queue; no pointer has moved.
pub record Begun (m : Meaning) (i : ℕ) (w : Work) : Type 0 where
  pub run : (b : Bars) → Run m b 0 w.cells.now w.queue.items []
  pub told : (b : Bars) (s : ℕ) → s < i → Touched m b 0 w.cells.now s
  pub rest : (s : ℕ) → i ≤ s → slice_index_or w.cells.now s empty ≡ empty
  pub fresh : (s : ℕ) → (get_or w.cells.now s empty).rank ≡ Some 0 → Stands w.queue.items 0 (length w.queue.items) s
  pub zeros : (s : ℕ) → slice_index w.pointers s ≡ 0
