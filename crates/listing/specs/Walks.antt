-- What the queue of a walk and its marks hold on the way.
use Rattle.std.specs.Prelude.{◌≡◌, ℕ, ◌<◌, ◌≤◌, Bool, true, false, List, length, Some, slice_index, slice_index_or}
use Rattle.game.specs.Meaning.{Meaning}
use Rattle.game.specs.Search.{count_below}
use Rattle.law.specs.Answers.{Ranking}
use Rattle.listing.specs.Reach.{Reaches, follow, reached}

-- t is marked
abbrev pub marked : List Bool → ℕ → Bool
marked seen t = slice_index_or seen t false

-- Every marked state is reached, and stands in the queue.
pub record Walking (m : Meaning) (ρ : Ranking) (queue : List ℕ) (seen : List Bool) : Type 0 where
  pub sound : (t : ℕ) → marked seen t ≡ true → Reaches m ρ t
  pub counted : length queue ≤ count_below (marked seen) m.size
  pub lined : (j : ℕ) → j < length queue → marked seen (slice_index queue j) ≡ true
  pub stands : (t : ℕ) → marked seen t ≡ true → (j : ℕ) × (j < length queue) × (slice_index queue j ≡ t)

-- From one point of a walk of a plan to a later one nothing is lost.
pub record Later {P : Type 0} (plan : P) (queue : List ℕ) (seen : List Bool) (plan' : P) (queue' : List ℕ) (seen' : List Bool) : Type 0 where
  pub same : plan' ≡ plan
  pub keeps : (j : ℕ) → j < length queue → slice_index queue' j ≡ slice_index queue j
  pub grows : (t : ℕ) → marked seen t ≡ true → marked seen' t ≡ true
  pub longer : length queue ≤ length queue'

-- every state that a label of s leads to is marked
abbrev pub Followed : Meaning → Ranking → List Bool → ℕ → Type 0
Followed m ρ seen s = (l t : ℕ) → follow m ρ s l ≡ Some t → marked seen t ≡ true

-- exactly the states reached are marked
abbrev pub Marked : Meaning → Ranking → List Bool → Type 0
Marked m ρ seen = (t : ℕ) → marked seen t ≡ reached m ρ t
