-- What ranks, choices and witnesses say of every strategy, whatever it remembers: the reason why a verdict is final.
use Rattle.std.specs.Prelude.{◌≡◌, ℕ, ◌≤◌, true, false, List, [], ◌∷◌, Some, None}
use Rattle.game.specs.Meaning.{Meaning, Step, done}
use Rattle.game.specs.Ranks.{Bars, rank, choice, witness, OnlySolution, LowestOfBest}
use Rattle.game.specs.Strategies.{Move, at, Strategy, Follows, Stops, WinsWithin, opening}

-- no play gets stuck: a public state that is no end has a feasible label
abbrev pub Unblocked : Meaning → Type 0
Unblocked m = (s : ℕ) → m.public s ≡ true → m.end s ≡ false → (l : ℕ) × (t : ℕ) × Step m s l t

-- the strategy w plays the choices
abbrev pub PlaysChoices : (m : Meaning) (b : Bars) → Strategy m b → Type 0
PlaysChoices m b w = (s : ℕ) (h : List Move) → w.names s h ≡ choice m b (at s h)

-- in the play h from s the public takes the witness at each of its states without rank
abbrev pub TakesWitness : Meaning → Bars → ℕ → List Move → Type 0
TakesWitness m b s [] = Unit {0}
TakesWitness m b s (x ∷ h) = TakesWitness m b s h × (m.public (at s h) ≡ true → m.end (at s h) ≡ false → rank m b (at s h) ≡ None → witness m b (at s h) ≡ Some x.label)

-- THE RANKS ARE FINAL
pub record Final (m : Meaning) (b : Bars) : Type 0 where
  -- the ranks meet their rules, and nothing else does
  pub only_solution : OnlySolution m b
  -- a ranked kiosk state that is not done has a choice, the lowest label to the least rank
  pub has_choice : (s r : ℕ) → done m s ≡ false → m.public s ≡ false → rank m b s ≡ Some r → (l : ℕ) × (choice m b s ≡ Some l)
  pub lowest_choice : (s l : ℕ) → choice m b s ≡ Some l → LowestOfBest m b s l
  -- the choices win within the rank, from every ranked state
  pub choices_win : (w : Strategy m b) × PlaysChoices m b w × ((s r : ℕ) → rank m b s ≡ Some r → WinsWithin m b w r s)
  -- a strategy that wins within k from a state shows that its rank is at most k
  pub none_better : (w : Strategy m b) (k s : ℕ) → WinsWithin m b w k s → (r : ℕ) × (rank m b s ≡ Some r) × (r ≤ k)
  -- a public state without rank that is no end has a witness, which leads to a state without rank
  pub has_witness : (s : ℕ) → m.public s ≡ true → m.end s ≡ false → rank m b s ≡ None → (l : ℕ) × (witness m b s ≡ Some l) × ((t : ℕ) × Step m s l t × (rank m b t ≡ None))
  -- against the witnesses no play from a state without rank stops at a goal
  pub lost_for_good : (w : Strategy m b) (s : ℕ) → rank m b s ≡ None → (h : List Move) → Follows m b w s h → TakesWitness m b s h → Stops m b w s h → m.goal (at s h) ≡ false

-- no endless play follows a strategy that wins within k
abbrev pub NoneEndless : Meaning → Bars → Type 0
NoneEndless m b = (w : Strategy m b) (k s : ℕ) → WinsWithin m b w k s → (f : ℕ → Move) → ((n : ℕ) → Follows m b w s (opening f n)) → ⊥
