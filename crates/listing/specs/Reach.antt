-- The states that plays by the choices of a plan reach from the starts.
use Rattle.std.specs.Prelude.{◌≡◌, ℕ, zero, suc, Bool, true, false, cond, not, ◌&&◌, ◌||◌, List, [], ◌∷◌, Some, None, Option}
use Rattle.game.specs.Meaning.{Meaning, Step}
use Rattle.game.specs.Search.{some_below}
use Rattle.game.specs.Ranks.{is}
use Rattle.game.specs.Strategies.{Move, at}
use Rattle.law.specs.Answers.{Ranking}

-- a play by the choices may take label l in s: s is no end, and at the public's turn or l is its choice
abbrev pub may_take : Meaning → Ranking → ℕ → ℕ → Bool
may_take m ρ s l = not (m.end s) && (m.public s || is (ρ.choice s) l)

-- where label l then leads
abbrev pub follow : Meaning → Ranking → ℕ → ℕ → Option ℕ
follow m ρ s l = cond (may_take m ρ s l) (m.next s l) None

-- some label leads from s to t
abbrev pub joins : Meaning → Ranking → ℕ → ℕ → Bool
joins m ρ s t = some_below (λ l. is (follow m ρ s l) t) m.ceiling

-- k moves at most lead to t from a start
unfoldable pub reached_within : Meaning → Ranking → ℕ → ℕ → Bool
reached_within m ρ zero t = m.start t
reached_within m ρ (suc k) t = m.start t || some_below (λ s. joins m ρ s t && reached_within m ρ k s) m.size

-- t is reached (no layer after the size-th holds more)
unfoldable pub reached : Meaning → Ranking → ℕ → Bool
reached m ρ t = reached_within m ρ m.size t

-- h is a play from s whose labels at the kiosk's turn are the choices
abbrev pub ByChoices : Meaning → Ranking → ℕ → List Move → Type 0
ByChoices m ρ s [] = Unit {0}
ByChoices m ρ s (x ∷ h) = ByChoices m ρ s h × Step m (at s h) x.label x.to × (m.public (at s h) ≡ false → ρ.choice (at s h) ≡ Some x.label)

-- such a play leads from a start to t
pub record Reaches (m : Meaning) (ρ : Ranking) (t : ℕ) : Type 0 where
  pub from : ℕ
  pub starts : m.start from ≡ true
  pub play : List Move
  pub by_choices : ByChoices m ρ from play
  pub there : at from play ≡ t
