-- What plan's words mean, in terms of strategies.
use Rattle.std.specs.Prelude.{◌≡◌, ℕ, ◌<◌, ◌≤◌, true}
use Rattle.game.specs.Meaning.{Meaning}
use Rattle.game.specs.Ranks.{Bars}
use Rattle.game.specs.Strategies.{Strategy, WinsWithin, Wins}
use Rattle.game.specs.Final.{PlaysChoices}
use Rattle.law.specs.declared.Verdict.{Verdict}
use Rattle.law.specs.declared.Verdict.TheVariants.{Held, Lost}

-- one strategy wins from every start
abbrev pub WinsAll : (m : Meaning) (b : Bars) → Strategy m b → Type 0
WinsAll m b w = (s : ℕ) → m.start s ≡ true → Wins m b w s

abbrev pub WinsAllWithin : (m : Meaning) (b : Bars) → Strategy m b → ℕ → Type 0
WinsAllWithin m b w k = (s : ℕ) → m.start s ≡ true → WinsWithin m b w k s

-- held, with n: the choices win within n from every start, and whichever strategy does so within k has k at least n
pub record HeldIs (m : Meaning) (b : Bars) (n : ℕ) : Type 0 where
  pub strategy : Strategy m b
  pub by_choices : PlaysChoices m b strategy
  pub wins : WinsAllWithin m b strategy n
  pub least : (w : Strategy m b) (k : ℕ) → WinsAllWithin m b w k → n ≤ k

-- lost, with s: no strategy wins from the start s, and from each lower start one does
pub record LostIs (m : Meaning) (b : Bars) (s : ℕ) : Type 0 where
  pub start : m.start s ≡ true
  pub hopeless : (w : Strategy m b) → Wins m b w s → ⊥
  pub lowest : (j : ℕ) → j < s → m.start j ≡ true → (w : Strategy m b) × Wins m b w j

abbrev pub VerdictIs : Meaning → Bars → Verdict → Type 0
VerdictIs m b (Held n) = HeldIs m b n
VerdictIs m b (Lost s) = LostIs m b s
