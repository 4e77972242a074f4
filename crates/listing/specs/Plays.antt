-- What the lines of a listing say of plays.
use Rattle.std.specs.Prelude.{◌≡◌, ℕ, ◌+◌, ◌*◌, ◌≤◌, true, false, List, [], length, Some, Decides}
use Rattle.game.specs.Meaning.{Meaning, done}
use Rattle.game.specs.Ranks.{Bars, rank, choice}
use Rattle.game.specs.Strategies.{Move, at, Strategy, Follows}
use Rattle.game.specs.Final.{PlaysChoices}
use Rattle.law.specs.Answers.{ranking, plan_verdict}
use Rattle.law.specs.declared.Verdict.TheVariants.{Held}
use Rattle.text.specs.Lines.{line}
use Rattle.listing.specs.Lines.{has_line, line_of, listing_text}

-- some play from a start that follows w leads to s
pub record Visits (m : Meaning) (b : Bars) (w : Strategy m b) (s : ℕ) : Type 0 where
  pub from : ℕ
  pub starts : m.start from ≡ true
  pub play : List Move
  pub follows : Follows m b w from play
  pub there : at from play ≡ s

-- s is due a line: a play that follows w leads there, and it is a kiosk state and not done
pub record Due (m : Meaning) (b : Bars) (w : Strategy m b) (s : ℕ) : Type 0 where
  pub visited : Visits m b w s
  pub kiosk : m.public s ≡ false
  pub not_done : done m s ≡ false

-- the line of s: s, its choice and its rank
pub record Says (m : Meaning) (b : Bars) (s : ℕ) : Type 0 where
  pub label : ℕ
  pub moves : ℕ
  pub chosen : choice m b s ≡ Some label
  pub ranked : rank m b s ≡ Some moves
  pub text : line_of m (ranking m b) s ≡ line [] s label moves

-- THE LINES ARE RIGHT
pub record Right (m : Meaning) (b : Bars) : Type 0 where
  -- s has a line exactly if it is due one by a strategy that plays the choices
  pub exactly : (w : Strategy m b) → PlaysChoices m b w → (s : ℕ) → Decides (has_line m (ranking m b) s) (Due m b w s)
  -- after HELD the line tells its state, choice and rank
  pub says : (top s : ℕ) → plan_verdict m (rank m b) ≡ Held top → has_line m (ranking m b) s ≡ true → Says m b s
  -- and no listing is longer than a verdict's line and 4,096 lines of 13 bytes
  pub short : m.size ≤ 4096 → length (listing_text m (ranking m b)) ≤ 10 + 4096 * 13
