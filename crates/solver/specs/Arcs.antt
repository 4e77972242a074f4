-- The moves of a game as arcs, number 64 s + l for label l of state s, and lists of the arcs into each state.
use Rattle.std.specs.Prelude.{◌≡◌, ℕ, zero, suc, ◌/◌, ◌%◌, ◌<◌, Bool, cond, not, ◌&&◌, ◌||◌, List, Some, None, Option, slice_index_or}
use Rattle.game.specs.Meaning.{Meaning}
use Rattle.game.specs.Ranks.{Bars, is}

-- label l of s may be used, if it has a move: s is no end, and the label is not barred to it
abbrev pub usable : Meaning → Bars → ℕ → ℕ → Bool
usable m b s l = not (m.end s) && (m.public s || not (b l))

-- where an arc leads
abbrev pub arc : Meaning → Bars → ℕ → Option ℕ
arc m b e = cond (usable m b (e / 64) (e % 64)) (m.next (e / 64) (e % 64)) None

abbrev pub into : Meaning → Bars → ℕ → ℕ → Bool
into m b t e = is (arc m b e) t

-- the highest number below n that passes
abbrev pub latest : (ℕ → Bool) → ℕ → Option ℕ
latest p zero = None
latest p (suc n) = cond (p n) (Some n) (latest p n)

-- the arcs below E are in the lists
pub record Linked (m : Meaning) (b : Bars) (E : ℕ) (heads links : List (Option ℕ)) : Type 0 where
  pub first : (t : ℕ) → t < m.size → slice_index_or heads t None ≡ latest (into m b t) E
  pub after : (e t : ℕ) → e < E → arc m b e ≡ Some t → slice_index_or links e None ≡ latest (into m b t) e
