use Rattle.std.specs.Prelude.{◌≡◌, ℕ, ◌+◌, ◌≤◌, cond, List, ◌++◌, length, take, drop, Some, None, Option, nat_le}

-- An output with a text over its bytes from a place on.
abbrev pub over : ℕ → List ℕ → List ℕ → List ℕ
over at text out = take at out ++ (text ++ drop (at + length text) out)

-- What putting a text at a place answers, and the output then: where the text ends, and the output with it; or none, and the output as found, where the text does not fit.
abbrev pub placed : ℕ → List ℕ → List ℕ → Option ℕ × List ℕ
placed at text out = cond (nat_le (at + length text) (length out)) (Some (at + length text), over at text out) (None, out)

-- An output had room for a text from a place to its end, and the text now stands there.
pub record Written (before : List ℕ) (at : ℕ) (text : List ℕ) (end : ℕ) (after : List ℕ) : Type 0 where
  pub ends : end ≡ at + length text
  pub room : end ≤ length before
  pub whole : after ≡ over at text before
