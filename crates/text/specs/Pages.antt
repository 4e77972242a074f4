use Rattle.std.specs.Prelude.{◌≡◌, ℕ, ◌+◌, ◌≤◌, List, length}
use Rattle.text.specs.declared.page.Page.{Page}
use Rattle.text.specs.Places.{Written}

-- A page has room for so many bytes from its place on.
abbrev pub Room : Page → ℕ → Type 0
Room p k = p.at + k ≤ length p.out.now

-- A page whose place has moved on over a text that now stands there: the same output, and nothing else in it changed.
pub record Adds (before : Page) (text : List ℕ) (after : Page) : Type 0 where
  pub same : after.out.ghost_name ≡ before.out.ghost_name
  pub written : Written before.out.now before.at text after.at after.out.now
