-- The text of a listing.
use Rattle.std.specs.Prelude.{ℕ, zero, suc, ◌+◌, ◌*◌, Bool, cond, not, ◌&&◌, List, [], ◌++◌, Some, None, codes, Option}
use Rattle.game.specs.Meaning.{Meaning, done}
use Rattle.law.specs.Answers.{Ranking, plan_verdict}
use Rattle.law.specs.declared.Verdict.{Verdict}
use Rattle.law.specs.declared.Verdict.TheVariants.{Held, Lost}
use Rattle.text.specs.Lines.{count_line, line}
use Rattle.listing.specs.declared.entry.Entry.{Entry}
use Rattle.listing.specs.Reach.{reached}

-- s has a line: it is reached, at the kiosk's turn, and not done
abbrev pub has_line : Meaning → Ranking → ℕ → Bool
has_line m ρ s = reached m ρ s && (not (m.public s) && not (done m s))

-- what a plan says of s; nothing where it lacks a choice or a rank
abbrev pub entry_with : ℕ → Option ℕ → Option ℕ → Option Entry
entry_with s (Some l) (Some r) = Some (record { state = s; label = l; rank = r })
entry_with s (Some l) None = None
entry_with s None r = None

-- the entry of s, if it has a line
abbrev pub entry_of : Meaning → Ranking → ℕ → Option Entry
entry_of m ρ s = cond (has_line m ρ s) (entry_with s (ρ.choice s) (ρ.rank s)) None

-- a line of state, label and rank
abbrev pub entry_text : Option Entry → List ℕ
entry_text None = []
entry_text (Some e) = line [] e.state e.label e.rank

abbrev pub line_of : Meaning → Ranking → ℕ → List ℕ
line_of m ρ s = entry_text (entry_of m ρ s)

-- the lines of the states below n, rising
abbrev pub lines_below : Meaning → Ranking → ℕ → List ℕ
lines_below m ρ zero = []
lines_below m ρ (suc n) = lines_below m ρ n ++ line_of m ρ n

-- what follows from a verdict
abbrev pub text_after : Meaning → Ranking → Verdict → List ℕ
text_after m ρ (Held top) = count_line (codes "HELD ") top ++ lines_below m ρ m.size
text_after m ρ (Lost s) = count_line (codes "LOST ") s

-- the whole listing
abbrev pub listing_text : Meaning → Ranking → List ℕ
listing_text m ρ = text_after m ρ (plan_verdict m ρ.rank)

-- no listing is longer: a verdict's line, and 4,096 lines of 13 bytes
abbrev pub longest : ℕ
longest = 10 + 4096 * 13
