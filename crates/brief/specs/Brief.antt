-- What is told in brief of a text, and of the plan over a game.
use Rattle.std.specs.Prelude.{ℕ, ◌-◌, List, ◌++◌, Some, None, codes, decimal, Option, ◌==◌, count_by}
use Rattle.std.specs.List.{before_first}
use Rattle.game.specs.Meaning.{Meaning}
use Rattle.law.specs.declared.Fault.{Fault}
use Rattle.law.specs.Faults.{number_of}
use Rattle.law.specs.Checks.{first_fault}
use Rattle.law.specs.Answers.{ranking}
use Rattle.listing.specs.Lines.{listing_text}
use Rattle.planner.specs.Printed.{no_bars}

-- how many lines end in a text
abbrev pub line_count : List ℕ → ℕ
line_count text = count_by (λ c. c == 10) text

-- what stands before the first line feed, or all of the text
abbrev pub first_line : List ℕ → List ℕ
first_line text = before_first (λ c. c == 10) text

-- a game of a make, by the make's name and the game's size
abbrev pub lead : List ℕ → ℕ → List ℕ
lead name size = name ++ (codes " " ++ (decimal size ++ codes ": "))

-- the first line of a listing, which tells the verdict, and how many lines follow it
abbrev pub listing_brief : List ℕ → List ℕ
listing_brief text = first_line text ++ (codes ", " ++ (decimal (line_count text - 1) ++ codes " lines\n"))

-- the number of plan's fault, or the listing in brief
abbrev pub plan_brief : Meaning → Option Fault → List ℕ
plan_brief m (Some f) = codes "refused " ++ (decimal (number_of f) ++ codes "\n")
plan_brief m None = listing_brief (listing_text m (ranking m no_bars))

abbrev pub plan_line : List ℕ → ℕ → Meaning → List ℕ
plan_line name size m = lead name size ++ plan_brief m (first_fault m)
