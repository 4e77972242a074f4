-- A conversation with a new watch: lines in, one line out for each.
use Rattle.std.specs.Prelude.{◌≡◌, ℕ, cond, List, [], ◌∷◌, ◌++◌, map, length, Some, None, codes, Option, ◌==◌}
use Rattle.game.specs.Meaning.{Meaning}
use Rattle.law.specs.declared.Call.{Call}
use Rattle.law.specs.declared.Answer.{Answer}
use Rattle.watch.specs.Lived.{LawHolds, logged}
use Rattle.law.specs.Texts.{answer_text}
use Rattle.console.specs.Calls.{call_of}

-- a last line without its line feed, if anything stands there
abbrev pub last_line : List ℕ → List (List ℕ)
last_line [] = []
last_line (c ∷ cs) = (c ∷ cs) ∷ []

-- the lines of a text, of whose first line the front was read before
abbrev pub lines_after : List ℕ → List ℕ → List (List ℕ)
lines_after front [] = last_line front
lines_after front (c ∷ cs) = cond (c == 10) (front ∷ lines_after [] cs) (lines_after (front ++ (c ∷ [])) cs)

-- what each line is: a call, or none
abbrev pub calls_in : List ℕ → List (Option Call)
calls_in text = map call_of (lines_after [] text)

-- the lines that are calls
abbrev pub readable : List (Option Call) → List Call
readable [] = []
readable (None ∷ lines) = readable lines
readable (Some q ∷ lines) = q ∷ readable lines

-- one line for each: the next answer for a call, and a line that is no call is unreadable
abbrev pub transcript : List (Option Call) → List Answer → List ℕ
transcript [] answers = []
transcript (None ∷ lines) answers = codes "unreadable\n" ++ transcript lines answers
transcript (Some q ∷ lines) [] = []
transcript (Some q ∷ lines) (a ∷ answers) = (answer_text a ++ codes "\n") ++ transcript lines answers

-- The answers of a new watch over the game to all the calls: the law holds of the list.
pub record Answered (m : Meaning) (calls : List Call) (answers : List Answer) : Type 0 where
  pub all : length answers ≡ length calls
  pub law : LawHolds m (logged calls answers [])

-- The output tells the answers of a new watch over the game to the calls in the input.
pub record Conversation (m : Meaning) (input output : List ℕ) : Type 0 where
  pub answers : List Answer
  pub answered : Answered m (readable (calls_in input)) answers
  pub told : output ≡ transcript (calls_in input) answers
