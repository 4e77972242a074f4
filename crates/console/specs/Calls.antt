-- Which call a line of text is.
use Rattle.std.specs.Prelude.{◌≡◌, ℕ, ◌+◌, ◌-◌, ◌*◌, ◌^◌, ◌≤◌, min, cond, List, [], ◌∷◌, ◌++◌, length, take, drop, Some, None, codes, decimal, Option}
use Rattle.std.specs.Option.{option_map}
use Rattle.std.specs.Char.{is_ascii_digit}
use Rattle.std.specs.Str.{bytes_eq}
use Rattle.law.specs.declared.Call.{Call}
use Rattle.law.specs.declared.Call.TheVariants.{Plan, Open, Reply, Report, Rate, Bar, Lift, Look, Leave}

-- the number that the digits write, after n was read; none if one is no decimal digit
abbrev pub read_on : ℕ → List ℕ → Option ℕ
read_on n [] = Some n
read_on n (c ∷ cs) = cond (is_ascii_digit c) (read_on (n * 10 + (c - 48)) cs) None

-- the number that a text of at least one decimal digit writes
abbrev pub numeral : List ℕ → Option ℕ
numeral [] = None
numeral (c ∷ cs) = read_on 0 (c ∷ cs)

-- a number above the highest one of its type is read as that
abbrev pub clamped : ℕ → Option ℕ → Option ℕ
clamped most o = option_map (λ n. min n most) o

-- the highest numbers that a state and a label can have: no game has such a state, and no ceiling lies above such a label
abbrev pub most_state : ℕ
most_state = 2 ^ 64 - 1

abbrev pub most_label : ℕ
most_label = 255

-- the number behind the lead, in a line that begins with it
abbrev pub number_behind : List ℕ → List ℕ → Option ℕ
number_behind lead line = cond (bytes_eq (take (length lead) line) lead) (numeral (drop (length lead) line)) None

abbrev pub state_behind : List ℕ → List ℕ → Option ℕ
state_behind lead line = clamped most_state (number_behind lead line)

abbrev pub label_behind : List ℕ → List ℕ → Option ℕ
label_behind lead line = clamped most_label (number_behind lead line)

-- a call of one word
abbrev pub bare_call : List ℕ → Option Call
bare_call line =
    cond (bytes_eq line (codes "plan")) (Some Plan) (cond (bytes_eq line (codes "reply")) (Some Reply)
    (cond (bytes_eq line (codes "look")) (Some Look) (cond (bytes_eq line (codes "leave")) (Some Leave) None)))

abbrev pub or_else : {A : Type 0} → Option A → Option A → Option A
or_else (Some a) o = Some a
or_else None o = o

-- a call of a word and a number
abbrev pub state_call : List ℕ → Option Call
state_call line = or_else (option_map Open (state_behind (codes "open ") line)) (option_map Rate (state_behind (codes "rate ") line))

abbrev pub label_call : List ℕ → Option Call
label_call line =
    or_else (option_map Report (label_behind (codes "report ") line)) (or_else (option_map Bar (label_behind (codes "bar ") line)) (option_map Lift (label_behind (codes "lift ") line)))

-- the call that a line is, or none: words stand at single blanks, and a number is decimal digits alone
abbrev pub call_of : List ℕ → Option Call
call_of line = or_else (bare_call line) (or_else (state_call line) (label_call line))

-- the line that asks for a call
abbrev pub call_text : Call → List ℕ
call_text Plan = codes "plan"
call_text (Open s) = codes "open " ++ decimal s
call_text Reply = codes "reply"
call_text (Report l) = codes "report " ++ decimal l
call_text (Rate s) = codes "rate " ++ decimal s
call_text (Bar l) = codes "bar " ++ decimal l
call_text (Lift l) = codes "lift " ++ decimal l
call_text Look = codes "look"
call_text Leave = codes "leave"

-- the state or label of the call fits its type
abbrev pub Fits : Call → Type 0
Fits Plan = Unit {0}
Fits (Open s) = s ≤ most_state
Fits Reply = Unit {0}
Fits (Report l) = l ≤ most_label
Fits (Rate s) = s ≤ most_state
Fits (Bar l) = l ≤ most_label
Fits (Lift l) = l ≤ most_label
Fits Look = Unit {0}
Fits Leave = Unit {0}

-- every call that can be made has a line that is read as it
abbrev pub EveryCallHasALine : Type 0
EveryCallHasALine = (q : Call) → Fits q → call_of (call_text q) ≡ Some q

-- where the line is the text of a call, that call is read
abbrev pub ReadsBack : List ℕ → Option Call → Type 0
ReadsBack line r = (q : Call) → Fits q → line ≡ call_text q → r ≡ Some q
