-- The text of every answer.
use Rattle.std.specs.Prelude.{ℕ, zero, suc, Bool, true, false, List, [], ◌∷◌, ◌++◌, Some, None, codes, decimal, Option}
use Rattle.labelset.specs.Bits.{has_bit}
use Rattle.law.specs.Faults.{number_of, named_state, named_label}
use Rattle.law.specs.declared.Fault.{Fault}
use Rattle.law.specs.declared.Verdict.{Verdict}
use Rattle.law.specs.declared.Verdict.TheVariants.{Held, Lost}
use Rattle.law.specs.declared.Rating.{Rating}
use Rattle.law.specs.declared.Rating.TheVariants.{Done, Kiosk, Public, LostEnd, LostKiosk, LostPublic}
use Rattle.law.specs.declared.View.{View}
use Rattle.law.specs.declared.Answer.{Answer}
use Rattle.law.specs.declared.Answer.TheVariants.{Planned, Opened, Replied, Reported, Rated, Barred, Seen, Left, Refused}

abbrev pub verdict_text : Verdict → List ℕ
verdict_text (Held rank) = codes "held " ++ decimal rank
verdict_text (Lost state) = codes "lost " ++ decimal state

abbrev pub rating_text : Rating → List ℕ
rating_text Done = codes "done"
rating_text (Kiosk rank choice) = codes "kiosk " ++ (decimal rank ++ (codes " " ++ decimal choice))
rating_text (Public rank) = codes "public " ++ decimal rank
rating_text LostEnd = codes "lost end"
rating_text LostKiosk = codes "lost kiosk"
rating_text (LostPublic label) = codes "lost public " ++ decimal label

-- a refusal by its number, and the state and the label that it names
abbrev pub refusal_text : Fault → List ℕ
refusal_text e = codes "refused " ++ (decimal (number_of e) ++ (codes " " ++ (decimal (named_state e) ++ (codes " " ++ decimal (named_label e)))))

abbrev pub place_text : Option ℕ → List ℕ
place_text None = codes "none"
place_text (Some state) = decimal state

-- whose turn it is: true is the public's
abbrev pub turn_text : Option Bool → List ℕ
turn_text None = codes "none"
turn_text (Some true) = codes "public"
turn_text (Some false) = codes "kiosk"

abbrev pub yes_or_no : Bool → List ℕ
yes_or_no true = codes "yes"
yes_or_no false = codes "no"

-- one label more in a list with commas
abbrev pub with_label : List ℕ → Bool → ℕ → List ℕ
with_label text false l = text
with_label [] true l = decimal l
with_label (c ∷ cs) true l = (c ∷ cs) ++ (codes "," ++ decimal l)

-- the labels of a set that are below n, rising
abbrev pub labels_below : ℕ → ℕ → List ℕ
labels_below set zero = []
labels_below set (suc n) = with_label (labels_below set n) (has_bit set n) n

abbrev pub or_none : List ℕ → List ℕ
or_none [] = codes "none"
or_none (c ∷ cs) = c ∷ cs

abbrev pub bars_text : ℕ → List ℕ
bars_text set = or_none (labels_below set 64)

abbrev pub view_text : View → List ℕ
view_text v =
    codes "position " ++ (place_text v.position ++ (codes " turn " ++ (turn_text v.public ++ (codes " over " ++ (yes_or_no v.over
    ++ (codes " bars " ++ (bars_text v.bars ++ (codes " plan " ++ (yes_or_no v.planned ++ (codes " refused " ++ decimal v.refusals))))))))))

abbrev pub answer_text : Answer → List ℕ
answer_text (Planned v) = verdict_text v
answer_text (Opened rank) = codes "opened " ++ decimal rank
answer_text (Replied label rank) = codes "replied " ++ (decimal label ++ (codes " " ++ decimal rank))
answer_text (Reported state) = codes "reported " ++ decimal state
answer_text (Rated r) = rating_text r
answer_text (Barred n) = codes "barred " ++ decimal n
answer_text (Seen v) = view_text v
answer_text (Left state) = codes "left " ++ decimal state
answer_text (Refused e) = refusal_text e
