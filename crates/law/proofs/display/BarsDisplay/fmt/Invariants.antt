use Rattle.std.proofs.Common.{◌≡◌}
use Rattle.std.specs.Fmt.{HasWritten, IsPlainFormatter}
use Rattle.law.specs.Texts.{labels_below}
use Rattle.law.proofs.Commas.{comma_after}
use Rattle.law.proofs.display.BarsDisplay.fmt.Given as goal

-- the text so far has the labels below this one, and a comma comes before the next one if there are any
abbrev pub invariant-loop-label : goal.invariant-loop-label
invariant-loop-label g l =
    (l.comma ≡ comma_after (labels_below l.self.0 l.label-counter))
    × (IsPlainFormatter l.initial.f → HasWritten g.W.Write.write_str_gives l.initial.f (labels_below l.self.0 l.label-counter) l.f)
