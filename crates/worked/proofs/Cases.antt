-- The worked cases hold.
use Rattle.std.proofs.Common.{◌≡◌, [], ◌++◌, codes, decimal, refl, ap, ◌∙◌, lit<, lit≤}
use Rattle.std.proofs.lemmas.Fmt.{decimal_digit, decimal_step}
use Rattle.game.specs.Ranks.{within, rank, choice, witness}
use Rattle.law.specs.Checks.{first_fault}
use Rattle.law.specs.Law.{answer}
use Rattle.listing.specs.Reach.{reached_within, reached}
use Rattle.planner.specs.Printed.{bytes_text, printed}
use Rattle.worked.specs.Cases.{smallest, cut_short, WorkedCases}

held_zero : printed smallest ≡ codes "HELD 0\n"
unfolding within rank choice witness first_fault answer reached_within reached bytes_text
held_zero = ap (λ ds. codes "HELD " ++ (ds ++ codes "\n") ++ []) (decimal_digit 0 (lit< tt))

eleven : decimal 11 ≡ codes "11"
eleven = decimal_step 11 (lit≤ tt) (lit< tt) ∙ ap (λ ds. ds ++ codes "1") (decimal_digit 1 (lit< tt))

refused_two : printed cut_short ≡ codes "REFUSED 2 2 11\n"
unfolding bytes_text
refused_two =
    ap (λ ds. codes "REFUSED " ++ (ds ++ codes " " ++ ds ++ codes " " ++ decimal 11 ++ codes "\n")) (decimal_digit 2 (lit< tt))
    ∙ ap (λ ds. codes "REFUSED 2 2 " ++ (ds ++ codes "\n")) eleven

pub worked : WorkedCases
unfolding within rank choice witness first_fault answer
worked = record {
  house_ratings = refl;
  house_without_three = refl;
  house_without_one = refl;
  house_run = refl;
  nim_four = refl;
  nim_two = refl;
  smallest_printed = held_zero;
  cut_printed = refused_two;
}
