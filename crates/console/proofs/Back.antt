-- Every call that can be made has a line that is read as it.
use Rattle.std.proofs.Common.{◌≡◌, ℕ, ◌+◌, ◌-◌, ◌*◌, ◌^◌, ◌<◌, ◌≤◌, min, Bool, true, false, cond, ◌&&◌, T, List, [], ◌∷◌, Some, None, decimal, Option, sym, refl, ap, ◌∙◌, subst, arith, rules}
use Rattle.std.specs.Option.{option_map}
use Rattle.std.specs.Char.{is_ascii_digit}
use Rattle.std.specs.Str.{all_ascii_digits}
use Rattle.std.proofs.lemmas.Fmt.{digits_decimal, digits_value-decimal, decimal_nonempty}
use Rattle.std.proofs.lemmas.Str.Parse.{IsNumeralModel, numerals_by_fold}
use Rattle.law.specs.declared.Call.{Call}
use Rattle.law.specs.declared.Call.TheVariants.{Plan, Open, Reply, Report, Rate, Bar, Lift, Look, Leave}
use Rattle.console.specs.Calls.{read_on, numeral, clamped, most_state, most_label, or_else, call_of, EveryCallHasALine, ReadsBack}
use Rattle.console.proofs.Numerals.{numeral_of_some}

abbrev value_on : ℕ → List ℕ → ℕ
value_on n [] = n
value_on n (c ∷ cs) = value_on (n * 10 + (c - 48)) cs

digits : IsNumeralModel (λ ds. all_ascii_digits ds ≡ true) (value_on 0)
digits = numerals_by_fold _ (search rules) value_on (search rules)

-- digits are read to their end
by_digit : (b : Bool) (o : Option ℕ) (rest : Bool) (n : ℕ) → (b && rest) ≡ true → (rest ≡ true → o ≡ Some n) → cond b o None ≡ Some n
by_digit true o rest n e go = go e
by_digit false o rest n e go = absurd (subst T (sym e) tt)

read_digits : (n : ℕ) (ds : List ℕ) → all_ascii_digits ds ≡ true → read_on n ds ≡ Some (value_on n ds)
read_digits n [] e = refl
read_digits n (c ∷ cs) e = by_digit (is_ascii_digit c) _ (all_ascii_digits cs) _ e (read_digits (n * 10 + (c - 48)) cs)

-- what is written of a number is read as it
numeral_decimal : (most n : ℕ) → most < 2 ^ 64 → n ≤ most → clamped most (numeral (decimal n)) ≡ Some n
numeral_decimal most n small le =
    let fits : n < 2 ^ 64 = omega arith in
    let same : min n most ≡ n = omega arith in
    ap (clamped most) (numeral_of_some (decimal n) (decimal_nonempty n fits) ∙ (read_digits 0 (decimal n) (digits_decimal digits n fits) ∙ ap (λ (x : ℕ). Some x) (digits_value-decimal digits n fits)))
    ∙ ap (λ (x : ℕ). Some x) same

state_decimal : (n : ℕ) → n ≤ most_state → clamped most_state (numeral (decimal n)) ≡ Some n
state_decimal n le = numeral_decimal most_state n (omega arith) le

label_decimal : (n : ℕ) → n ≤ most_label → clamped most_label (numeral (decimal n)) ≡ Some n
label_decimal n le = numeral_decimal most_label n (omega arith) le

pub read_back : EveryCallHasALine
read_back Plan h = refl
read_back (Open s) h = ap (λ (o : Option ℕ). or_else (or_else (option_map Open o) None) None) (state_decimal s h)
read_back Reply h = refl
read_back (Report l) h = ap (λ (o : Option ℕ). or_else (option_map Report o) None) (label_decimal l h)
read_back (Rate s) h = ap (λ (o : Option ℕ). or_else (option_map Rate o) None) (state_decimal s h)
read_back (Bar l) h = ap (λ (o : Option ℕ). or_else (option_map Bar o) None) (label_decimal l h)
read_back (Lift l) h = ap (λ (o : Option ℕ). option_map Lift o) (label_decimal l h)
read_back Look h = refl
read_back Leave h = refl

pub reads_back : (line : List ℕ) (r : Option Call) → r ≡ call_of line → ReadsBack line r
reads_back line r e q h is = e ∙ (ap call_of is ∙ read_back q h)
