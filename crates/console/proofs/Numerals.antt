-- Digits read one by one, where the number so far is clamped.
use Rattle.std.proofs.Common.{◌≡◌, ℕ, ◌+◌, ◌-◌, ◌*◌, ◌<◌, ◌≤◌, min, Bool, true, false, cond, List, [], ◌∷◌, length, Some, None, Option, refl, ap, ◌∙◌, arith}
use Rattle.std.specs.Char.{is_ascii_digit}
use Rattle.console.specs.Calls.{read_on, numeral, clamped}
use Rattle.console.proofs.Folds.{on_from}

if_digit : (b : Bool) (most : ℕ) (x y : Option ℕ) → clamped most x ≡ clamped most y → clamped most (cond b x None) ≡ clamped most (cond b y None)
if_digit true most x y e = e
if_digit false most x y e = refl

-- numbers that are clamped alike read on alike
read_alike : (most : ℕ) (ds : List ℕ) (a b : ℕ) → min a most ≡ min b most → clamped most (read_on a ds) ≡ clamped most (read_on b ds)
read_alike most [] a b e = ap (λ (n : ℕ). Some n) e
read_alike most (c ∷ cs) a b e =
    if_digit (is_ascii_digit c) most _ _ (read_alike most cs (a * 10 + (c - 48)) (b * 10 + (c - 48)) (omega (arith, e)))

pub numeral_of_some : (ds : List ℕ) → 0 < length ds → numeral ds ≡ read_on 0 ds
numeral_of_some [] h = absurd (omega arith)
numeral_of_some (c ∷ cs) h = refl

-- one digit more after n, clamped; none if the byte is none
abbrev pub more_clamped : ℕ → ℕ → ℕ → Option ℕ
more_clamped most n c = cond (is_ascii_digit c) (Some (min (n * 10 + (c - 48)) most)) None

by_digit : (most : ℕ) (cs : List ℕ) (m : ℕ) (b : Bool) → on_from (more_clamped most) (Some (min m most)) cs ≡ clamped most (read_on (min m most) cs)
    → on_from (more_clamped most) (cond b (Some (min m most)) None) cs ≡ clamped most (cond b (read_on m cs) None)
by_digit most cs m true e = e ∙ read_alike most cs (min m most) m (omega arith)
by_digit most cs m false e = refl

-- a number that is clamped at each digit is clamped as a whole
pub clamped_on : (most : ℕ) (ds : List ℕ) (n : ℕ) → n ≤ most → on_from (more_clamped most) (Some n) ds ≡ clamped most (read_on n ds)
clamped_on most [] n few = ap (λ (k : ℕ). Some k) (omega (arith, few))
clamped_on most (c ∷ cs) n few = by_digit most cs (n * 10 + (c - 48)) (is_ascii_digit c) (clamped_on most cs (min (n * 10 + (c - 48)) most) (omega arith))
