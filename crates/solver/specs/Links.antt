-- How a link is written as one number.
use Rattle.std.specs.Prelude.{◌≡◌, ℕ, zero, suc, Some, None, Option, refl}

-- 0 is the end of a list, and one more than an arc's number stands for it
abbrev pub arc_of : ℕ → Option ℕ
arc_of zero = None
arc_of (suc n) = Some n

abbrev pub code_of : Option ℕ → ℕ
code_of None = 0
code_of (Some n) = suc n

pub code_back : (c : ℕ) → code_of (arc_of c) ≡ c
code_back zero = refl
code_back (suc n) = refl
