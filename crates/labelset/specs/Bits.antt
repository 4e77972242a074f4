-- A set of labels that is kept as the bits of a number.
use Rattle.std.specs.Prelude.{ℕ, ◌/◌, ◌%◌, ◌^◌, Bool, ◌==◌}

-- label l is in the set
abbrev pub has_bit : ℕ → ℕ → Bool
has_bit set l = (set / 2 ^ l) % 2 == 1
