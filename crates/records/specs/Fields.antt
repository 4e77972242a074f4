-- Fields: each is first taken from the input at an absolute place, and then judged.

use Rattle.std.specs.Prelude.{ℕ, ◌+◌, ◌*◌, Bool, true, cond, ◌&&◌, List, [], ◌∷◌, length, take, drop, Ok, Err, Result, ◌==◌, bit_and, nat_le, nat_lt, slice_index}
use Rattle.records.specs.declared.ByteFault.{ByteFault}
use Rattle.records.specs.declared.RecordFault.{RecordFault}
use Rattle.records.specs.declared.RecordFault.TheVariants.{Byte, Field}

-- the byte at `at`, in the record `i`
abbrev pub byte_at : List ℕ → ℕ → ℕ → Result ℕ ByteFault
byte_at bs at i = cond (nat_lt at (length bs)) (Ok (slice_index bs at)) (Err (record { index = i; offset = at }))

-- a list of numbers holds a byte at `at`
abbrev pub is_byte : List ℕ → ℕ → Bool
is_byte bs at = nat_lt at (length bs) && nat_lt (slice_index bs at) 256

-- the number in the two bytes at `at`, low byte first
abbrev pub u16_at : List ℕ → ℕ → ℕ → Result ℕ ByteFault
u16_at bs at i =
    cond (is_byte bs at && is_byte bs (at + 1)) (Ok (slice_index bs at + 256 * slice_index bs (at + 1))) (Err (record { index = i; offset = at }))

-- the number in the four bytes at `at`, low byte first
abbrev pub u32_at : List ℕ → ℕ → ℕ → Result ℕ ByteFault
u32_at bs at i =
    cond ((is_byte bs at && is_byte bs (at + 1)) && (is_byte bs (at + 2) && is_byte bs (at + 3)))
    (Ok (slice_index bs at + 256 * slice_index bs (at + 1) + 65536 * (slice_index bs (at + 2) + 256 * slice_index bs (at + 3))))
    (Err (record { index = i; offset = at }))

-- the `len` bytes at `at`
abbrev pub part_at : ℕ → List ℕ → ℕ → ℕ → Result (List ℕ) ByteFault
part_at len bs at i = cond (nat_le (at + len) (length bs)) (Ok (take len (drop at bs))) (Err (record { index = i; offset = at }))

-- the bytes behind the part that a call answers
abbrev pub shown_part : {R E : Type 0} → Result R E → (R → List ℕ) → Result (List ℕ) E
shown_part (Ok x) f = Ok (f x)
shown_part (Err e) f = Err e

-- a field that was taken is judged
abbrev pub judged : {A : Type 0} → (A → Bool) → ℕ → ℕ → Result A ByteFault → Result A RecordFault
judged good at i (Ok v) = cond (good v) (Ok v) (Err (Field i at))
judged good at i (Err e) = Err (Byte e)

-- a number from `low` to `high`
abbrev pub within : ℕ → ℕ → ℕ → Bool
within low high v = nat_le low v && nat_le v high

-- the number of a state, of `size` states
abbrev pub below : ℕ → ℕ → Bool
below size v = nat_lt v size

-- no bits but the four lowest are set
abbrev pub are_flags : ℕ → Bool
are_flags v = bit_and v 15 == v

-- a byte that a name may have, between hexadecimal 20 and 7E
abbrev pub is_printable : ℕ → Bool
is_printable b = nat_le 32 b && nat_le b 126

-- a name has no other bytes
abbrev pub all_printable : List ℕ → Bool
all_printable [] = true
all_printable (b ∷ bs) = is_printable b && all_printable bs
