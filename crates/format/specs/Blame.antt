-- What a refusal says of the bytes: what stands before the record at fault, and why no sheet goes on so.

use Rattle.std.specs.Prelude.{◌≡◌, ℕ, ◌+◌, ◌<◌, ◌≤◌, ◌⊎◌, List, [], ◌∷◌, ◌++◌, map, length, take, Ok, Err, Result}
use Rattle.std.specs.List.{flat_map}
use Rattle.records.specs.declared.RecordFault.TheVariants.{Byte, Mark, Field}
use Rattle.records.specs.declared.SheetFault.{SheetFault}
use Rattle.records.specs.declared.SheetFault.TheVariants.{Record, Order, Count, Excess, Room}
use Rattle.format.specs.declared.Counts.{Counts}
use Rattle.format.specs.Format.{Sheet, Fits, encode, head_bytes, state_bytes, move_bytes, end_bytes}

-- the records of a sheet in order, each by its bytes
abbrev pub records_of : Sheet → List (List ℕ)
records_of s =
    head_bytes (length s.states)
    ∷ (map state_bytes s.states ++ (map move_bytes s.moves ++ (end_bytes (length s.moves) ∷ [])))

-- the first `at` bytes are the first `i` records of a sheet that has more of them: the record `i` begins at `at`
abbrev pub Good : ℕ → ℕ → List ℕ → Type 0
Good i at bs =
    (at ≤ length bs)
    × ((s : Sheet) × Fits s × (i < length (records_of s)) × (flat_map (λ r. r) (take i (records_of s)) ≡ take at bs))

-- the bytes of the sheet begin with the first `k` bytes
abbrev pub Starts : ℕ → List ℕ → Sheet → Type 0
Starts k bs s = Fits s × ((rest : List ℕ) × (encode s ≡ take k bs ++ rest))

-- no sheet begins with the first `k` bytes
abbrev pub NoSheet : ℕ → List ℕ → Type 0
NoSheet k bs = (k ≤ length bs) × ((s : Sheet) → Starts k bs s → ⊥)

-- each sheet that begins with the first `k` bytes is longer than the input
abbrev pub TooShort : ℕ → List ℕ → Type 0
TooShort k bs = (k ≤ length bs) × ((s : Sheet) → Starts k bs s → length bs < length (encode s))

-- no sheet that begins with the first `k` bytes fits tables of `n` rows and `m` moves
abbrev pub TooLarge : ℕ → ℕ → ℕ → List ℕ → Type 0
TooLarge n m k bs = (s : Sheet) → Starts k bs s → (n < length s.states) ⊎ (m < length s.moves)

-- why each fault is the one that a reading into `n` rows and `m` moves names: a field that the input cuts off; a mark, a
-- field (of at most 16 bytes), a move and an end that no sheet has there; bytes behind a sheet; a sheet too large
abbrev pub Blames : ℕ → ℕ → List ℕ → SheetFault → Type 0
Blames n m bs (Record (Byte b)) = (at : ℕ) × Good b.index at bs × (at ≤ b.offset) × (b.offset ≤ at + 5) × TooShort b.offset bs
Blames n m bs (Record (Mark i o)) = Good i o bs × NoSheet (o + 2) bs
Blames n m bs (Record (Field i o)) = (at : ℕ) × Good i at bs × (at + 2 ≤ o) × (o ≤ at + 5) × ((w : ℕ) × (w ≤ 16) × NoSheet (o + w) bs)
Blames n m bs (Order i o) = Good i o bs × NoSheet (o + 7) bs
Blames n m bs (Count i o) = Good i o bs × NoSheet (o + 6) bs
Blames n m bs (Excess i o) = (s : Sheet) × Fits s × (encode s ≡ take o bs) × (o < length bs) × (i + 1 ≡ length (records_of s))
Blames n m bs (Room i o) = Good i o bs × ((end : ℕ) × Good (i + 1) end bs × TooLarge n m end bs)

-- each refusal has its reason
abbrev pub Blamed : ℕ → ℕ → List ℕ → Result Counts SheetFault → Type 0
Blamed n m bs (Ok c) = Unit {0}
Blamed n m bs (Err f) = Blames n m bs f
