-- Sheets as values, and the one encoding of each as bytes.

use Rattle.std.specs.Prelude.{◌≡◌, ℕ, ◌/◌, ◌%◌, ◌<◌, ◌≤◌, Bool, true, ◌&&◌, ◌||◌, List, [], ◌∷◌, ◌++◌, length, Some, None, codes, Option, ◌==◌, nat_lt}
use Rattle.std.specs.List.{flat_map, AllByRecursion}
use Rattle.records.specs.Fields.{are_flags, all_printable}
use Rattle.format.specs.declared.Arc.{Arc}

-- a state: its flags and its name
pub record State : Type 0 where
  pub flags : ℕ
  pub name : List ℕ

-- a sheet: its states in order, and its moves in order
pub record Sheet : Type 0 where
  pub states : List State
  pub moves : List Arc

-- a number in two bytes, low byte first
abbrev pub u16_bytes : ℕ → List ℕ
u16_bytes n = (n % 256) ∷ (n / 256) ∷ []

-- a number in four bytes, low byte first
abbrev pub u32_bytes : ℕ → List ℕ
u32_bytes n = u16_bytes (n % 65536) ++ u16_bytes (n / 65536)

-- the first record: version 1 and the number of states
abbrev pub head_bytes : ℕ → List ℕ
head_bytes size = codes "SH" ++ (1 ∷ u16_bytes size)

-- a state's record: flags, length of the name, name
abbrev pub state_bytes : State → List ℕ
state_bytes s = codes "ST" ++ (s.flags ∷ (length s.name ∷ s.name))

-- a move's record: source, label, target
abbrev pub move_bytes : Arc → List ℕ
move_bytes a = codes "MV" ++ (u16_bytes a.source ++ (a.label ∷ u16_bytes a.target))

-- the last record: the number of moves
abbrev pub end_bytes : ℕ → List ℕ
end_bytes count = codes "ZZ" ++ u32_bytes count

-- the bytes of a sheet
abbrev pub encode : Sheet → List ℕ
encode s =
    head_bytes (length s.states)
    ++ (flat_map state_bytes s.states ++ (flat_map move_bytes s.moves ++ end_bytes (length s.moves)))

-- a state that has a record: four flags, and a name of at most 16 printable bytes
abbrev pub StateFits : State → Type 0
StateFits s = (are_flags s.flags ≡ true) × (length s.name ≤ 16) × (all_printable s.name ≡ true)

-- a move that has a record in a sheet of `size` states
abbrev pub ArcFits : ℕ → Arc → Type 0
ArcFits size a = (a.source < size) × (a.label < 64) × (a.target < size)

-- the pair of source and label lies above that of the last move, if there is one
abbrev pub above_last : Option Arc → Arc → Bool
above_last None a = true
above_last (Some l) a = nat_lt l.source a.source || (l.source == a.source && nat_lt l.label a.label)

-- the pairs of source and label rise strictly behind the last move
abbrev pub Rising : Option Arc → List Arc → Type 0
Rising last [] = Unit {0}
Rising last (a ∷ as') = (above_last last a ≡ true) × Rising (Some a) as'

-- a sheet that the format can hold
abbrev pub Fits : Sheet → Type 0
Fits s =
    (1 ≤ length s.states) × (length s.states ≤ 4096) × AllByRecursion StateFits s.states
    × AllByRecursion (ArcFits (length s.states)) s.moves × Rising None s.moves
