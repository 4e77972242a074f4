-- Records: which may stand at a place, and what each tells.

use Rattle.std.specs.Prelude.{ℕ, ◌+◌, true, cond, List, Ok, Err, codes, Result}
use Rattle.std.specs.Str.{bytes_eq}
use Rattle.records.specs.declared.RecordFault.{RecordFault}
use Rattle.records.specs.declared.RecordFault.TheVariants.{Mark}
use Rattle.records.specs.declared.Record.{Record}
use Rattle.records.specs.declared.Record.TheVariants.{Head, State, Move, End}
use Rattle.records.specs.declared.Expect.{Expect}
use Rattle.records.specs.declared.Expect.TheVariants as expects
use Rattle.records.specs.Fields.{byte_at, u16_at, u32_at, part_at, judged, within, below, are_flags, all_printable}

-- a record by its values alone, a name by its bytes
pub data Item : Type 0 where
  head : ℕ → Item
  state : ℕ → ℕ → List ℕ → Item
  move : ℕ → ℕ → ℕ → Item
  end : ℕ → Item

-- the values of a record that has been read
abbrev pub item_of : Record → Item
item_of (Head size) = head size
item_of (State flags place name) = state flags place name.now
item_of (Move source label target) = move source label target
item_of (End count) = end count

-- what a call that takes a record answers, by values alone
abbrev pub shown_read : Result (Record × ℕ) RecordFault → Result (Item × ℕ) RecordFault
shown_read (Ok p) = Ok (item_of p.0, p.1)
shown_read (Err e) = Err e

-- goes on with what was read, unless it was refused
abbrev pub next : {A B E : Type 0} → Result A E → (A → Result B E) → Result B E
next (Ok a) f = f a
next (Err e) f = Err e

-- the first record, whose mark is at `at`: version and number of states
abbrev pub head_at : List ℕ → ℕ → ℕ → Result (Item × ℕ) RecordFault
head_at bs at i =
    next (judged (within 1 1) (at + 2) i (byte_at bs (at + 2) i))
    (λ _. next (judged (within 1 4096) (at + 3) i (u16_at bs (at + 3) i))
    (λ size. Ok (head size, at + 5)))

-- a state's record: flags, length of the name, name
abbrev pub state_at : List ℕ → ℕ → ℕ → Result (Item × ℕ) RecordFault
state_at bs at i =
    next (judged are_flags (at + 2) i (byte_at bs (at + 2) i))
    (λ flags. next (judged (within 0 16) (at + 3) i (byte_at bs (at + 3) i))
    (λ len. next (judged all_printable (at + 4) i (part_at len bs (at + 4) i))
    (λ name. Ok (state flags (at + 4) name, at + 4 + len))))

-- a move's record: source, label, target
abbrev pub move_at : ℕ → List ℕ → ℕ → ℕ → Result (Item × ℕ) RecordFault
move_at size bs at i =
    next (judged (below size) (at + 2) i (u16_at bs (at + 2) i))
    (λ source. next (judged (within 0 63) (at + 4) i (byte_at bs (at + 4) i))
    (λ label. next (judged (below size) (at + 5) i (u16_at bs (at + 5) i))
    (λ target. Ok (move source label target, at + 7))))

-- the last record: the number of moves, which may be any
abbrev pub end_at : List ℕ → ℕ → ℕ → Result (Item × ℕ) RecordFault
end_at bs at i = next (judged (λ _. true) (at + 2) i (u32_at bs (at + 2) i)) (λ count. Ok (end count, at + 6))

-- the record behind the mark `m`, if that may stand here
abbrev pub marked_by : Expect → List ℕ → List ℕ → ℕ → ℕ → Result (Item × ℕ) RecordFault
marked_by expects.Head m bs at i = cond (bytes_eq m (codes "SH")) (head_at bs at i) (Err (Mark i at))
marked_by expects.State m bs at i = cond (bytes_eq m (codes "ST")) (state_at bs at i) (Err (Mark i at))
marked_by (expects.Tail size) m bs at i =
    cond (bytes_eq m (codes "MV")) (move_at size bs at i)
    (cond (bytes_eq m (codes "ZZ")) (end_at bs at i) (Err (Mark i at)))

-- the record at `at`: its mark is taken first, as a field of two bytes
abbrev pub record_at : Expect → List ℕ → ℕ → ℕ → Result (Item × ℕ) RecordFault
record_at e bs at i = next (judged (λ _. true) at i (part_at 2 bs at i)) (λ m. marked_by e m bs at i)
