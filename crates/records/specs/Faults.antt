-- The number, layer, record and offset that each fault of a reading stands for.

use Rattle.std.specs.Prelude.{ℕ}
use Rattle.records.specs.declared.RecordFault.TheVariants.{Byte, Mark, Field}
use Rattle.records.specs.declared.SheetFault.{SheetFault}
use Rattle.records.specs.declared.SheetFault.TheVariants.{Record, Order, Count, Excess, Room}
use Rattle.records.specs.declared.Layer.{Layer}
use Rattle.records.specs.declared.Layer.TheVariants as layers

-- the number that a fault is known by
abbrev pub number_of : SheetFault → ℕ
number_of (Record (Byte b)) = 2
number_of (Record (Mark i o)) = 1
number_of (Record (Field i o)) = 3
number_of (Order i o) = 4
number_of (Count i o) = 5
number_of (Excess i o) = 6
number_of (Room i o) = 7

-- the layer that a fault arises in
abbrev pub layer_of : SheetFault → Layer
layer_of (Record (Byte b)) = layers.Byte
layer_of (Record (Mark i o)) = layers.Record
layer_of (Record (Field i o)) = layers.Record
layer_of (Order i o) = layers.Sheet
layer_of (Count i o) = layers.Sheet
layer_of (Excess i o) = layers.Sheet
layer_of (Room i o) = layers.Sheet

-- the record at fault, counted from 0
abbrev pub index_of : SheetFault → ℕ
index_of (Record (Byte b)) = b.index
index_of (Record (Mark i o)) = i
index_of (Record (Field i o)) = i
index_of (Order i o) = i
index_of (Count i o) = i
index_of (Excess i o) = i
index_of (Room i o) = i

-- where in the input a fault lies
abbrev pub offset_of : SheetFault → ℕ
offset_of (Record (Byte b)) = b.offset
offset_of (Record (Mark i o)) = o
offset_of (Record (Field i o)) = o
offset_of (Order i o) = o
offset_of (Count i o) = o
offset_of (Excess i o) = o
offset_of (Room i o) = o
