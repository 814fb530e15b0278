-- The head of a store, as the format has it.
use Rattle.std.specs.Prelude.{ℕ}
use Rattle.qsr_layout.specs.declared.fields.Field.{Field}
use Rattle.qsr_layout.specs.declared.records.StoreHeadField.{StoreHeadField}
use Rattle.qsr_layout.specs.declared.records.StoreHeadField.TheVariants.{Gate, Text, Version, TablePages, IndexPages, OutputPages, ImagePages, SpillPages}

-- the places of the fields in the layout
abbrev pub store_head_place : StoreHeadField → ℕ
store_head_place Gate = 0
store_head_place Text = 1
store_head_place Version = 2
store_head_place TablePages = 3
store_head_place IndexPages = 4
store_head_place OutputPages = 5
store_head_place ImagePages = 6
store_head_place SpillPages = 7

-- where each field stands
abbrev pub store_head_field : StoreHeadField → Field
store_head_field Gate = record { at = 0; bytes = 1 }
store_head_field Text = record { at = 1; bytes = 8 }
store_head_field Version = record { at = 9; bytes = 2 }
store_head_field TablePages = record { at = 11; bytes = 4 }
store_head_field IndexPages = record { at = 15; bytes = 4 }
store_head_field OutputPages = record { at = 19; bytes = 4 }
store_head_field ImagePages = record { at = 23; bytes = 4 }
store_head_field SpillPages = record { at = 27; bytes = 4 }
