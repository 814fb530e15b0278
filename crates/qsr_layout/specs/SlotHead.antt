-- The head of a slot, as the format has it.
use Rattle.std.specs.Prelude.{ℕ}
use Rattle.qsr_layout.specs.declared.fields.Field.{Field}
use Rattle.qsr_layout.specs.declared.records.SlotHeadField.{SlotHeadField}
use Rattle.qsr_layout.specs.declared.records.SlotHeadField.TheVariants.{Gate, Sequence, Length, Zero}

-- the places of the fields in the layout
abbrev pub slot_head_place : SlotHeadField → ℕ
slot_head_place Gate = 0
slot_head_place Sequence = 1
slot_head_place Length = 2
slot_head_place Zero = 3

-- where each field stands
abbrev pub slot_head_field : SlotHeadField → Field
slot_head_field Gate = record { at = 0; bytes = 1 }
slot_head_field Sequence = record { at = 1; bytes = 1 }
slot_head_field Length = record { at = 2; bytes = 4 }
slot_head_field Zero = record { at = 6; bytes = 2 }
