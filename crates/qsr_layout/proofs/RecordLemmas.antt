-- The records of the store are checked, for calls among so many facts that a search gives up.
use Rattle.std.proofs.Common.{rules}
use Rattle.qsr_layout.specs.declared.records.TheConstants.{STORE_HEAD, SLOT_HEAD}
use Rattle.qsr_layout.specs.Fields.{IsChecked}

pub store_head_is_checked : IsChecked STORE_HEAD.fields
store_head_is_checked = search rules

pub slot_head_is_checked : IsChecked SLOT_HEAD.fields
slot_head_is_checked = search rules
