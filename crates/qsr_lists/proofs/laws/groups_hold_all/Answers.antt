use Rattle.qsr_lists.proofs.Groups.{groups_divide, groups_hold_all, keys_once}
use Rattle.qsr_lists.proofs.laws.groups_hold_all.Goals as goal

pub returns : goal.returns
returns g c = record { elements = groups_divide; sizes = groups_hold_all; keys = keys_once }
