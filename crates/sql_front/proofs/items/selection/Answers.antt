use Rattle.sql_front.specs.Machine.{first_item_k}
use Rattle.sql_front.proofs.ItemLemmas.{listed_only}
use Rattle.sql_front.proofs.items.selection.Goals as goal

pub returns-in_default : goal.returns-in_default
returns-in_default c = record { led = λ s. rw (listed_only (first_item_k s) c.args.input.now _ c.peek-token.ensures.first c.in_default.not-Star) (c.listed.ensures.led s) }
