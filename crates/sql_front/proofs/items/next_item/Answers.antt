use Rattle.std.proofs.Common.{refl}
use Rattle.sql_front.specs.Machine.{next_item_k}
use Rattle.sql_front.proofs.ItemLemmas.{behind_comma}
use Rattle.sql_front.proofs.items.next_item.Goals as goal

pub returns-clause-led : goal.returns-clause-led
returns-clause-led c = λ is. rw (behind_comma is c.args.input.now c.advance.new.self _ refl c.requires c.advance.ensures.rest c.advance.ensures.text) (c.item.ensures.led (next_item_k is))
