use Rattle.std.proofs.Common.{◌≡◌, length, replicate, arith, rules}
use Rattle.page_store.proofs.PageBytes.{get_within}
use Rattle.page_store.proofs.SlotBytes.{head_read}
use Rattle.page_store.proofs.slots.read_head.Goals as goal

pub returns-clause-head : goal.returns-clause-head
returns-clause-head g c = λ honest.
    let long : length c.read.new.out ≡ 8 = search rules in
    head_read (g.D.Disk.view c.args.disk.now).seen c.args.slot _ c.read.new.out c.head_of.result
    long (c.in_ok-read.ensures.bytes honest) (λ i inside. get_within (replicate 4096 0) c.read.new.out 8 i long (omega arith) inside) c.head_of.ensures.gate c.head_of.ensures.sequence c.head_of.ensures.len
