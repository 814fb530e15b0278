use Rattle.std.proofs.Common.{◌≡◌, length, replicate, sym, ◌∙◌, arith, rules}
use Rattle.page_store.specs.Head.{store_head}
use Rattle.page_store.proofs.Heads.{head_of_image, no_head, small_disk}
use Rattle.page_store.proofs.PageBytes.{get_within}
use Rattle.page_store.proofs.opening.read_store_head.Goals as goal

pub returns-then-size-clause-head : goal.returns-then-size-clause-head
returns-then-size-clause-head g c = λ honest. small_disk (g.D.Disk.size_of c.args.disk.now) (store_head (g.D.Disk.view c.args.disk.now).seen) (let small = c.if-size.true in omega arith)

pub returns-in_default-clause-head : goal.returns-in_default-clause-head
returns-in_default-clause-head g c = λ honest.
    let seen = (g.D.Disk.view c.args.disk.now).seen in
    let long : length c.read.new.out ≡ 31 = search rules in
    let is = head_of_image seen _ c.read.new.out long (c.in_ok-read.ensures.bytes honest) (λ i inside. get_within (replicate 4096 0) c.read.new.out 31 i long (omega arith) inside) in
    no_head (g.D.Disk.size_of c.args.disk.now) seen _ (c.in_default.ensures.value ∙ is) tt

pub returns-then-size-layout_pages-clause-head : goal.returns-then-size-layout_pages-clause-head
returns-then-size-layout_pages-clause-head g c = λ honest.
    let seen = (g.D.Disk.view c.args.disk.now).seen in
    let long : length c.read.new.out ≡ 31 = search rules in
    let is = head_of_image seen _ c.read.new.out long (c.in_ok-read.ensures.bytes honest) (λ i inside. get_within (replicate 4096 0) c.read.new.out 31 i long (omega arith) inside) in
    no_head (g.D.Disk.size_of c.args.disk.now) seen _ (c.in-Some.ensures.value ∙ is)
    (let less = c.if-size-layout_pages.true in let pages = c.layout_pages.ensures.count in let have = c.size-2.ensures in let same = c.read.ensures.size in omega (arith, less, pages, have, same))

pub returns-clause-head : goal.returns-clause-head
returns-clause-head g c = λ honest.
    let seen = (g.D.Disk.view c.args.disk.now).seen in
    let long : length c.read.new.out ≡ 31 = search rules in
    let is = head_of_image seen _ c.read.new.out long (c.in_ok-read.ensures.bytes honest) (λ i inside. get_within (replicate 4096 0) c.read.new.out 31 i long (omega arith) inside) in
    sym (c.in-Some.ensures.value ∙ is)
