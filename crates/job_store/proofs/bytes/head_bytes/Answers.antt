use Rattle.std.proofs.Common.{◌≡◌, ◌≤◌, ◌∙◌, length, take, sym, ap, arith}
use Rattle.std.proofs.lemmas.List.{take_all}
use Rattle.job_store.proofs.HeadLaws.{length-head_bytes}
use Rattle.job_store.proofs.bytes.head_bytes.Goals as goal

pub returns : goal.returns
returns c =
    let have = length-head_bytes c.args.head.now in
    let puts = c.put_head.ensures in
    let end : c.put_head.result ≡ 22 = omega (arith, puts.end_is, have) in
    let long : length c.put_head.new.body ≤ 22 = omega (arith, puts.long) in
    sym (take_all 22 c.put_head.new.body long) ∙ sym (ap (λ n. take n c.put_head.new.body) end) ∙ puts.front
