use Rattle.std.proofs.Common.{◌≡◌, ◌+◌, ◌-◌, length, ap, arith}
use Rattle.disk_model.proofs.Images.{get_before, get_behind}
use Rattle.page_store.proofs.records.put_body.Goals as goal

pub returns-clause-outside : goal.returns-clause-outside
returns-clause-outside c =
    let long : 8 + length c.args.body.now - 8 ≡ length c.copy_from_slice.new.self = omega (arith, ap length c.copy_from_slice.ensures.after) in
    record {
      below = λ k before. get_before c.args.page.now c.copy_from_slice.new.self 8 (8 + length c.args.body.now - 8) k before (omega arith);
      above = λ k behind. get_behind c.args.page.now c.copy_from_slice.new.self 8 (8 + length c.args.body.now - 8) k long (omega arith) (omega arith);
    }
