use Rattle.std.proofs.Common.{◌≡◌, ◌*◌, pos, subst, rules}
use Rattle.std.proofs.lemmas.Int.{to_z-of_z}
use Rattle.std.proofs.lemmas.Result.{on_ok_weaker}
use Rattle.std.specs.Prelude.{FitsSigned}
use Rattle.std.specs.Int.{w64}
use Rattle.std.specs.List.{slice_index_or}
use Rattle.disk_model.specs.Image.{Holds}
use Rattle.row_script.specs.Rows.{row_bytes}
use Rattle.row_script.specs.declared.turns.TheConstants.{ROW_BYTES}
use Rattle.row_script.proofs.turns.write_row.Goals as goal

pub returns-clause-bytes : goal.returns-clause-bytes
unfolding row_bytes
returns-clause-bytes g c =
    let fits : FitsSigned w64 (slice_index_or c.args.rows.now c.args.place (pos 0)) = search rules in
    let bytes : c.write_i64.new.buf ≡ row_bytes (slice_index_or c.args.rows.now c.args.place (pos 0)) = simp to_z-of_z at c.write_i64.ensures in
    on_ok_weaker c.write.result
    (λ stands honest. subst (Holds (g.D.Disk.view c.write.new.self).seen (ROW_BYTES * c.args.place)) bytes (stands honest))
    c.write.ensures.bytes
