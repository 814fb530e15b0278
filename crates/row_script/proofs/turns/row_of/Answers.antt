use Rattle.std.proofs.Common.{◌<◌, ◌∙◌, ℕ, ap, rules}
use Rattle.std.proofs.lemmas.Int.{to_z-of_z}
use Rattle.std.specs.Int.{w64}
use Rattle.std.specs.Prelude.{FitsSigned, get_or}
use Rattle.row_script.specs.Rows.{row_bytes}
use Rattle.row_script.proofs.RowLemmas.{row_bytes-read}
use Rattle.row_script.proofs.turns.row_of.Goals as goal

pub returns : goal.returns
returns c =
    let fits : FitsSigned w64 c.read_i64.result = search rules in
    let small : (i : ℕ) → get_or c.args.bytes.now i 0 < 256 = λ i. (c.type_inv.bytes i).fits in
    ap row_bytes (to_z-of_z w64 c.read_i64.result fits ∙ c.read_i64.ensures) ∙ row_bytes-read c.args.bytes.now c.requires small
