use Rattle.std.proofs.Common.{rules, subst, sym}
use Rattle.std.proofs.lemmas.Int.{to_z-of_z}
use Rattle.std.specs.Int.{w128}
use Rattle.std.specs.Prelude.{FitsSigned}
use Rattle.qsr_value.specs.declared.kind.ColKind.TheVariants as kinds
use Rattle.qsr_value.specs.declared.row.Value.TheVariants.{Int}
use Rattle.qsr_value.specs.Encoding.{StandsAtFront}
use Rattle.qsr_value.proofs.Numbers.{AreBytes}
use Rattle.qsr_value.proofs.Readings.{wide_stands}
use Rattle.qsr_value.proofs.decode.read_wide.Goals as goal

pub returns : goal.returns
returns c =
    let are : AreBytes c.args.bytes.now = record { each = λ i. (c.type_inv.bytes i).fits } in
    let fits : FitsSigned w128 c.read_i128.result = search rules in
    let same = to_z-of_z w128 c.read_i128.result fits in
    subst (λ z. StandsAtFront kinds.Wide c.args.bytes.now (Int z)) (sym same)
    (wide_stands c.args.bytes.now c.read_i128.result c.if-bytes-lt-WIDE_BYTES.false are fits c.read_i128.ensures)
