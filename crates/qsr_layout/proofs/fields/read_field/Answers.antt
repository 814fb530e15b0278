use Rattle.std.proofs.Common.{◌≡◌, ◌-◌, ◌∙◌, ap, drop, arith, length-drop}
use Rattle.std.proofs.lemmas.List.{take_all}
use Rattle.byteorder.specs.Endian.{little_number}
use Rattle.byteorder.specs.Numbers.{little_from-lt}
use Rattle.qsr_layout.specs.Fields.{field_start_of, field_width_of}
use Rattle.qsr_layout.proofs.Numbers.{little_from-drop}
use borrow.Rule.Slice.PartMut.{mid_of}
use Rattle.qsr_layout.proofs.fields.read_field.Goals as goal

pub returns-clause-value : goal.returns-clause-value
returns-clause-value g c =
    let at = field_start_of c.args.l.now.fields c.args.i in
    let n = field_width_of c.args.l.now.fields c.args.i in
    let page = c.args.page.now in
    let rest : mid_of at (4096 - at) page ≡ drop at page = take_all (4096 - at) (drop at page) (omega (arith, length-drop at page, c.told-page)) in
    c.read_uint128.ensures ∙ ap (little_number n) rest ∙ little_from-drop at n page

pub returns-clause-fits : goal.returns-clause-fits
returns-clause-fits g c =
    let at = field_start_of c.args.l.now.fields c.args.i in
    let n = field_width_of c.args.l.now.fields c.args.i in
    let small = little_from-lt at n c.args.page.now c.fits-page in
    let value = returns-clause-value g c in
    omega (arith, small, value)
