use Rattle.std.proofs.Common.{arith}
use Rattle.qsr_value.specs.Encoding.{encoded_row}
use Rattle.row_page.proofs.Framing.{length-framed}
use Rattle.out_file.proofs.file.OutFile.put_short_row.Goals as goal

pub returns-in_default-clause-end : goal.returns-in_default-clause-end
returns-in_default-clause-end c =
    let most = c.encodings_are_exact.ensures.width c.args.schema.now c.args.row.now c.requires.fits in
    let long = length-framed (encoded_row c.args.schema.now c.args.row.now) in
    let width = c.requires.width in
    let room = c.requires.room in
    absurd (omega (arith, most, long, width, room, c.in_default.ensures.room))

pub returns-in_default-clause-bytes : goal.returns-in_default-clause-bytes
returns-in_default-clause-bytes c =
    let most = c.encodings_are_exact.ensures.width c.args.schema.now c.args.row.now c.requires.fits in
    let long = length-framed (encoded_row c.args.schema.now c.args.row.now) in
    let width = c.requires.width in
    let room = c.requires.room in
    absurd (omega (arith, most, long, width, room, c.in_default.ensures.room))

pub returns-clause-small : goal.returns-clause-small
returns-clause-small c =
    let most = c.encodings_are_exact.ensures.width c.args.schema.now c.args.row.now c.requires.fits in
    let long = length-framed (encoded_row c.args.schema.now c.args.row.now) in
    let width = c.requires.width in
    let end = c.in-Ok.ensures.end in
    omega (arith, most, long, width, end)
