use Rattle.std.proofs.Common.{◌+◌, arith, drop}
use Rattle.qsr_value.specs.Encoding.{encoded, encoded_row}
use Rattle.qsr_value.proofs.Encodings.{Fits-get, Fits-length, encoded_row-end, encoded_row-next}
use Rattle.qsr_value.proofs.Lists.{HasPut-done, HasPut-more, HasPut-room, HasPut-start}
use Rattle.qsr_value.proofs.encode.put_row.Goals as goal

pub loop-place-init : goal.loop-place-init
loop-place-init c = HasPut-start c.args.buf.now (encoded_row c.args.schema.now c.args.row.now) c.args.at

pub get-requires-in-loop-place : goal.get-requires-in-loop-place
get-requires-in-loop-place c =
    let fits = c.requires.fits in
    omega (arith, Fits-length c.args.schema.now c.args.row.now fits)

pub put_value-end-requires : goal.put_value-end-requires
put_value-end-requires c =
    let next = encoded_row-next c.args.schema.now c.args.row.now c.loop-place.place c.get-in-loop-place.result.now c.get.result.now c.get-in-loop-place.ensures c.get.ensures in
    let room = c.requires.room in
    let left = HasPut-room (encoded c.get-in-loop-place.result.now.kind c.get.result.now)
    (encoded_row (drop (c.loop-place.place + 1) c.args.schema.now) (drop (c.loop-place.place + 1) c.args.row.now)) c.loop-place.invariant next in
    record {
      of_kind = Fits-get c.args.schema.now c.args.row.now c.loop-place.place c.get-in-loop-place.result.now c.get.result.now c.requires.fits c.get-in-loop-place.ensures c.get.ensures;
      room = omega (arith, room, left);
    }

pub loop-place-preserved : goal.loop-place-preserved
loop-place-preserved c =
    let next = encoded_row-next c.args.schema.now c.args.row.now c.loop-place.place c.get-in-loop-place.result.now c.get.result.now c.get-in-loop-place.ensures c.get.ensures in
    let room = c.requires.room in
    HasPut-more _ _ (omega arith) c.loop-place.invariant next c.put_value-end.ensures.end c.put_value-end.ensures.bytes

pub returns : goal.returns
returns c =
    let none = encoded_row-end c.args.schema.now c.args.row.now c.loop-place.place (omega arith) in
    let done = HasPut-done c.loop-place.invariant none in
    record { end = done.0; bytes = done.1 }
