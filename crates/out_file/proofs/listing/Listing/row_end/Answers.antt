use Rattle.std.proofs.Common.{◌≡◌, ◌-◌, ◌∙◌, refl, sym, ap, arith, inl, inr}
use Rattle.byteorder.specs.Endian.{little_number}
use Rattle.page_store.specs.Twin.{bytes_at}
use Rattle.out_file.specs.Reading.{out_area}
use Rattle.out_file.proofs.AreaBytes.{length-bytes_at, number_at_front}
use Rattle.out_file.proofs.listing.Listing.row_end.Goals as goal

pub returns-then-left-lt-LENGTH_BYTES-clause-fault :
    goal.returns-then-left-lt-LENGTH_BYTES-clause-fault
returns-then-left-lt-LENGTH_BYTES-clause-fault g c = λ schema wanted m seen has.
    let area = out_area c.args.self.now.window.job m in
    let at = c.args.self.now.at in
    let left = c.args.self.now.end - at in
    let few = c.if-left-lt-LENGTH_BYTES.true in
    let some = c.requires.more in
    (refl, λ honest. record { some = omega (arith, some, length-bytes_at area at left); bad = inl (omega (arith, few, length-bytes_at area at left)) })

pub returns-then-left-length-clause-fault : goal.returns-then-left-length-clause-fault
returns-then-left-length-clause-fault g c = λ schema wanted m seen has.
    let area = out_area c.args.self.now.window.job m in
    let at = c.args.self.now.at in
    let left = c.args.self.now.end - at in
    let some = c.if-left-lt-LENGTH_BYTES.false in
    let more = c.if-left-length.true in (
      refl,
      λ honest.
          let read = (c.in-Ok.ensures.bytes m seen honest (has honest)).1 in
          let number : little_number 2 (bytes_at area at left) ≡ c.length_in-length.result =
          number_at_front area at left (omega (arith, some)) ∙ sym (ap (little_number 2) read) ∙ sym c.length_in-length.ensures.number in
          record { some = omega (arith, some, length-bytes_at area at left); bad = inr (inl (omega (arith, more, some, number, length-bytes_at area at left))) },
    )
