use Rattle.qsr_value.specs.Encoding.{encoded_row}
use Rattle.out_file.specs.Reading.{out_area}
use Rattle.out_file.proofs.Listings.{stands_to}
use Rattle.out_file.proofs.listing.Listing.give.Goals as goal

pub returns-clause-given : goal.returns-clause-given
returns-clause-given g c = λ m seen has front.
    let read = c.in_ok-row.ensures.row m seen has in
    let begins = c.requires.begins in
    let short = c.requires.short in
    record {
      row = c.in_ok-row.row;
      is = read.is;
      pushed = c.in-Ok.ensures.ok;
      stands = λ honest.
          stands_to (out_area c.args.self.now.window.job m) c.args.self.now.at c.args.end (encoded_row c.args.schema.now c.in_ok-row.row) begins short
          (front honest) (read.read honest);
    }
