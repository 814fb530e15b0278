use Rattle.table_file.proofs.WholeReader.{is_none, is_read}
use Rattle.table_file.proofs.body.read_catalogue.Goals as goal

pub returns-in-Ok : goal.returns-in-Ok
returns-in-Ok c =
    is_read c.args.sizes.now c.args.body.now c.in-Ok.catalogue (record { table = c.are_words.ensures.table; index = c.are_words.ensures.index }) (record { each = λ i. (c.type_inv.body i).fits }) c.in-Ok.ensures

pub returns-in-Err-Bad : goal.returns-in-Err-Bad
returns-in-Err-Bad c =
    is_none c.args.sizes.now c.args.body.now _ (record { table = c.are_words.ensures.table; index = c.are_words.ensures.index }) (rw c.in-Err-Bad.field-0-is at c.in-Err-Bad.ensures)
