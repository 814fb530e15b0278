use Rattle.table_file.specs.CatalogueBytes.{index_bytes}
use Rattle.part_codec.proofs.Putting.{then_puts}
use Rattle.table_file.proofs.entry_bytes.put_index.Goals as goal

pub returns : goal.returns
unfolding index_bytes
returns c =
    then_puts c.put_bytes-at.ensures (then_puts c.put_u32-at.ensures (then_puts c.put_u32-at-2.ensures (then_puts c.put_u32-at-3.ensures c.put_byte.ensures)))
