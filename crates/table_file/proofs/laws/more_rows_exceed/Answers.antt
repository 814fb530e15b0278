use Rattle.table_file.proofs.Paging.{more_exceed}
use Rattle.table_file.proofs.laws.more_rows_exceed.Goals as goal

pub returns : goal.returns
returns c = more_exceed
