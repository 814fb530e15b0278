use Rattle.table_file.proofs.WholeReader.{are_exact}
use Rattle.table_file.proofs.laws.catalogues_are_exact.Goals as goal

pub returns : goal.returns
returns c = are_exact
