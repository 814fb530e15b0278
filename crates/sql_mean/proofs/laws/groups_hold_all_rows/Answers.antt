use Rattle.qsr_lists.proofs.Groups.{groups_hold_all}
use Rattle.sql_mean.specs.Meaning.{key_of}
use Rattle.sql_mean.specs.Rows.{same_row}
use Rattle.sql_mean.proofs.Equal.{rows_are_equal}
use Rattle.sql_mean.proofs.laws.groups_hold_all_rows.Goals as goal

pub returns : goal.returns
returns c = λ columns envs. groups_hold_all same_row (key_of columns) envs rows_are_equal
