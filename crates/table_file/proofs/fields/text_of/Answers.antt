use Rattle.std.proofs.Common.{arith}
use Rattle.table_file.proofs.FieldRuns.{no_text, text_stands}
use Rattle.table_file.proofs.fields.text_of.Goals as goal

pub returns-in-Ok-clause-value : goal.returns-in-Ok-clause-value
returns-in-Ok-clause-value c =
    text_stands c.args.max c.args.field.now c.in-Ok.text.now (omega arith) c.in-Ok.ensures.cases.0 c.in-Ok.ensures.cases.1

pub returns-in-Err-clause-value : goal.returns-in-Err-clause-value
returns-in-Err-clause-value c = no_text c.args.max c.args.field.now c.in-Err.ensures.cases.0
