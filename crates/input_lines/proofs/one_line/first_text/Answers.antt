use Rattle.input_lines.proofs.OneLineLemmas.{no_text_read, text_given}
use Rattle.input_lines.proofs.one_line.first_text.Goals as goal

pub returns-in-Ok-clause-read : goal.returns-in-Ok-clause-read
returns-in-Ok-clause-read c = text_given c.owned.result c.args.bytes.now c.in-Ok.ensures.cases.1 (rw c.in-Ok.ensures.cases.0 at c.owned.ensures.text)

pub returns-in-Err-clause-none : goal.returns-in-Err-clause-none
returns-in-Err-clause-none c = no_text_read c.args.bytes.now c.in-Err.ensures.cases.0
