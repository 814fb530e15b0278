use Rattle.std.proofs.Common.{arith}
use Rattle.input_lines.proofs.LineLemmas.{BeginsTooLong-window, BeginsWhole-window}
use Rattle.input_lines.proofs.line_buffer.find_line.Goals as goal

pub returns-in-Some-clause-found : goal.returns-in-Some-clause-found
returns-in-Some-clause-found c more =
    BeginsWhole-window c.args.bytes.now more c.min.result c.in-Some.len (omega arith) c.in-Some.ensures.found.0 c.in-Some.ensures.found.1 c.in-Some.ensures.first

pub returns-in-None-clause-found : goal.returns-in-None-clause-found
returns-in-None-clause-found c more = BeginsTooLong-window c.args.bytes.now more c.min.result c.in-None.ensures.none c.if-window-gt-MAX_LINE.true
