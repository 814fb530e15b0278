use Rattle.std.specs.Io.KnownBytes.{prepend_known}
use Rattle.input_lines.proofs.OneLineLemmas.{kept_first, last_alone, line_kept, none_alone, none_is, none_kept, read_is}
use Rattle.input_lines.proofs.one_line.read_one_line.Goals as goal

pub returns-in-Ok-Unended-clause-line : goal.returns-in-Ok-Unended-clause-line
returns-in-Ok-Unended-clause-line g c =
    let left = g.S.Source.left c.args.source.now in
    let left' = g.S.Source.left c.next_line.new.source in
    let held = c.next_line.new.self in
    let keeps = kept_first c.in_ok-lines.lines held left left' c.in_ok-lines.ensures c.in-Ok-Unended.ensures.same in
    let found = last_alone held left' (rw c.in-Ok-Unended.field-0-is at c.in-Ok-Unended.ensures.held) (rw c.in-Ok-Unended.field-0-is at c.in-Ok-Unended.ensures.found) in
    line_kept c.first_text.result left (prepend_known held left') left' keeps
    (read_is c.first_text.result (prepend_known held left') left' _ found (rw c.as_slice.ensures at c.first_text.ensures.read))

pub returns-in-Ok-End-clause-none : goal.returns-in-Ok-End-clause-none
returns-in-Ok-End-clause-none g c =
    let left = g.S.Source.left c.args.source.now in
    let left' = g.S.Source.left c.next_line.new.source in
    let held = c.next_line.new.self in
    let keeps = kept_first c.in_ok-lines.lines held left left' c.in_ok-lines.ensures c.in-Ok-End.ensures.same in
    let found = none_alone held left' (rw c.in-Ok-End.field-0-is at c.in-Ok-End.ensures.found) in
    none_kept c.first_text-in-Ok-End.result left (prepend_known held left') keeps
    (none_is c.first_text-in-Ok-End.result (prepend_known held left') _ found.0 c.first_text-in-Ok-End.ensures.none)
