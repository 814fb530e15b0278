use Rattle.std.proofs.Common.{◌≡◌, ◌==◌, ◌∙◌, false, length, sym}
use Rattle.input_lines.proofs.LineLemmas.{lines_of-unended}
use Rattle.input_lines.proofs.line_buffer.last_line.Goals as goal

pub returns-else-is_empty-clause-next : goal.returns-else-is_empty-clause-next
returns-else-is_empty-clause-next c =
    let some : (length c.args.held.now == 0) ≡ false = sym c.is_empty.ensures ∙ c.if-is_empty.false in
    lines_of-unended c.args.held.now some c.requires.open_ended
