use Rattle.std.proofs.Common.{ap, ◌∙◌, drop}
use Rattle.input_lines.proofs.BufferLemmas.{slice_range-later}
use Rattle.input_lines.proofs.line_buffer.LineBuffer.consume.Goals as goal

pub returns : goal.returns
returns c =
    let within = rw (← c.self.view_is) at c.requires in
    slice_range-later c.self.inside.bytes.items c.self.inside.start c.self.inside.end c.args.count within ∙ ap (drop c.args.count) c.self.view_is
