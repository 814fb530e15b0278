use Rattle.std.proofs.Common.{◌∙◌, ◌-◌}
use Rattle.input_lines.proofs.BufferLemmas.{Keeps-read}
use Rattle.input_lines.proofs.line_buffer.LineBuffer.fill.Goals as goal

pub returns-clause-same : goal.returns-clause-same
returns-clause-same g c =
    Keeps-read (g.S.Source.left c.args.source.now) (g.S.Source.left c.read_behind.new.source) c.args.self.now c.read_behind.new.bytes.items
    (c.self.inside.end - c.self.inside.start) c.in_ok-count.count
    (c.in_ok-count.ensures.kept ∙ c.move_front.ensures.moved ∙ c.self.view_is)
    c.in_ok-count.ensures.bytes
