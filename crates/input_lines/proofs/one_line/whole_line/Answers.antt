use Rattle.std.proofs.Common.{◌≡◌, take, rules}
use Rattle.input_lines.specs.Lines.{without_cr}
use Rattle.input_lines.proofs.OneLineLemmas.{alone_line}
use Rattle.input_lines.proofs.one_line.whole_line.Goals as goal

pub returns-in-Ok-clause-line : goal.returns-in-Ok-clause-line
returns-in-Ok-clause-line g c =
    let is : c.without_cr.result.now ≡ without_cr (take c.args.len c.args.lines.now) = search rules in
    alone_line c.alone.result c.in_ok-text.text c.in-Ok.next c.args.len c.args.lines.now c.next_line.new.self (g.S.Source.left c.args.source.now) (g.S.Source.left c.next_line.new.source)
    c.requires.short c.alone.ensures.alone (rw is at c.in_ok-text.ensures.read) (rw c.consume.ensures at c.in-Ok.ensures.same) c.in-Ok.ensures.found
