use Rattle.input_lines.specs.OneLine.{IsOnlyLine}
use Rattle.qsr_top.proofs.ExplainLemmas.{line_caused, line_told}
use Rattle.qsr_top.proofs.explain.one_line.Goals as goal

pub returns-in-Err-clause-none : goal.returns-in-Err-clause-none
returns-in-Err-clause-none g c =
    rw c.told_of_line.ensures (line_told (IsOnlyLine (g.S.Source.left c.args.source.now)) c.in-Err.fault c.in-Err.ensures.none)

pub returns-in-Err-clause-cause : goal.returns-in-Err-clause-cause
returns-in-Err-clause-cause g c disk = rw c.told_of_line.ensures (line_caused c.in-Err.fault disk _ _ c.in-Err.ensures.cause)
