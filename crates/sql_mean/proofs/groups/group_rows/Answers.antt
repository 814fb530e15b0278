use Rattle.std.proofs.lemmas.Bool.{false≢true}
use Rattle.sql_mean.proofs.GroupSteps.{grouped_fits}
use Rattle.sql_mean.proofs.groups.group_rows.Goals as goal

pub returns-clause-fits : goal.returns-clause-fits
returns-clause-fits c = λ fits. c.rows_of_groups.ensures.fits
    (grouped_fits c.args.select.now.items c.args.select.now.group_by c.args.envs.now (λ is. false≢true (c.if-is_empty.ensures.1 is)) fits)
