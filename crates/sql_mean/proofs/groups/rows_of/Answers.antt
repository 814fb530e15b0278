use Rattle.std.proofs.Common.{List, ap, arith, rules, ◌∙◌}
use Rattle.sql_bind.specs.View.{select_view}
use Rattle.sql_mean.specs.Meaning.{Joined, group_row}
use Rattle.sql_mean.specs.Rows.{Row}
use Rattle.sql_mean.proofs.GroupSteps.{next_group_fits}
use Rattle.sql_mean.proofs.Pushing.{mapped_on}
use Rattle.sql_mean.proofs.groups.rows_of.Goals as goal

pub loop-group-preserved : goal.loop-group-preserved
loop-group-preserved c =
    mapped_on (λ (g : Row × List Joined). group_row (select_view c.args.select.now) g.0 g.1) c.args.groups.now c.loop-group.group-index c.group-item.result
    _ _ _ _ (omega arith) c.loop-group.invariant
    (c.in_ok-row_of.ensures.row ∙ ap (λ (g : Row × List Joined). group_row (select_view c.args.select.now) g.0 g.1) c.group-item.is) c.in_ok-push.ensures.ok

pub returns-in_err-row_of-clause-fits : goal.returns-in_err-row_of-clause-fits
returns-in_err-row_of-clause-fits c = λ fits.
    let here = next_group_fits c.args.select.now.items c.args.groups.now c.loop-group.group-index c.group-item.result (omega arith) c.group-item.is fits in
    let error = c.in_err-row_of.ensures.fits here in
    search rules
