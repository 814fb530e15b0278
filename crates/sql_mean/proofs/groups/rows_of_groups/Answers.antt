use Rattle.std.proofs.Common.{◌≡◌, List, IfOk, ap, map, subst, sym, ◌∙◌}
use Rattle.std.specs.List.{All}
use Rattle.qsr_lists.specs.Lists.{groups}
use Rattle.sql_bind.specs.View.{select_view}
use Rattle.sql_bind.specs.declared.bound.BoundColumn.{BoundColumn}
use Rattle.sql_mean.specs.Fits.{GroupFits}
use Rattle.sql_mean.specs.Meaning.{Joined, group_row, key_of}
use Rattle.sql_mean.specs.Rows.{Row, same_row}
use Rattle.sql_mean.proofs.groups.rows_of_groups.Goals as goal

pub returns-clause-rows : goal.returns-clause-rows
returns-clause-rows c =
    subst (λ (gs : List (Row × List Joined)). IfOk c.rows_of.result (λ (rows : List Row). rows ≡ map (λ (g : Row × List Joined). group_row (select_view c.args.select.now) g.0 g.1) gs))
    (c.as_slice-2.ensures ∙ c.in_ok-groups.ensures ∙ ap (λ (cs : List BoundColumn). groups same_row (key_of cs) c.args.envs.now) c.as_slice.ensures)
    c.rows_of.ensures.rows

pub returns-clause-fits : goal.returns-clause-fits
returns-clause-fits c = λ fits.
    c.rows_of.ensures.fits (subst (λ (gs : List (Row × List Joined)). All (λ (g : Row × List Joined). GroupFits c.args.select.now.items g.1) gs)
    (sym (c.as_slice-2.ensures ∙ c.in_ok-groups.ensures ∙ ap (λ (cs : List BoundColumn). groups same_row (key_of cs) c.args.envs.now) c.as_slice.ensures)) fits)
