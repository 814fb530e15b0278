use Rattle.std.proofs.Common.{List, [], ◌∷◌, ◌++◌, ap, map, sym, ◌∙◌}
use Rattle.sql_bind.specs.declared.names.NamedTable.{NamedTable}
use Rattle.qsr_top.specs.Explain.{table_of_entry}
use Rattle.qsr_value.proofs.Lists.{take-get}
use Rattle.qsr_top.proofs.explain.named_tables.Goals as goal

pub loop-table-preserved : goal.loop-table-preserved
loop-table-preserved c =
    c.in_ok-push.ensures.ok ∙ ap (λ (tables : List NamedTable). tables ++ c.in_ok-named_table.field-0 ∷ []) c.loop-table.invariant
    ∙ sym (take-get (map table_of_entry c.args.catalogue.now.tables) c.loop-table.table c.in_ok-named_table.field-0 c.in_ok-named_table.ensures)
