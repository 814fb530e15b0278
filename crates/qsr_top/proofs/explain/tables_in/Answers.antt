use Rattle.qsr_top.proofs.ExplainLemmas.{tables_named}
use Rattle.qsr_top.proofs.explain.tables_in.Goals as goal

pub returns-clause-tables : goal.returns-clause-tables
returns-clause-tables g c s are has honest =
    tables_named c.in-Ok.catalogue s c.in_ok-named_tables.field-0 (c.in-Ok.ensures.tables s are has honest) c.in_ok-named_tables.ensures
