use Rattle.sql_front.specs.View.{name_tree}
use Rattle.sql_front.proofs.ColumnTokens.{column_name}
use Rattle.sql_front.proofs.columns.behind_dot.Goals as goal

pub returns-in-Name-clause-led : goal.returns-in-Name-clause-led
returns-in-Name-clause-led c = λ k.
    column_name (name_tree c.args.table) k c.args.input.now c.advance.new.self c.peek-token.result c.in-Name.name c.peek-token.ensures.first c.in-Name.is c.advance.ensures.rest c.advance.ensures.text
