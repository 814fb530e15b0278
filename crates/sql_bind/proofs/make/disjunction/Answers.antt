use Rattle.std.proofs.Common.{rules, ◌≢◌, []}
use Rattle.sql_bind.proofs.Making.{disjunction_made}
use Rattle.sql_bind.proofs.make.disjunction.Goals as goal

pub returns : goal.returns
returns c =
    let some : c.args.closed ≢ [] = search rules in
    disjunction_made _ _ _ _ some c.in_ok-push.ensures.ok c.any_of.ensures
