use Rattle.std.proofs.Common.{rules, sym}
use Rattle.sql_bind.proofs.SelectLemmas.{unlike_lengths}
use Rattle.sql_bind.proofs.selects.are_alike.Goals as goal

pub returns-then-first-other : goal.returns-then-first-other
returns-then-first-other c = sym (unlike_lengths c.args.first.now c.args.other.now (search rules))
