-- The stable answer to a query is an answer.
use Rattle.std.specs.Prelude.{◌≡◌, List}
use Rattle.sql_bind.specs.Bound.{Bound}
use Rattle.qsr_lists.specs.Lists.{sorted}
use Rattle.qsr_lists.proofs.Sorting.{sorted_holds_all, sorted_rises}
use Rattle.sql_mean.specs.Meaning.{IsAnswer, Lists, bag, is_before, stable_answer}
use Rattle.sql_mean.specs.Rows.{Row}
use Rattle.sql_mean.proofs.OrderLaws.{rows_rank}

pub stable_is_answer : (tables : Lists) (q : Bound) (rows : List Row) → rows ≡ stable_answer tables q → IsAnswer tables q rows
stable_is_answer tables q rows is = record {
  arranged = sorted (is_before q.order_by) (bag tables q);
  same = sorted_holds_all (is_before q.order_by) (bag tables q);
  rises = sorted_rises (is_before q.order_by) (bag tables q) (rows_rank q.order_by).one_way;
  first = is;
}
