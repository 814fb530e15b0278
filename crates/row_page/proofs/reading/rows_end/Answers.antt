use Rattle.std.proofs.Common.{refl}
use Rattle.row_page.proofs.Fronts.{end_of_rows, row_read, some_page}
use Rattle.row_page.proofs.reading.rows_end.Goals as goal

pub loop-row-preserved : goal.loop-row-preserved
loop-row-preserved c = row_read c.loop-row.at _ c.in-Some.row.now c.args.page.now refl c.in-Some.ensures.row c.loop-row.invariant

pub returns-then-is_end-clause-rows : goal.returns-then-is_end-clause-rows
returns-then-is_end-clause-rows c = λ rows page. (end_of_rows c.loop-row.at c.args.page.now rows c.loop-row.invariant c.in_default.ensures.none page).0

pub returns-then-is_end-clause-none : goal.returns-then-is_end-clause-none
returns-then-is_end-clause-none c = λ none.
    let some = some_page c.loop-row.at c.args.page.now c.loop-row.invariant (c.if-is_end.ensures.0 refl) in
    absurd (none some.0 some.1)

pub returns-else-is_end-clause-rows : goal.returns-else-is_end-clause-rows
returns-else-is_end-clause-rows c = λ rows page.
    let ended = c.if-is_end.ensures.1 (end_of_rows c.loop-row.at c.args.page.now rows c.loop-row.invariant c.in_default.ensures.none page).1 in
    cc ended
