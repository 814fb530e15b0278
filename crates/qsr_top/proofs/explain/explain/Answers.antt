use Rattle.std.proofs.Common.{Err, refl, rules}
use Rattle.qsr_top.specs.Explain.{ComesToExplain}
use Rattle.qsr_top.specs.declared.told.Told.TheVariants as told
use Rattle.qsr_top.proofs.CreateLemmas.{of_same}
use Rattle.qsr_top.proofs.ExplainLemmas.{told_without_line, told_without_tables}
use Rattle.qsr_top.proofs.explain.explain.Goals as goal

pub returns-clause-comes : goal.returns-clause-comes
returns-clause-comes g c = record {
  tables = c.in_ok-tables.tables;
  explains = record {
    text = c.in_ok-line.line;
    input = c.in_ok-line.ensures.line.0;
    end = c.in_ok-line.ensures.line.1;
    answers = rw c.as_str.ensures at c.in_ok-answer_to.ensures;
  };
  cause = (c.in_ok-tables.ensures.cause, c.in_ok-line.ensures.cause);
  of_disk = tt;
  stored = c.in_ok-tables.ensures.tables;
  unstored = λ page honest none. absurd (c.in_ok-tables.ensures.unstored page honest none);
}

pub returns-in_err-tables-clause-comes : goal.returns-in_err-tables-clause-comes
returns-in_err-tables-clause-comes g c =
    let size = g.D.Disk.size_of c.args.disk.now in
    let left = g.S.Source.left c.args.source.now in
    let disk = g.D.Disk.view c.args.disk.now in
    let faults = g.D.Disk.faults_of c.args.disk.now in
    let faults' = g.D.Disk.faults_of c.stored_tables.new.disk in
    let source = g.S.Source.faults_of c.args.source.now in
    let fault = c.in_err-tables.field-0.0 in
    of_same (λ result. ComesToExplain size left left disk faults faults' source source result) (Err fault) (search rules)
    (told_without_tables size left disk faults faults' source fault c.in_err-tables.ensures.fault c.in_err-tables.ensures.cause c.in_err-tables.ensures.none c.in_err-tables.ensures.tables)

pub returns-in_err-line-clause-comes : goal.returns-in_err-line-clause-comes
returns-in_err-line-clause-comes g c =
    let size = g.D.Disk.size_of c.args.disk.now in
    let left = g.S.Source.left c.args.source.now in
    let left' = g.S.Source.left c.one_line.new.source in
    let disk = g.D.Disk.view c.args.disk.now in
    let faults = g.D.Disk.faults_of c.args.disk.now in
    let faults' = g.D.Disk.faults_of c.stored_tables.new.disk in
    let source = g.S.Source.faults_of c.args.source.now in
    let source' = g.S.Source.faults_of c.one_line.new.source in
    let fault = c.in_err-line.field-0.0 in
    of_same (λ result. ComesToExplain size left left' disk faults faults' source source' result) (Err fault) (search rules)
    (told_without_line size left left' disk faults faults' source source' fault c.in_ok-tables.ensures.cause c.in_err-line.ensures.cause c.in_err-line.ensures.none c.in_ok-tables.ensures.unstored)

pub returns-in_err-answer_to-clause-comes : goal.returns-in_err-answer_to-clause-comes
returns-in_err-answer_to-clause-comes g c =
    let size = g.D.Disk.size_of c.args.disk.now in
    let left = g.S.Source.left c.args.source.now in
    let left' = g.S.Source.left c.one_line.new.source in
    let disk = g.D.Disk.view c.args.disk.now in
    let faults = g.D.Disk.faults_of c.args.disk.now in
    let faults' = g.D.Disk.faults_of c.stored_tables.new.disk in
    let source = g.S.Source.faults_of c.args.source.now in
    let source' = g.S.Source.faults_of c.one_line.new.source in
    of_same (λ result. ComesToExplain size left left' disk faults faults' source source' result) (Err told.NoMemory) (search rules)
    (told_without_line size left left' disk faults faults' source source' told.NoMemory c.in_ok-tables.ensures.cause (λ disk. (refl, c.in_ok-line.ensures.cause)) tt c.in_ok-tables.ensures.unstored)
