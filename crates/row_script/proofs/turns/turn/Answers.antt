use Rattle.std.proofs.Common.{◌∙◌, arith}
use Rattle.disk_model.proofs.Runs.{then_step}
use Rattle.row_script.proofs.RowLemmas.{HasRows-kept, HasRows-more, WritesRows-more}
use Rattle.row_script.proofs.turns.turn.Goals as goal

pub returns-in_err-write_row-clause-any_moment : goal.returns-in_err-write_row-clause-any_moment
returns-in_err-write_row-clause-any_moment g c start =
    then_step (c.loop-place.invariant.run start) c.write_row.ensures.steps
    (λ d e has same. HasRows-kept c.args.rows.now c.args.acknowledged c.loop-place.place d e (omega arith) has same)

pub loop-place-preserved : goal.loop-place-preserved
loop-place-preserved g c = record {
  run = λ start. then_step (c.loop-place.invariant.run start) c.write_row.ensures.steps
      (λ d e has same. HasRows-kept c.args.rows.now c.args.acknowledged c.loop-place.place d e (omega arith) has same);
  reads = λ start honest.
      let was = c.write_row.ensures.steps.time.honest.0 honest in
      HasRows-more c.args.rows.now c.loop-place.place (g.D.Disk.view c.write_row.new.disk).seen
      (HasRows-kept c.args.rows.now c.loop-place.place c.loop-place.place (g.D.Disk.view c.loop-place.disk).seen (g.D.Disk.view c.write_row.new.disk).seen
      (omega arith) (c.loop-place.invariant.reads start was) (c.write_row.ensures.steps.seen was))
      (c.in_ok-write_row.ensures.bytes was);
  size = c.write_row.ensures.size ∙ c.loop-place.invariant.size;
  faults = c.in_ok-write_row.ensures.faults ∙ c.loop-place.invariant.faults;
  disk_reads = c.write_row.ensures.reads ∙ c.loop-place.invariant.disk_reads;
  syncs = c.write_row.ensures.syncs ∙ c.loop-place.invariant.syncs;
  writes = WritesRows-more c.loop-place.invariant.writes c.write_row.ensures.writes;
}
