use Rattle.std.proofs.Common.{◌≡◌, ◌∙◌, Bool, true, sym, subst}
use Rattle.std.proofs.lemmas.Result.{IfErr-weaker, err_from_is_err_and, on_ok_weaker}
use Rattle.page_store.specs.Store.{store_view}
use Rattle.out_file.specs.Reading.{HasStepped, out_area}
use Rattle.out_file.proofs.Faults.{front_then, given_step, passed_step, read_step}
use Rattle.out_file.proofs.OnlyReads.{read_twice}
use Rattle.out_file.proofs.listing.Listing.step.Goals as goal

pub returns-in_err-end-clause-fault : goal.returns-in_err-end-clause-fault
returns-in_err-end-clause-fault g c =
    let is = c.in_err-end.ensures.fault c.args.schema.now c.args.wanted in
    let p = err_from_is_err_and c.from_residual.result c.from_residual.ensures.1 in
    rw (p.1, p.2) is

pub returns-then-wanted-clause-stepped : goal.returns-then-wanted-clause-stepped
returns-then-wanted-clause-stepped g c =
    let run = c.row_end.ensures.read.stays in
    let setup = c.row_end.ensures.setup in
    let self = c.args.self.now in
    let then = c.row_end.new.self in
    on_ok_weaker c.give.result
    (λ given m seen has.
    let read = λ (honest : (store_view c.args.store.now).honest). c.in_ok-end.ensures.bytes m seen honest (has honest) in
    let gives = given m (run.seen ∙ seen) (λ later. (read (run.time.honest.0 later)).0)
    (λ later. front_then m self.window.job then.window.job self.at then.at c.in_ok-end.end setup.0 setup.2 (read (run.time.honest.0 later)).1) in
    subst (λ (b : Bool). HasStepped c.args.schema.now b ((store_view c.args.store.now).honest) (out_area self.window.job m) self.at c.give.new.self.at
    (g.R.RowSink.pushed c.args.out.now) (g.R.RowSink.pushed c.give.new.out))
    (sym c.if-wanted.true)
    (given_step c.args.schema.now ((store_view c.args.store.now).honest) ((store_view c.row_end.new.store).honest) m self.window.job then.window.job self.at then.at c.give.new.self.at
    (g.R.RowSink.pushed c.args.out.now) (g.R.RowSink.pushed c.give.new.out) setup.0 setup.2 run.time.honest.1 gives))
    c.give.ensures.given

pub returns-then-wanted-clause-fault : goal.returns-then-wanted-clause-fault
returns-then-wanted-clause-fault g c =
    let run = c.row_end.ensures.read.stays in
    let setup = c.row_end.ensures.setup in
    let self = c.args.self.now in
    let then = c.row_end.new.self in
    let ends = c.in_ok-end.ensures.ends in
    IfErr-weaker c.give.result _ _
    (λ fault is m seen has.
    let read = λ (honest : (store_view c.args.store.now).honest). c.in_ok-end.ensures.bytes m seen honest (has honest) in
    read_step c.args.schema.now (c.args.wanted ≡ true) ((store_view c.args.store.now).honest) ((store_view c.row_end.new.store).honest) m
    self.window.job then.window.job self.at then.at c.in_ok-end.end self.end fault setup.0 setup.2 c.if-wanted.true run.time.honest.1
    ends.0 ends.1 ends.2 (λ honest. (read honest).1)
    (is m (run.seen ∙ seen) (λ later. (read (run.time.honest.0 later)).0)))
    c.give.ensures.fault

pub returns-then-wanted-clause-read : goal.returns-then-wanted-clause-read
returns-then-wanted-clause-read g c = read_twice c.row_end.ensures.read c.give.ensures.read

pub returns-clause-stepped : goal.returns-clause-stepped
returns-clause-stepped g c = λ m seen has.
    let area = out_area c.args.self.now.window.job m in
    let at = c.args.self.now.at in
    let ends = c.in_ok-end.ensures.ends in
    let honest = (store_view c.args.store.now).honest in
    let sink = g.R.RowSink.pushed c.args.out.now in
    subst (λ (b : Bool). HasStepped c.args.schema.now b honest area at c.in_ok-end.end sink sink) (sym c.if-wanted.false)
    (passed_step honest area at c.in_ok-end.end sink ends.0 ends.2 (λ told. (c.in_ok-end.ensures.bytes m seen told (has told)).1))
