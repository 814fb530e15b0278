use Rattle.out_file.proofs.file.OutFile.flush.Goals as goal

pub returns-in_err-sync-clause-ready : goal.returns-in_err-sync-clause-ready
returns-in_err-sync-clause-ready g c = λ ready. c.sync.ensures.ready (c.write_held.ensures.ready ready)

pub returns-clause-ready : goal.returns-clause-ready
returns-clause-ready g c = λ ready. c.sync.ensures.ready (c.write_held.ensures.ready ready)
