use Rattle.std.proofs.Common.{◌≡◌, ◌+◌, ◌-◌, ◌%◌, List, ℕ, take, drop, arith, subst, sym}
use Rattle.std.proofs.lemmas.List.{length-take, take_all}
use Rattle.std.proofs.lemmas.Result.{on_ok_weaker}
use Rattle.page_store.specs.PageOrder.{job_part}
use Rattle.page_store.specs.Store.{AreaHolds, store_view}
use Rattle.out_file.specs.Output.{OutHolds, held_bytes}
use Rattle.out_file.proofs.Outputs.{next_stands}
use Rattle.out_file.proofs.file.OutFile.write_held.Goals as goal

pub returns-clause-stands : goal.returns-clause-stands
returns-clause-stands g c =
    let out = c.args.self.now in
    on_ok_weaker c.write_up_to.result
    (λ stands bytes long held before honest_after.
    let honest = c.write_up_to.ensures.grows.time.honest.0 honest_after in
    let count : c.behind.result - out.written % 4096 ≡ out.held = omega (arith, c.behind.ensures) in
    let all : take (out.written + out.held) bytes ≡ bytes = take_all (out.written + out.held) bytes (omega (arith, long)) in
    let part : take out.held (drop out.written bytes) ≡ take (c.behind.result - out.written % 4096) (drop (out.written % 4096) out.page) = rw (count, held) (take_all out.held (held_bytes out) (omega (arith, length-take out.held (drop (out.written % 4096) out.page)))) in
    subst (λ (l : List ℕ). OutHolds out.job l (store_view c.write_up_to.new.store).seen) all
    (next_stands out.job out.written out.held bytes (store_view c.args.store.now).seen (store_view c.write_up_to.new.store).seen (omega (arith, long)) (c.write_up_to.ensures.grows.seen honest)
    (before honest) (subst (λ (l : List ℕ). AreaHolds (job_part out.job 4) out.written l (store_view c.write_up_to.new.store).seen) (sym part) (stands honest))))
    c.write_up_to.ensures.stands
