use Rattle.std.proofs.Common.{◌≡◌, ◌+◌, ◌-◌, ◌*◌, ◌%◌, ◌^◌, ◌≤◌, ◌<◌, [], ◌∷◌, ◌++◌, List, ℕ, take, drop, length, length-append, arith, subst, sym, ap, ◌∙◌, refl, rules}
use Rattle.std.proofs.lemmas.List.{drop-append-le, take-append-le}
use Rattle.page_store.specs.Store.{store_view}
use Rattle.qsr_value.specs.Encoding.{encoded_row}
use Rattle.row_page.specs.Framed.{framed, rows_bytes}
use Rattle.row_page.proofs.Framing.{row_behind, rows_bytes-push}
use Rattle.out_file.specs.Output.{OutHolds, held_bytes}
use Rattle.out_file.proofs.Outputs.{has_still, held_kept, none_grows, rows_few}
use Rattle.out_file.proofs.file.OutFile.push.Goals as goal

pub returns-in-Ok-clause-pushed : goal.returns-in-Ok-clause-pushed
returns-in-Ok-clause-pushed g c = λ rows before honest_after.
    let out = c.args.self.now in
    let schema = c.args.schema.now in
    let row = c.args.row.now in
    let has = before (c.keep.ensures.grows.time.honest.0 honest_after) in
    let old = rows_bytes (encoded_row schema) rows in
    let more = framed (encoded_row schema row) in
    let all = rows_bytes (encoded_row schema) (rows ++ row ∷ []) in
    let front = out.written % 4096 in
    let from : c.behind-from.result ≡ front + out.held = c.behind-from.ensures in
    let end = c.put_short_row-end.ensures.end in
    let page : length out.page ≡ 5120 = search rules in
    let short : front + out.held < 4096 = search rules in
    let put : c.put_short_row-end.new.buffer ≡ take (front + out.held) out.page ++ (more ++ drop c.put_short_row-end.result out.page) =
    c.put_short_row-end.ensures.bytes ∙ ap (λ (n : ℕ). take n out.page ++ (more ++ drop c.put_short_row-end.result out.page)) from in
    let pending : take (c.put_short_row-end.result - front) (drop front c.put_short_row-end.new.buffer) ≡ held_bytes out ++ more =
    ap (λ (l : List ℕ). take (c.put_short_row-end.result - front) (drop front l)) put
    ∙ row_behind front out.held (c.put_short_row-end.result - front) out.page more (drop c.put_short_row-end.result out.page) (omega (arith, page, short)) (omega (arith, end, from)) in
    let joined : all ≡ old ++ more = rows_bytes-push (encoded_row schema) rows row in
    let long : length old ≡ out.written + out.held = has.long in
    let size : length all ≡ out.written + out.held + length more = ap length joined ∙ length-append old more ∙ ap (λ n. n + length more) long in
    let left : drop out.written all ≡ take (c.put_short_row-end.result - front) (drop front c.put_short_row-end.new.buffer) =
    ap (drop out.written) joined ∙ drop-append-le out.written old more (omega (arith, long)) ∙ ap (λ (l : List ℕ). l ++ more) has.held ∙ sym pending in
    let before_it : take out.written all ≡ take out.written old = ap (take out.written) joined ∙ take-append-le out.written old more (omega (arith, long)) in
    let one : length (rows ++ row ∷ []) ≡ length rows + 1 = length-append rows (row ∷ []) in
    let few : 2 * length rows ≤ length old = rows_few schema rows in
    let most : out.written + out.held < 2 ^ 33 = search rules in
    let counted : out.rows ≡ length rows = has.count in
    let kept : c.keep.new.self.rows ≡ out.rows = c.in-Ok.ensures.setup.1 in
    let ends : c.keep.new.self.written + c.keep.new.self.held ≡ out.written + (c.put_short_row-end.result - front) = c.in-Ok.ensures.end in
    record {
      count = omega (arith, c.saturating_add-self.ensures, one, few, most, counted, kept, long);
      long = omega (arith, size, ends, end, from);
      held = c.in-Ok.ensures.held all left;
      stands =
          subst (λ (job : ℕ). OutHolds job (take c.keep.new.self.written all) (store_view c.keep.new.store).seen) (sym c.in-Ok.ensures.setup.0)
          (c.in-Ok.ensures.stands all (omega (arith, size)) left
          (λ honest. subst (λ (l : List ℕ). OutHolds out.job l (store_view c.args.store.now).seen) (sym before_it) (before honest).stands) honest_after);
    }

pub returns-then-free-lt-LEAST_FREE-clause-failed : goal.returns-then-free-lt-LEAST_FREE-clause-failed
returns-then-free-lt-LEAST_FREE-clause-failed g c = λ rows before honest.
    let out = c.args.self.now in
    let page : length out.page ≡ 5120 = search rules in
    let short : out.written % 4096 + out.held < 4096 = search rules in
    let bytes : take out.held (drop (out.written % 4096) c.put_short_row-end.new.buffer) ≡ held_bytes out =
    held_kept (out.written % 4096) out.held c.behind-from.result out.page _ _ (omega (arith, page, short)) c.behind-from.ensures c.put_short_row-end.ensures.bytes in
    let seen = (store_view c.args.store.now).seen in
    has_still c.args.schema.now rows out _ seen seen refl refl refl refl bytes (none_grows out.job out.written seen) (before honest)

pub returns-in-Err-clause-failed : goal.returns-in-Err-clause-failed
returns-in-Err-clause-failed g c = λ rows before honest_after.
    let out = c.args.self.now in
    let new = c.keep.new.self in
    let honest = c.keep.ensures.grows.time.honest.0 honest_after in
    let page : length out.page ≡ 5120 = search rules in
    let short : out.written % 4096 + out.held < 4096 = search rules in
    let written : new.written ≡ out.written = c.in-Err.ensures.kept.0 in
    let held : new.held ≡ out.held = c.in-Err.ensures.kept.1 in
    let same : new.page ≡ c.put_short_row-end.new.buffer = c.in-Err.ensures.kept.2 in
    let bytes : held_bytes new ≡ held_bytes out =
    rw (written, held, same) (held_kept (out.written % 4096) out.held c.behind-from.result out.page _ _ (omega (arith, page, short)) c.behind-from.ensures c.put_short_row-end.ensures.bytes) in
    has_still c.args.schema.now rows out new (store_view c.args.store.now).seen (store_view c.keep.new.store).seen c.in-Err.ensures.setup.0 c.in-Err.ensures.setup.1 written held bytes
    (c.keep.ensures.grows.seen honest) (before honest)
