use Rattle.std.proofs.Common.{◌≡◌, ◌+◌, ◌∙◌, length, ap, arith, take, drop, ◌++◌, ℕ}
use Rattle.page_store.specs.Store.{store_view}
use Rattle.qsr_value.specs.Encoding.{encoded_row}
use Rattle.row_page.specs.Framed.{framed}
use Rattle.table_file.proofs.Writing.{added_on_next, counted_on_next}
use Rattle.table_file.proofs.writer.TableWriter.push_on_next.Goals as goal

pub returns-clause-counted : goal.returns-clause-counted
returns-clause-counted g c = λ rows has.
    let bytes = framed (encoded_row c.args.schema.now c.args.row.now) in
    let none : c.next_page.new.self.end ≡ 0 = c.in-Ok.ensures.next.2 in
    let ends : c.put.new.self.end ≡ c.next_page.new.self.end + length bytes = c.in-Ok-put.ensures.end in
    let next : c.next_page.new.self.page ≡ c.args.self.now.page + 1 = c.in-Ok.ensures.next.0 in
    counted_on_next c.args.schema.now rows c.args.row.now c.args.self.now c.put.new.self (c.in-Ok-put.ensures.rows ∙ ap (λ (n : ℕ). n + 1) c.next_page.ensures.setup.1)
    (c.put.ensures.setup.1 ∙ next) (omega (arith, none, ends)) c.requires.long has

pub returns-clause-added : goal.returns-clause-added
returns-clause-added g c = λ rows before honest_after.
    let bytes = framed (encoded_row c.args.schema.now c.args.row.now) in
    let honest = c.next_page.ensures.grows.time.honest.0 honest_after in
    let none : c.next_page.new.self.end ≡ 0 = c.in-Ok.ensures.next.2 in
    let ends : c.put.new.self.end ≡ c.next_page.new.self.end + length bytes = c.in-Ok-put.ensures.end in
    let next : c.next_page.new.self.page ≡ c.args.self.now.page + 1 = c.in-Ok.ensures.next.0 in
    let rest = drop c.put.new.self.end c.next_page.new.self.bytes in
    let put : c.put.new.self.bytes ≡ take 0 c.next_page.new.self.bytes ++ (bytes ++ rest) =
    c.in-Ok-put.ensures.bytes ∙ ap (λ (n : ℕ). take n c.next_page.new.self.bytes ++ (bytes ++ rest)) none in
    added_on_next c.args.schema.now rows c.args.row.now c.next_page.new.self.bytes rest c.args.self.now c.put.new.self (store_view c.next_page.new.store).seen
    (c.put.ensures.setup.0 ∙ c.next_page.ensures.setup.0) (c.in-Ok-put.ensures.rows ∙ ap (λ (n : ℕ). n + 1) c.next_page.ensures.setup.1)
    (c.put.ensures.setup.1 ∙ next) (c.put.ensures.setup.2 ∙ c.in-Ok.ensures.next.1) (omega (arith, none, ends)) c.requires.long put (before honest).counted
    (c.in-Ok.ensures.stands c.args.schema.now rows before honest_after)
