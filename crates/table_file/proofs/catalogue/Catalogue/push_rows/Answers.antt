use Rattle.std.proofs.Common.{◌≡◌, ◌+◌, [], ◌∷◌, ◌++◌, List, true, take, inl, inr, sym, ap, ◌∙◌, subst, append_assoc}
use Rattle.page_store.specs.Store.{store_view}
use Rattle.page_store.specs.declared.pages.Sizes.{Sizes}
use Rattle.qsr_value.specs.declared.row.Value.{Value}
use Rattle.table_file.specs.Refusals.{exceeds}
use Rattle.table_file.proofs.Pushes.{HasPushed, IsAdding, adding_then, next_row, none_fit, push_fault, pushed_then}
use Rattle.table_file.proofs.catalogue.Catalogue.push_rows.Goals as goal

pub returns-in-Err-clause-fault : goal.returns-in-Err-clause-fault
returns-in-Err-clause-fault g c = elim (push_fault _ c.in-Err.fault c.in-Err.ensures.fault) [
  | inl failed ↦ inl failed
  | inr full ↦ inr (
    full.0,
    λ before counted.
        let columns = c.args.schema.now in
        let rows = c.args.rows.now in
        let i = c.loop-row.row-index in
        let row = c.row-item.result in
        let so_far = c.loop-row.invariant.1.counted before counted in
        let none : exceeds c.loop-row.store.sizes columns ((before ++ take i rows) ++ row ∷ []) ≡ true = sym (c.push.ensures.means (before ++ take i rows) so_far) ∙ full.1 in
        let with_it : (before ++ take i rows) ++ row ∷ [] ≡ before ++ take (i + 1) rows =
        append_assoc before (take i rows) (row ∷ []) ∙ ap (λ (l : List (List Value)). before ++ l) (next_row rows i row c.loop-row-test.true c.row-item.is) in
        none_fit c.args.store.now.sizes columns before rows i (c.more_rows_exceed.ensures c.args.store.now.sizes columns)
        (subst (λ (sizes : Sizes). exceeds sizes columns (before ++ take (i + 1) rows) ≡ true) c.loop-row.invariant.3
        (subst (λ (l : List (List Value)). exceeds c.loop-row.store.sizes columns l ≡ true) with_it none)),
  )
]

pub returns-in-Err-clause-others : goal.returns-in-Err-clause-others
returns-in-Err-clause-others g c =
    let one : IsAdding (store_view c.loop-row.store) (store_view c.push.new.store) c.loop-row.writer c.push.new.self =
    record { table = c.push.ensures.table; others = c.push.ensures.others; behind = c.push.ensures.behind; keeps = c.push.ensures.keeps } in
    (adding_then c.loop-row.invariant.0 one).others

pub returns-in-Err-clause-keeps : goal.returns-in-Err-clause-keeps
returns-in-Err-clause-keeps g c =
    let one : IsAdding (store_view c.loop-row.store) (store_view c.push.new.store) c.loop-row.writer c.push.new.self =
    record { table = c.push.ensures.table; others = c.push.ensures.others; behind = c.push.ensures.behind; keeps = c.push.ensures.keeps } in
    (adding_then c.loop-row.invariant.0 one).keeps

pub returns-in-Err-clause-ready : goal.returns-in-Err-clause-ready
returns-in-Err-clause-ready g c = λ ready. c.push.ensures.ready (c.loop-row.invariant.4 ready)

pub loop-row-preserved : goal.loop-row-preserved
loop-row-preserved g c =
    let columns = c.args.schema.now in
    let rows = c.args.rows.now in
    let i = c.loop-row.row-index in
    let row = c.row-item.result in
    let one : IsAdding (store_view c.loop-row.store) (store_view c.push.new.store) c.loop-row.writer c.push.new.self =
    record { table = c.push.ensures.table; others = c.push.ensures.others; behind = c.push.ensures.behind; keeps = c.push.ensures.keeps } in
    let more : HasPushed columns (row ∷ []) (store_view c.loop-row.store) (store_view c.push.new.store) c.loop-row.writer c.push.new.self =
    record { counted = c.in-Ok.ensures.counted; added = c.in-Ok.ensures.added; texts = (c.in-Ok.ensures.texts, tt) } in (
      adding_then c.loop-row.invariant.0 one,
      subst (λ (l : List (List Value)). HasPushed columns l (store_view c.args.store.now) (store_view c.push.new.store) c.args.writer.now c.push.new.self)
          (next_row rows i row c.loop-row-test.true c.row-item.is) (pushed_then columns (take i rows) (row ∷ []) c.loop-row.invariant.1 more),
      c.push.ensures.page,
      c.push.ensures.sizes ∙ c.loop-row.invariant.3,
      λ ready. c.push.ensures.ready (c.loop-row.invariant.4 ready),
      c.push.ensures.same ∙ c.loop-row.invariant.5,
      c.in-Ok.ensures.faults ∙ c.loop-row.invariant.6,
    )
