use Rattle.std.proofs.Common.{◌≡◌, ◌+◌, ◌||◌, Bool, true, false, drop, nat_eq, ap, sym, ◌∙◌, rules}
use Rattle.std.specs.Cmp.Lexicographic.{pointwise}
use Rattle.qsr_value.specs.Names.{is_among, same_name}
use Rattle.table_file.specs.Refusals.{column_names}
use Rattle.table_file.proofs.Naming.{among_next}
use Rattle.table_file.proofs.names.is_among.Goals as goal

pub returns-then-eq : goal.returns-then-eq
returns-then-eq c =
    let column = c.column-item.result in
    let same : same_name column.name c.args.name.now ≡ true = ap (λ t. pointwise nat_eq t c.args.name.now) (sym c.as_str.ensures) ∙ sym c.eq.ensures ∙ c.if-eq.true in
    let rest = is_among c.args.name.now (column_names (drop (c.loop-column.column-index + 1) c.args.columns.now)) in
    sym (c.loop-column.invariant ∙ among_next c.args.name.now c.args.columns.now c.loop-column.column-index column (search rules) c.column-item.is
    ∙ ap (λ (b : Bool). b || rest) same)

pub loop-column-preserved : goal.loop-column-preserved
loop-column-preserved c =
    let column = c.column-item.result in
    let other : same_name column.name c.args.name.now ≡ false = ap (λ t. pointwise nat_eq t c.args.name.now) (sym c.as_str.ensures) ∙ sym c.eq.ensures ∙ c.if-eq.false in
    let rest = is_among c.args.name.now (column_names (drop (c.loop-column.column-index + 1) c.args.columns.now)) in
    c.loop-column.invariant ∙ among_next c.args.name.now c.args.columns.now c.loop-column.column-index column (search rules) c.column-item.is
    ∙ ap (λ (b : Bool). b || rest) other
