use Rattle.std.proofs.Common.{◌∙◌, ◌-◌, ◌++◌, [], ◌∷◌, drop, length, map, sym, take}
use Rattle.std.specs.String.{string_bytes}
use Rattle.qsr_value.specs.declared.schema.Column.{Column}
use Rattle.qsr_top.specs.Words.{columns_of}
use Rattle.qsr_top.proofs.WordLemmas.{by_two, column_read, columns_read, few_words}
use Rattle.qsr_top.proofs.command.+columns_behind.Goals as goal

pub returns-then-is_empty : goal.returns-then-is_empty
returns-then-is_empty t c front are =
    rw (few_words string_bytes c.args.words.now c.in_default.len_below, sym c.if-is_empty.ensures) (columns_read front c.args.columns are)

pub returns-else-is_empty : goal.returns-else-is_empty
returns-else-is_empty t c front are =
    rw (few_words string_bytes c.args.words.now c.in_default.len_below, sym c.if-is_empty.ensures) tt

pub returns-in_err-kind : goal.returns-in_err-kind
returns-in_err-kind t c front are =
    let two = by_two string_bytes c.args.words.now c.name-item.result c.kind-item.result c.as_str-name.result.now c.as_str.result.now
    c.in-len2-up.len_at_least c.name-item.is c.kind-item.is c.as_str-name.ensures.value c.as_str.ensures.value in
    rw (two, sym c.column_kind.ensures ∙ c.in_err-kind.was, c.from_residual.ensures) tt

pub returns : goal.returns
returns t c front are =
    let two = by_two string_bytes c.args.words.now c.name-item.result c.kind-item.result c.as_str-name.result.now c.as_str.result.now
    c.in-len2-up.len_at_least c.name-item.is c.kind-item.is c.as_str-name.ensures.value c.as_str.ensures.value in
    let column : Column = record { name = c.as_str-name.result.now; kind = c.in_ok-kind.kind } in
    let behind = columns_of (map string_bytes (take (length c.args.words.now - 2) (drop 2 c.args.words.now))) in
    rw (two, sym c.column_kind.ensures ∙ c.in_ok-kind.was, sym (column_read front c.as_str-name.result.now c.in_ok-kind.kind behind))
    (c.columns_behind.ensures (front ++ column ∷ []) (c.with_column-columns.ensures front are))
