use Rattle.std.proofs.Common.{◌≡◌, ℕ, false, Some, ap, sym, ◌∙◌, arith}
use Rattle.std.proofs.lemmas.List.{length-map}
use Rattle.qsr_value.specs.Columns.{width_of}
use Rattle.table_file.specs.Refusals.{table_names}
use Rattle.table_file.specs.declared.fault.TableFault.TheVariants.{RowTooWide}
use Rattle.table_file.proofs.Refusing.{is_taken, told_full, told_none, told_taken, told_wide}
use Rattle.table_file.proofs.catalogue.Catalogue.refusal.Goals as goal

pub returns-then-is_taken : goal.returns-then-is_taken
returns-then-is_taken c = sym (told_taken (table_names c.args.self.now) c.args.name.now c.args.schema.now (sym c.is_taken.ensures ∙ c.if-is_taken.true))

pub returns-then-bytes-gt-MAX_WIDTH : goal.returns-then-bytes-gt-MAX_WIDTH
returns-then-bytes-gt-MAX_WIDTH c =
    let free : is_taken (table_names c.args.self.now) c.args.name.now c.args.schema.now ≡ false = sym c.is_taken.ensures ∙ c.if-is_taken.false in
    let width : c.width-bytes.result ≡ width_of c.args.schema.now = c.width-bytes.ensures in
    let wide = c.if-bytes-gt-MAX_WIDTH.true in
    ap (λ (n : ℕ). Some (RowTooWide n)) width ∙ sym (told_wide (table_names c.args.self.now) c.args.name.now c.args.schema.now free (omega (arith, wide, width)))

pub returns-then-len-ge-MAX_TABLES : goal.returns-then-len-ge-MAX_TABLES
returns-then-len-ge-MAX_TABLES c =
    let free : is_taken (table_names c.args.self.now) c.args.name.now c.args.schema.now ≡ false = sym c.is_taken.ensures ∙ c.if-is_taken.false in
    let width : c.width-bytes.result ≡ width_of c.args.schema.now = c.width-bytes.ensures in
    let narrow = c.if-bytes-gt-MAX_WIDTH.false in
    let full = c.if-len-ge-MAX_TABLES.true in
    sym (told_full (table_names c.args.self.now) c.args.name.now c.args.schema.now free (omega (arith, narrow, width)) (omega (arith, full, c.len.ensures, length-map c.args.self.now.tables (λ table. table.name))))

pub returns : goal.returns
returns c =
    let free : is_taken (table_names c.args.self.now) c.args.name.now c.args.schema.now ≡ false = sym c.is_taken.ensures ∙ c.if-is_taken.false in
    let width : c.width-bytes.result ≡ width_of c.args.schema.now = c.width-bytes.ensures in
    let narrow = c.if-bytes-gt-MAX_WIDTH.false in
    let few = c.if-len-ge-MAX_TABLES.false in
    sym (told_none (table_names c.args.self.now) c.args.name.now c.args.schema.now free (omega (arith, narrow, width)) (omega (arith, few, c.len.ensures, length-map c.args.self.now.tables (λ table. table.name))))
