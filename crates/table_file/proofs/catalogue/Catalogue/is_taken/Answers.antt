use Rattle.std.proofs.Common.{◌≡◌, ◌||◌, Option, Bool, true, false, List, ℕ, ap, sym, ◌∙◌}
use Rattle.std.specs.Option.{is_some}
use Rattle.qsr_value.specs.declared.schema.Column.{Column}
use Rattle.qsr_value.specs.Names.{is_among}
use Rattle.table_file.specs.Refusals.{column_names, repeats, table_names}
use Rattle.table_file.proofs.Naming.{among_place}
use Rattle.table_file.proofs.catalogue.Catalogue.is_taken.Goals as goal

pub returns-then-is_some : goal.returns-then-is_some
returns-then-is_some c =
    let here : is_among c.args.name.now (table_names c.args.self.now) ≡ true =
    sym (among_place c.args.name.now (table_names c.args.self.now)) ∙ ap (λ (o : Option ℕ). is_some o) (sym c.find.ensures.place) ∙ sym c.is_some.ensures ∙ c.if-is_some.true in
    sym (ap (λ (b : Bool). b || repeats (column_names c.args.schema.now)) here)

pub returns : goal.returns
returns c =
    let none : is_among c.args.name.now (table_names c.args.self.now) ≡ false =
    sym (among_place c.args.name.now (table_names c.args.self.now)) ∙ ap (λ (o : Option ℕ). is_some o) (sym c.find.ensures.place) ∙ sym c.is_some.ensures ∙ c.if-is_some.false in
    c.repeats_name.ensures ∙ ap (λ (l : List Column). repeats (column_names l)) c.as_slice.ensures
    ∙ sym (ap (λ (b : Bool). b || repeats (column_names c.args.schema.now)) none)
