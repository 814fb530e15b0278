use Rattle.std.proofs.Common.{◌≡◌}
use Rattle.table_file.specs.CatalogueBytes.{AreWords, catalogue_bytes}
use Rattle.table_file.specs.Tables.{catalogue_of}
use Rattle.table_file.proofs.catalogue.Catalogue.load.Goals as goal

pub returns-in-Some-clause-tables : goal.returns-in-Some-clause-tables
returns-in-Some-clause-tables g c = λ s are stands honest.
    let found = rw c.in-Some.is at c.in_ok-catalogue.ensures in
    let body = c.in-Ok.ensures.body honest in
    let told = (stands honest).catalogue in
    let same : catalogue_bytes c.in-Some.catalogue ≡ catalogue_bytes (catalogue_of s) = cc found.stands in
    let words : AreWords c.sizes-sizes.result = record { table = c.are_words.ensures.table; index = c.are_words.ensures.index } in
    let stores = rw c.sizes-sizes.ensures at words in
    c.catalogues_are_exact.ensures _ _ c.in-Some.catalogue (catalogue_of s) words stores found.form are.catalogue same
