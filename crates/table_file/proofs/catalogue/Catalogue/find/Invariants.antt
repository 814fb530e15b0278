use Rattle.std.proofs.Common.{◌≡◌, ◌+◌, map, drop}
use Rattle.std.specs.Option.{option_map}
use Rattle.table_file.specs.Refusals.{table_names}
use Rattle.table_file.specs.Tables.{place_of}
use Rattle.table_file.proofs.catalogue.Catalogue.find.Given as goal

-- the name's place is to be found among the tables that are left
abbrev pub invariant-loop-table : goal.invariant-loop-table
invariant-loop-table l =
    place_of l.name (table_names l.self) ≡ option_map (λ k. l.table + k) (place_of l.name (map (λ entry. entry.name) (drop l.table l.self.tables)))
