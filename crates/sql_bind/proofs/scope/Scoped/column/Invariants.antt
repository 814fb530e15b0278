use Rattle.std.proofs.Common.{◌≡◌, drop}
use Rattle.sql_bind.specs.Names.{column_in, column_from}
use Rattle.sql_tokens.specs.Words.{letters_of}
use Rattle.sql_bind.proofs.scope.Scoped.column.Given as goal

-- the column is to be found among those that are left
abbrev pub invariant-loop-place : goal.invariant-loop-place
invariant-loop-place l = column_in l.self (letters_of l.name) ≡ column_from l.self.place l.place (drop l.place l.self.columns) (letters_of l.name)
