-- Bytes behind their lengths, and what the bytes of no rows and of one row more are.
use Rattle.std.proofs.Common.{◌≡◌, ℕ, List, [], ◌∷◌, ◌++◌, refl}
use Rattle.qsr_value.specs.Encoding.{encoded_row}
use Rattle.qsr_value.specs.declared.row.Value.{Value}
use Rattle.qsr_value.specs.declared.schema.Column.{Column}
use Rattle.row_page.specs.Framed.{framed, rows_bytes}

-- lists of bytes, each behind its length
abbrev pub all_framed : List (List ℕ) → List ℕ
all_framed lists = rows_bytes (λ (bytes : List ℕ). bytes) lists

pub framed_nil : all_framed [] ≡ []
framed_nil = refl

pub framed_cons : (bytes : List ℕ) (rest : List (List ℕ)) → all_framed (bytes ∷ rest) ≡ framed bytes ++ all_framed rest
framed_cons bytes rest = refl

pub rows_nil : (schema : List Column) → rows_bytes (encoded_row schema) [] ≡ []
rows_nil schema = refl

pub rows_cons : (schema : List Column) (row : List Value) (rest : List (List Value)) → rows_bytes (encoded_row schema) (row ∷ rest) ≡ framed (encoded_row schema row) ++ rows_bytes (encoded_row schema) rest
rows_cons schema row rest = refl
