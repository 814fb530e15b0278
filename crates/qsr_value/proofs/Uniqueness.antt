-- Bytes are of one row at most, and where they are bad they are of none.
use Rattle.std.proofs.Common.{◌≡◌, ℕ, ◌+◌, ◌^◌, ◌<◌, ◌≤◌, ℤ, List, [], ◌∷◌, ◌++◌, length, take, drop, refl, sym, ap, subst, ◌∙◌, append_assoc, arith, length-append, inl, inr}
use Rattle.std.proofs.Math.Facts.{Fits-lt-pow, Fits-of_z}
use Rattle.std.proofs.Math.Seq.{take-append_seam}
use Rattle.std.proofs.lemmas.Int.{to_z-of_z}
use Rattle.std.proofs.lemmas.List.{take-append-drop}
use Rattle.std.specs.Int.{cast_signed, cast_unsigned, w64, w128}
use Rattle.std.specs.Prelude.{FitsSigned}
use Rattle.std.specs.Str.{IsUtf8}
use Rattle.byteorder.specs.Endian.{little_bytes, little_number}
use Rattle.byteorder.specs.Numbers.{length-bytes_low_first, little_number-reads_back}
use Rattle.qsr_value.specs.declared.kind.ColKind.{ColKind}
use Rattle.qsr_value.specs.declared.kind.ColKind.TheVariants as kinds
use Rattle.qsr_value.specs.declared.row.Value.{Value}
use Rattle.qsr_value.specs.declared.row.Value.TheVariants.{Int, Text}
use Rattle.qsr_value.specs.declared.schema.Column.{Column}
use Rattle.qsr_value.specs.Columns.{width_of, width_of_kind}
use Rattle.qsr_value.specs.Values.{FitsText, IsOfKind, Fits, IsText, AreTexts}
use Rattle.qsr_value.specs.Encoding.{int_bytes, wide_bytes, text_bytes, encoded, encoded_row, IsBadRest, IsBadRow, IsBadText, IsBadValue}
use Rattle.qsr_value.proofs.Bytes.{length-int_bytes, length-wide_bytes, length-text_bytes, same_number}
use Rattle.qsr_value.proofs.Lists.{same_parts}

same_int : (m n : ℤ) (xs ys : List ℕ) → FitsSigned w64 m → FitsSigned w64 n → int_bytes m ++ xs ≡ int_bytes n ++ ys → (m ≡ n) × (xs ≡ ys)
unfolding int_bytes
same_int m n xs ys m_fits n_fits same =
    let parts = same_number 8 (cast_unsigned w64 m) (cast_unsigned w64 n) xs ys (Fits-lt-pow (Fits-of_z m_fits)) (Fits-lt-pow (Fits-of_z n_fits)) same in
    (sym (to_z-of_z w64 m m_fits) ∙ ap (cast_signed w64) parts.0 ∙ to_z-of_z w64 n n_fits, parts.1)

same_wide : (m n : ℤ) (xs ys : List ℕ) → FitsSigned w128 m → FitsSigned w128 n → wide_bytes m ++ xs ≡ wide_bytes n ++ ys → (m ≡ n) × (xs ≡ ys)
unfolding wide_bytes
same_wide m n xs ys m_fits n_fits same =
    let parts = same_number 16 (cast_unsigned w128 m) (cast_unsigned w128 n) xs ys (Fits-lt-pow (Fits-of_z m_fits)) (Fits-lt-pow (Fits-of_z n_fits)) same in
    (sym (to_z-of_z w128 m m_fits) ∙ ap (cast_signed w128) parts.0 ∙ to_z-of_z w128 n n_fits, parts.1)

same_text : (s t xs ys : List ℕ) → length s < 2 ^ 16 → length t < 2 ^ 16 → text_bytes s ++ xs ≡ text_bytes t ++ ys → (s ≡ t) × (xs ≡ ys)
unfolding text_bytes
same_text s t xs ys s_short t_short same =
    let apart : little_bytes 2 (length s) ++ (s ++ xs) ≡ little_bytes 2 (length t) ++ (t ++ ys) =
    sym (append_assoc (little_bytes 2 (length s)) s xs) ∙ same ∙ append_assoc (little_bytes 2 (length t)) t ys in
    let parts = same_number 2 (length s) (length t) (s ++ xs) (t ++ ys) (omega arith) (omega arith) apart in
    same_parts s t xs ys parts.0 parts.1

-- bytes that begin with two values of a column begin with one
same_value : (kind : ColKind) (v w : Value) (xs ys : List ℕ) → IsOfKind kind v → IsOfKind kind w → encoded kind v ++ xs ≡ encoded kind w ++ ys → (v ≡ w) × (xs ≡ ys)
same_value kinds.Int (Int m) (Int n) xs ys m_is n_is same = let parts = same_int m n xs ys m_is n_is same in (ap Int parts.0, parts.1)
same_value kinds.Int (Int m) (Text t) xs ys m_is n_is same = absurd n_is
same_value kinds.Int (Text s) w xs ys m_is n_is same = absurd m_is
same_value kinds.Wide (Int m) (Int n) xs ys m_is n_is same = let parts = same_wide m n xs ys m_is n_is same in (ap Int parts.0, parts.1)
same_value kinds.Wide (Int m) (Text t) xs ys m_is n_is same = absurd n_is
same_value kinds.Wide (Text s) w xs ys m_is n_is same = absurd m_is
same_value (kinds.Text max) (Text s) (Text t) xs ys m_is n_is same = let parts = same_text s t xs ys m_is.short n_is.short same in (ap Text parts.0, parts.1)
same_value (kinds.Text max) (Text s) (Int n) xs ys m_is n_is same = absurd n_is
same_value (kinds.Text max) (Int m) w xs ys m_is n_is same = absurd m_is

-- two rows with the same bytes are one
pub one_row : (cs : List Column) (vs ws : List Value) → Fits cs vs → Fits cs ws → encoded_row cs vs ≡ encoded_row cs ws → vs ≡ ws
one_row [] [] [] v_fits w_fits same = refl
one_row [] [] (w ∷ ws) v_fits w_fits same = absurd w_fits
one_row [] (v ∷ vs) ws v_fits w_fits same = absurd v_fits
one_row (c ∷ cs) [] ws v_fits w_fits same = absurd v_fits
one_row (c ∷ cs) (v ∷ vs) [] v_fits w_fits same = absurd w_fits
one_row (c ∷ cs) (v ∷ vs) (w ∷ ws) v_fits w_fits same =
    let parts = same_value c.kind v w (encoded_row cs vs) (encoded_row cs ws) v_fits.0 w_fits.0 same in
    let rest = one_row cs vs ws v_fits.1 w_fits.1 parts.1 in
    let first = parts.0 in
    cc (first, rest)

-- no value of a column stands where the bytes are bad
no_text : (max : ℕ) (t xs rest : List ℕ) → FitsText max t → IsUtf8 t → rest ≡ text_bytes t ++ xs → IsBadText max rest → ⊥
unfolding text_bytes
no_text max t xs rest fits utf8 same bad =
    let n = length t in
    let within = fits.within in
    let short = fits.short in
    let same_n : rest ≡ little_bytes 2 n ++ (t ++ xs) = same ∙ append_assoc (little_bytes 2 n) t xs in
    let number : little_number 2 rest ≡ n = ap (little_number 2) same_n ∙ little_number-reads_back 2 n (t ++ xs) (omega arith) in
    let long : length rest ≡ 2 + (n + length xs) =
    ap length same_n ∙ omega (arith, length-append (little_bytes 2 n) (t ++ xs), length-append t xs, length-bytes_low_first 0 2 n) in
    let behind : drop 2 rest ≡ t ++ xs = ap (drop 2) same_n in
    let text : take (little_number 2 rest) (drop 2 rest) ≡ t = ap (λ m. take m (drop 2 rest)) number ∙ ap (take n) behind ∙ take-append_seam t xs in
    elim bad [
      | inl cut ↦ omega arith
      | inr more ↦ elim more [
        | inl large ↦ omega arith
        | inr last ↦ elim last [
          | inl cut ↦ omega arith
          | inr not_text ↦ not_text (subst IsUtf8 (sym text) utf8)
        ]
      ]
    ]

no_value : (kind : ColKind) (v : Value) (xs rest : List ℕ) → IsOfKind kind v → IsText v → rest ≡ encoded kind v ++ xs → IsBadValue kind rest → ⊥
no_value kinds.Int (Int m) xs rest of_kind text same bad = omega (arith, ap length same, length-append (int_bytes m) xs, length-int_bytes m)
no_value kinds.Int (Text t) xs rest of_kind text same bad = of_kind
no_value kinds.Wide (Int m) xs rest of_kind text same bad = omega (arith, ap length same, length-append (wide_bytes m) xs, length-wide_bytes m)
no_value kinds.Wide (Text t) xs rest of_kind text same bad = of_kind
no_value (kinds.Text max) (Int m) xs rest of_kind text same bad = of_kind
no_value (kinds.Text max) (Text t) xs rest of_kind text same bad = no_text max t xs rest of_kind text same bad

-- no row stands where what follows some of its values is bad
no_row : (cs : List Column) (values row : List Value) (rest : List ℕ) → Fits (take (length values) cs) values → Fits cs row → AreTexts row
    → encoded_row (take (length values) cs) values ++ rest ≡ encoded_row cs row → IsBadRest (drop (length values) cs) rest → ⊥
no_row [] [] [] rest fits row_fits texts same bad = omega (arith, ap length same)
no_row [] [] (w ∷ ws) rest fits row_fits texts same bad = row_fits
no_row (c ∷ cs) [] [] rest fits row_fits texts same bad = row_fits
no_row (c ∷ cs) [] (w ∷ ws) rest fits row_fits texts same bad = no_value c.kind w (encoded_row cs ws) rest row_fits.0 texts.0 same bad
no_row [] (v ∷ vs) row rest fits row_fits texts same bad = fits
no_row (c ∷ cs) (v ∷ vs) [] rest fits row_fits texts same bad = row_fits
no_row (c ∷ cs) (v ∷ vs) (w ∷ ws) rest fits row_fits texts same bad =
    let front = encoded_row (take (length vs) cs) vs in
    let parts = same_value c.kind v w (front ++ rest) (encoded_row cs ws) fits.0 row_fits.0 (sym (append_assoc (encoded c.kind v) front rest) ∙ same) in
    no_row cs vs ws rest fits.1 row_fits.1 texts.1 parts.1 bad

-- bad bytes are of no row
pub bad_is_none : {schema : List Column} {bytes : List ℕ} {at : ℕ} (row : List Value) → IsBadRow schema bytes at → Fits schema row → AreTexts row
    → bytes ≡ encoded_row schema row → ⊥
bad_is_none {schema = schema} {bytes = bytes} {at = at} row bad fits texts same =
    let parted : encoded_row (take (length bad.values) schema) bad.values ++ drop at bytes ≡ encoded_row schema row =
    ap (λ xs. xs ++ drop at bytes) (sym bad.read) ∙ take-append-drop at bytes ∙ same in
    no_row schema bad.values row (drop at bytes) bad.fits fits texts parted bad.rest

-- a value has no more bytes than its column is wide, nor a row
value_width : (kind : ColKind) (v : Value) → IsOfKind kind v → length (encoded kind v) ≤ width_of_kind kind
value_width kinds.Int (Int m) of_kind = omega (arith, length-int_bytes m)
value_width kinds.Int (Text t) of_kind = absurd of_kind
value_width kinds.Wide (Int m) of_kind = omega (arith, length-wide_bytes m)
value_width kinds.Wide (Text t) of_kind = absurd of_kind
value_width (kinds.Text max) (Int m) of_kind = absurd of_kind
value_width (kinds.Text max) (Text t) of_kind = let within = of_kind.within in omega (arith, within, length-text_bytes t)

pub row_width : (cs : List Column) (vs : List Value) → Fits cs vs → length (encoded_row cs vs) ≤ width_of cs
row_width [] vs fits = omega arith
row_width (c ∷ cs) [] fits = absurd fits
row_width (c ∷ cs) (v ∷ vs) fits =
    omega (arith, value_width c.kind v fits.0, row_width cs vs fits.1, length-append (encoded c.kind v) (encoded_row cs vs))
