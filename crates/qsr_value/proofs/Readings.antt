-- Values and rows that are read from bytes.
use Rattle.std.proofs.Common.{◌≡◌, ℕ, ◌+◌, ◌^◌, ◌<◌, ◌≤◌, min, ℤ, List, [], ◌∷◌, ◌++◌, length, take, drop, Some, refl, sym, ap, subst, ◌∙◌, append-nil, append_assoc, arith, length-append, length-drop}
use Rattle.std.proofs.Math.ListN.{drop_of_length-le}
use Rattle.std.proofs.Math.Seq.{take-append-add}
use Rattle.std.proofs.lemmas.Int.{of_z-to_z}
use Rattle.std.proofs.lemmas.List.{length-take, length-take-le, take-append-drop, take_all}
use Rattle.std.specs.Int.{cast_signed, cast_unsigned, w64, w128}
use Rattle.std.specs.List.{slice_get}
use Rattle.std.specs.Prelude.{FitsSigned}
use Rattle.std.specs.Str.{IsUtf8}
use Rattle.byteorder.specs.Endian.{little_bytes, little_number}
use Rattle.byteorder.specs.Numbers.{length-bytes_low_first, little_from-lt}
use Rattle.qsr_value.specs.declared.kind.ColKind.TheVariants as kinds
use Rattle.qsr_value.specs.declared.row.Value.{Value}
use Rattle.qsr_value.specs.declared.row.Value.TheVariants.{Int, Text}
use Rattle.qsr_value.specs.declared.schema.Column.{Column}
use Rattle.qsr_value.specs.Values.{IsOfKind, Fits, IsText, AreTexts}
use Rattle.qsr_value.specs.Encoding.{int_bytes, wide_bytes, text_bytes, encoded, encoded_row, IsBadRest, IsBadRow, IsBadValue, StandsAtFront}
use Rattle.qsr_value.proofs.Lists.{drop-get, take-get}
use Rattle.qsr_value.proofs.Numbers.{AreBytes, little_bytes-read}

-- the number of 8 bytes, and of 16
pub int_stands : (bytes : List ℕ) (z : ℤ) → 8 ≤ length bytes → AreBytes bytes → FitsSigned w64 z → z ≡ cast_signed w64 (little_number 8 bytes)
    → StandsAtFront kinds.Int bytes (Int z)
unfolding int_bytes
int_stands bytes z room are fits z_is =
    let number = little_number 8 bytes in
    let bound : number < 2 ^ 64 = little_from-lt 0 8 bytes are.each in
    let bits : cast_unsigned w64 z ≡ number = ap (cast_unsigned w64) z_is ∙ of_z-to_z w64 number bound in
    record { of_kind = fits; text = tt; front = sym (ap (little_bytes 8) bits ∙ little_bytes-read 8 bytes room are) }

pub wide_stands : (bytes : List ℕ) (z : ℤ) → 16 ≤ length bytes → AreBytes bytes → FitsSigned w128 z → z ≡ cast_signed w128 (little_number 16 bytes)
    → StandsAtFront kinds.Wide bytes (Int z)
unfolding wide_bytes
wide_stands bytes z room are fits z_is =
    let number = little_number 16 bytes in
    let bound : number < 2 ^ 128 = little_from-lt 0 16 bytes are.each in
    let bits : cast_unsigned w128 z ≡ number = ap (cast_unsigned w128) z_is ∙ of_z-to_z w128 number bound in
    record { of_kind = fits; text = tt; front = sym (ap (little_bytes 16) bits ∙ little_bytes-read 16 bytes room are) }

-- the first bytes, and the next
take_on : (bytes : List ℕ) (at n : ℕ) → at ≤ length bytes → take (at + n) bytes ≡ take at bytes ++ take n (drop at bytes)
take_on bytes at n within =
    ap (take (at + n)) (sym (take-append-drop at bytes))
    ∙ ap (λ m. take (m + n) (take at bytes ++ drop at bytes)) (sym (length-take-le at bytes within))
    ∙ take-append-add (take at bytes) (drop at bytes) n

-- a text whose length and bytes stand at the front
pub text_stands : (max : ℕ) (bytes text : List ℕ) (n : ℕ) → 2 + n ≤ length bytes → AreBytes bytes → n ≤ max → n < 2 ^ 16 → n ≡ little_number 2 bytes
    → text ≡ take n (drop 2 bytes) → IsUtf8 text → StandsAtFront (kinds.Text max) bytes (Text text)
unfolding text_bytes
text_stands max bytes text n room are within short n_is text_is utf8 =
    let long : length text ≡ n = ap length text_is ∙ length-take-le n (drop 2 bytes) (omega (arith, length-drop 2 bytes)) in
    let number : little_bytes 2 (length text) ≡ take 2 bytes = ap (little_bytes 2) (long ∙ n_is) ∙ little_bytes-read 2 bytes (omega arith) are in
    let count : length (little_bytes 2 (length text) ++ text) ≡ 2 + n =
    omega (arith, length-append (little_bytes 2 (length text)) text, length-bytes_low_first 0 2 (length text), long) in
    record {
      of_kind = record { within = omega arith; short = omega arith };
      text = utf8;
      front = ap (λ m. take m bytes) count ∙ take_on bytes 2 n (omega arith) ∙ sym (ap (λ xs. xs ++ text) number ∙ ap (λ xs. take 2 bytes ++ xs) text_is);
    }

-- a row that is one value longer
pub Fits-more : (cs : List Column) (vs : List Value) (c : Column) (v : Value) → Fits cs vs → IsOfKind c.kind v → Fits (cs ++ c ∷ []) (vs ++ v ∷ [])
Fits-more [] [] c v fits of_kind = (of_kind, tt)
Fits-more [] (w ∷ ws) c v fits of_kind = absurd fits
Fits-more (d ∷ ds) [] c v fits of_kind = absurd fits
Fits-more (d ∷ ds) (w ∷ ws) c v fits of_kind = (fits.0, Fits-more ds ws c v fits.1 of_kind)

-- one more text behind texts
pub AreTexts-more : (vs : List Value) (v : Value) → AreTexts vs → IsText v → AreTexts (vs ++ v ∷ [])
AreTexts-more [] v texts text = (text, tt)
AreTexts-more (w ∷ ws) v texts text = (texts.0, AreTexts-more ws v texts.1 text)

encoded_row-more : (cs : List Column) (vs : List Value) (c : Column) (v : Value) → Fits cs vs
    → encoded_row (cs ++ c ∷ []) (vs ++ v ∷ []) ≡ encoded_row cs vs ++ encoded c.kind v
encoded_row-more [] [] c v fits = append-nil (encoded c.kind v)
encoded_row-more [] (w ∷ ws) c v fits = absurd fits
encoded_row-more (d ∷ ds) [] c v fits = absurd fits
encoded_row-more (d ∷ ds) (w ∷ ws) c v fits =
    ap (λ xs. encoded d.kind w ++ xs) (encoded_row-more ds ws c v fits.1) ∙ sym (append_assoc (encoded d.kind w) (encoded_row ds ws) (encoded c.kind v))

-- The values of the first columns were read, and stand before a place.
pub record HasRead (schema : List Column) (bytes : List ℕ) (place at : ℕ) (row : List Value) : Type 0 where
  pub count : length row ≡ place
  pub fits : Fits (take place schema) row
  pub texts : AreTexts row
  pub within : at ≤ length bytes
  pub read : take at bytes ≡ encoded_row (take place schema) row

pub HasRead-start : (schema : List Column) (bytes : List ℕ) → HasRead schema bytes 0 0 []
HasRead-start schema bytes = record { count = refl; fits = tt; texts = tt; within = omega arith; read = refl }

-- the next value
pub HasRead-more : {schema : List Column} {bytes : List ℕ} {place at n : ℕ} {row : List Value} {c : Column} {v : Value} → HasRead schema bytes place at row
    → slice_get schema place ≡ Some c → StandsAtFront c.kind (drop at bytes) v → n ≡ length (encoded c.kind v)
    → HasRead schema bytes (place + 1) (at + n) (row ++ v ∷ [])
HasRead-more {schema = schema} {bytes = bytes} {place = place} {at = at} {n = n} {row = row} {c = c} {v = v} was c_is stands n_is =
    let columns = take-get schema place c c_is in
    let count = was.count in
    let before = was.within in
    let front : take n (drop at bytes) ≡ encoded c.kind v = ap (λ m. take m (drop at bytes)) n_is ∙ stands.front in
    let long : min n (length (drop at bytes)) ≡ n = sym (length-take n (drop at bytes)) ∙ ap length front ∙ sym n_is in
    record {
      count = omega (arith, count, length-append row (v ∷ []));
      fits = subst (λ cs. Fits cs (row ++ v ∷ [])) (sym columns) (Fits-more (take place schema) row c v was.fits stands.of_kind);
      texts = AreTexts-more row v was.texts stands.text;
      within = omega (arith, before, long, length-drop at bytes);
      read = take_on bytes at n before ∙ ap (λ xs. xs ++ take n (drop at bytes)) was.read ∙ ap (λ xs. encoded_row (take place schema) row ++ xs) front
          ∙ sym (ap (λ cs. encoded_row cs (row ++ v ∷ [])) columns ∙ encoded_row-more (take place schema) row c v was.fits);
    }

-- what follows the values that were read is bad
HasRead-bad_rest : {schema : List Column} {bytes : List ℕ} {place at : ℕ} {row : List Value} → HasRead schema bytes place at row
    → IsBadRest (drop place schema) (drop at bytes) → IsBadRow schema bytes at
HasRead-bad_rest {schema = schema} {bytes = bytes} {at = at} {row = row} was bad =
    let same = sym was.count in
    record {
      values = row;
      fits = subst (λ n. Fits (take n schema) row) same was.fits;
      texts = was.texts;
      within = was.within;
      read = was.read ∙ ap (λ n. encoded_row (take n schema) row) same;
      rest = subst (λ n. IsBadRest (drop n schema) (drop at bytes)) same bad;
    }

-- the next value is bad
pub HasRead-bad : {schema : List Column} {bytes : List ℕ} {place at : ℕ} {row : List Value} {c : Column} → HasRead schema bytes place at row
    → slice_get schema place ≡ Some c → IsBadValue c.kind (drop at bytes) → IsBadRow schema bytes at
HasRead-bad {schema = schema} {bytes = bytes} {place = place} {at = at} {c = c} was c_is bad =
    HasRead-bad_rest was (subst (λ cs. IsBadRest cs (drop at bytes)) (sym (drop-get schema place c c_is)) bad)

-- no column is left, but a byte is
pub HasRead-too_many : {schema : List Column} {bytes : List ℕ} {place at : ℕ} {row : List Value} → HasRead schema bytes place at row
    → length schema ≤ place → at < length bytes → IsBadRow schema bytes at
HasRead-too_many {schema = schema} {bytes = bytes} {at = at} was past left =
    HasRead-bad_rest was (subst (λ cs. IsBadRest cs (drop at bytes)) (sym (drop_of_length-le schema past)) (omega (arith, length-drop at bytes)))

-- no column is left, nor a byte
pub HasRead-all : {schema : List Column} {bytes : List ℕ} {place at : ℕ} {row : List Value} → HasRead schema bytes place at row
    → length schema ≤ place → length bytes ≤ at → Fits schema row × AreTexts row × (bytes ≡ encoded_row schema row)
HasRead-all {schema = schema} {bytes = bytes} {place = place} {at = at} {row = row} was past none =
    let columns : take place schema ≡ schema = take_all place schema past in
    (subst (λ cs. Fits cs row) columns was.fits, was.texts, sym (take_all at bytes none) ∙ was.read ∙ ap (λ cs. encoded_row cs row) columns)
