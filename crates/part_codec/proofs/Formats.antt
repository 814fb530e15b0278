-- A format that is a list of parts is read from its bytes, and only from them; what is none is bad at its first bad part.
use Rattle.std.proofs.Common.{◌≡◌, ◌⊎◌, inl, inr, ℕ, ◌+◌, ◌<◌, ◌≤◌, List, [], ◌∷◌, ◌++◌, length, Result, Ok, Err, refl, sym, ap, subst, ◌∙◌, arith}
use Rattle.qsr_value.proofs.Numbers.{AreBytes}
use Rattle.part_codec.specs.Format.{AllFitSizes, FitsSize, FormatValue, IsBadPart, IsBadPlace, IsFormatBadAt, IsFormatValue, IsPartValue, Part, PartValue, StandsBefore, byte_part, format_at, format_bytes, number_part, part_at, part_bytes, signed_part, text_part}
use Rattle.part_codec.specs.Reading.{◌>>=◌, byte_at, chained, short_text_at, text_at}
use Rattle.part_codec.proofs.Numbers.{number_reads, short_text_reads, signed_reads}
use Rattle.part_codec.proofs.Parts.{byte_bad, byte_behind, number_bad, signed_bad, text_bad}
use Rattle.part_codec.proofs.Readers.{IsReader, byte_reads, chained_reads, only_one}
use Rattle.part_codec.proofs.Repeats.{bind_err, err, err_is, ok, ok_is}

pub part_reads : (part : Part) → FitsSize part → IsReader (part_at part) (part_bytes part) (IsPartValue part)
part_reads (byte_part least most) fits = byte_reads least most
part_reads (number_part size least most) fits = number_reads size least most fits
part_reads (signed_part width) fits = signed_reads width
part_reads (text_part least most) fits = short_text_reads least most

-- no part: nothing is read, and all bytes are behind it
none_reads : IsReader (format_at []) (format_bytes []) (IsFormatValue [])
none_reads = record {
  takes = λ bytes x are e.
      let start : FormatValue [] × List ℕ = (tt, bytes) in
      let same : start ≡ x = ok_is start x e in
      (tt, record { parts = ap (λ (y : FormatValue [] × List ℕ). y.1) same; rest_are = subst (λ (y : FormatValue [] × List ℕ). AreBytes y.1) same are });
  again = λ value rest is. refl;
}

-- What a format is: what is read stood there, and what stands there is read.
pub format_reads : (parts : List Part) → AllFitSizes parts → IsReader (format_at parts) (format_bytes parts) (IsFormatValue parts)
format_reads [] fit = none_reads
format_reads (part ∷ parts) fit = chained_reads (part_reads part fit.0) (λ _ _. format_reads parts fit.1)

pub one_value : (parts : List Part) (value other : FormatValue parts) → AllFitSizes parts → IsFormatValue parts value → IsFormatValue parts other
    → format_bytes parts value ≡ format_bytes parts other → value ≡ other
one_value parts value other fit is other_is same = (only_one (format_reads parts fit) value other [] [] is other_is (ap (λ t. t ++ []) same)).0

-- ---- where it is bad

-- what is read behind the length of a text, and behind a part
abbrev then_text : ℕ × List ℕ → Result ((ℕ × List ℕ) × List ℕ) ℕ
then_text a = text_at a.0 a.1 >>= λ b. Ok ((a.0, b.0), b.1)

abbrev then_parts : (part : Part) (parts : List Part) → PartValue part × List ℕ → Result ((PartValue part × FormatValue parts) × List ℕ) ℕ
then_parts part parts a = format_at parts a.1 >>= λ b. Ok ((a.0, b.0), b.1)

-- of a text that is bad, its length or what follows it
text_place : (least most : ℕ) (bytes : List ℕ) (left : ℕ) (read : Result (ℕ × List ℕ) ℕ) → byte_at least most bytes ≡ read
    → (read >>= then_text) ≡ Err left → (left ≡ length bytes) ⊎ (left + 1 ≡ length bytes)
text_place least most bytes left (Err at) is e = inl (sym (err_is ((ℕ × List ℕ) × List ℕ) at left e) ∙ byte_bad least most bytes at is)
text_place least most bytes left (Ok a) is e =
    let behind = byte_behind least most bytes a is in
    let late : left ≡ length a.1 = text_bad a.0 a.1 left (bind_err (text_at a.0 a.1) (λ b. ((a.0, b.0), b.1)) left e) in
    inr (omega (arith, behind, late))

short_text_bad : (least most : ℕ) (bytes : List ℕ) (left : ℕ) → short_text_at least most bytes ≡ Err left → (left ≡ length bytes) ⊎ (left + 1 ≡ length bytes)
unfolding short_text_at
short_text_bad least most bytes left e =
    text_place least most bytes left (byte_at least most bytes) refl (bind_err (chained (byte_at least most) text_at bytes) (λ p. (p.0.1, p.1)) left e)

bad_place : (part : Part) (bytes : List ℕ) (left : ℕ) → part_at part bytes ≡ Err left → IsBadPlace part bytes left
bad_place (byte_part least most) bytes left e = byte_bad least most bytes left e
bad_place (number_part size least most) bytes left e = number_bad size least most bytes left e
bad_place (signed_part width) bytes left e = signed_bad width bytes left e
bad_place (text_part least most) bytes left e = short_text_bad least most bytes left e

bad_part : (part : Part) (bytes : List ℕ) (left : ℕ) → FitsSize part → part_at part bytes ≡ Err left → IsBadPart part bytes left
bad_part part bytes left fits e = record {
  none = λ value rest before. let found = ap (part_at part) before.stands ∙ (part_reads part fits).again value rest before.may in cc (e, found);
  place = bad_place part bytes left e;
}

bad_from : (part : Part) (parts : List Part) (bytes : List ℕ) (left : ℕ) (read : Result (PartValue part × List ℕ) ℕ) → FitsSize part → AreBytes bytes
    → ((rest : List ℕ) → AreBytes rest → format_at parts rest ≡ Err left → IsFormatBadAt parts rest left) → part_at part bytes ≡ read
    → (read >>= then_parts part parts) ≡ Err left → IsFormatBadAt (part ∷ parts) bytes left
bad_from part parts bytes left (Err at) fits are next is e =
    let same : at ≡ left = err_is ((PartValue part × FormatValue parts) × List ℕ) at left e in
    inl (bad_part part bytes left fits (is ∙ ap (err (PartValue part × List ℕ)) same))
bad_from part parts bytes left (Ok a) fits are next is e =
    let one = (part_reads part fits).takes bytes a are is in
    inr (a.0, a.1, record { may = one.0; stands = one.1.parts }, next a.1 one.1.rest_are (bind_err (format_at parts a.1) (λ b. ((a.0, b.0), b.1)) left e))

-- The first bad part is told.
pub first_bad : (parts : List Part) (bytes : List ℕ) (left : ℕ) → AllFitSizes parts → AreBytes bytes → format_at parts bytes ≡ Err left → IsFormatBadAt parts bytes left
first_bad [] bytes left fit are e = absurd cc
first_bad (part ∷ parts) bytes left fit are e = bad_from part parts bytes left (part_at part bytes) fit.0 are (λ rest rest_are late. first_bad parts rest left fit.1 rest_are late) refl e
