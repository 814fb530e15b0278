-- The bytes of values and of rows.
use Rattle.std.proofs.Common.{◌≡◌, ℕ, zero, suc, ◌+◌, ◌^◌, ◌<◌, ◌≤◌, List, [], ◌∷◌, ◌++◌, length, drop, refl, ap, ◌∙◌, subst, Some}
use Rattle.std.proofs.Math.ListN.{drop_of_length-le}
use Rattle.std.specs.Prelude.{slice_get}
use Rattle.qsr_value.specs.declared.kind.ColKind.{ColKind}
use Rattle.qsr_value.specs.declared.kind.ColKind.TheVariants as kinds
use Rattle.qsr_value.specs.declared.row.Value.{Value}
use Rattle.qsr_value.specs.declared.row.Value.TheVariants.{Text}
use Rattle.qsr_value.specs.declared.schema.Column.{Column}
use Rattle.qsr_value.specs.Values.{IsOfKind, Fits, IsText, AreTexts}
use Rattle.qsr_value.specs.Encoding.{text_bytes, encoded, encoded_row}
use Rattle.qsr_value.proofs.Bytes.{length-text_bytes}
use Rattle.qsr_value.proofs.Lists.{drop-get}

-- a text of a column has the bytes of a text, and a length of 16 bits
pub text_encoded : (kind : ColKind) (t : List ℕ) → IsOfKind kind (Text t) → encoded kind (Text t) ≡ text_bytes t
text_encoded kinds.Int t of_kind = absurd of_kind
text_encoded kinds.Wide t of_kind = absurd of_kind
text_encoded (kinds.Text max) t of_kind = refl

pub text_short : (kind : ColKind) (t : List ℕ) → IsOfKind kind (Text t) → length t < 2 ^ 16
text_short kinds.Int t of_kind = absurd of_kind
text_short kinds.Wide t of_kind = absurd of_kind
text_short (kinds.Text max) t of_kind = of_kind.short

pub length-text_encoded : (kind : ColKind) (t : List ℕ) → IsOfKind kind (Text t) → length (encoded kind (Text t)) ≡ 2 + length t
length-text_encoded kind t of_kind = ap length (text_encoded kind t of_kind) ∙ length-text_bytes t

pub ruleset text_facts = (length-text_encoded, text_short)

-- a row that fits has as many values as columns
pub Fits-length : (cs : List Column) (vs : List Value) → Fits cs vs → length vs ≡ length cs
Fits-length [] [] fits = refl
Fits-length [] (v ∷ vs) fits = absurd fits
Fits-length (c ∷ cs) [] fits = absurd fits
Fits-length (c ∷ cs) (v ∷ vs) fits = ap (λ n. suc n) (Fits-length cs vs fits.1)

-- each of its values is one of its column
pub Fits-get : (cs : List Column) (vs : List Value) (i : ℕ) (c : Column) (v : Value) → Fits cs vs → slice_get cs i ≡ Some c → slice_get vs i ≡ Some v → IsOfKind c.kind v
Fits-get [] vs i c v fits c_is v_is = cc
Fits-get (d ∷ ds) [] i c v fits c_is v_is = absurd fits
Fits-get (d ∷ ds) (w ∷ ws) zero c v fits c_is v_is =
    let column : d ≡ c = cc in
    let value : w ≡ v = cc in
    subst (λ (u : Value). IsOfKind c.kind u) value (subst (λ (e : Column). IsOfKind e.kind w) column fits.0)
Fits-get (d ∷ ds) (w ∷ ws) (suc i) c v fits c_is v_is = Fits-get ds ws i c v fits.1 c_is v_is

-- the bytes of a row from a value on
pub encoded_row-next : (cs : List Column) (vs : List Value) (i : ℕ) (c : Column) (v : Value) → slice_get cs i ≡ Some c → slice_get vs i ≡ Some v
    → encoded_row (drop i cs) (drop i vs) ≡ encoded c.kind v ++ encoded_row (drop (i + 1) cs) (drop (i + 1) vs)
encoded_row-next cs vs i c v c_is v_is = rw (drop-get cs i c c_is, drop-get vs i v v_is) refl

-- no bytes are left behind the last value
pub encoded_row-end : (cs : List Column) (vs : List Value) (i : ℕ) → length vs ≤ i → encoded_row (drop i cs) (drop i vs) ≡ []
encoded_row-end cs vs i past = rw (drop_of_length-le vs past) (elim (drop i cs) as (λ ds. encoded_row ds [] ≡ []) [ [] ↦ refl | (d ∷ ds) ↦ refl ])

-- where the texts from a value on are texts, so are those with that value
pub AreTexts-next : (vs : List Value) (i : ℕ) (v : Value) → slice_get vs i ≡ Some v → IsText v → AreTexts (drop (i + 1) vs) → AreTexts (drop i vs)
AreTexts-next vs i v v_is text rest = rw (drop-get vs i v v_is) (text, rest)

pub AreTexts-end : (vs : List Value) (i : ℕ) → length vs ≤ i → AreTexts (drop i vs)
AreTexts-end vs i past = rw (drop_of_length-le vs past) (tt)
