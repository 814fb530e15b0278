-- The head of a job as the list of its parts: what follows from the law of formats.
use Rattle.std.proofs.Common.{◌≡◌, ℕ, zero, suc, ◌+◌, ◌-◌, ◌*◌, ◌^◌, ◌<◌, ◌≤◌, List, ◌∷◌, ◌++◌, length, Result, Ok, Err, refl, sym, ap, ◌∙◌, arith}
use Rattle.byteorder.specs.Endian.{little_bytes, little_number}
use Rattle.byteorder.specs.Numbers.{little_from-lt}
use Rattle.qsr_value.proofs.Numbers.{AreBytes, little_bytes-read}
use Rattle.page_store.specs.Format.{little}
use Rattle.page_store.specs.PageOrder.{AreSizes}
use Rattle.page_store.specs.declared.pages.Sizes.{Sizes}
use Rattle.part_codec.specs.Format.{AllFitSizes, IsFormatValue, Part}
use Rattle.part_codec.proofs.Formats.{format_reads, one_value}
use Rattle.part_codec.proofs.Numbers.{little_are}
use Rattle.part_codec.proofs.Readers.{IsReader, mapped_reads, whole_is, whole_none}
use Rattle.job_store.specs.declared.head.JobHead.{JobHead}
use Rattle.job_store.specs.declared.head.Phase.{Phase}
use Rattle.job_store.specs.declared.head.Phase.TheVariants.{Free, Open, Done}
use Rattle.job_store.specs.declared.head.ImageSide.{ImageSide}
use Rattle.job_store.specs.declared.head.ImageSide.TheVariants.{Neither, First, Second}
use Rattle.job_store.specs.JobHead.{AreNumbers, HeadValue, IsHead, IsHeadOf, IsNoJobHead, job_head_at, job_head_bytes, head_of_value, head_parts, head_value, phase_byte, phase_of, side_byte, side_of, whole_head}

-- a phase and a side, and their bytes
phase_small : (phase : Phase) → phase_byte phase ≤ 2
phase_small Free = omega arith
phase_small Open = omega arith
phase_small Done = omega arith

phase_again : (phase : Phase) → phase_of (phase_byte phase) ≡ phase
phase_again Free = refl
phase_again Open = refl
phase_again Done = refl

phase_back : (byte : ℕ) → byte ≤ 2 → phase_byte (phase_of byte) ≡ byte
phase_back zero most = refl
phase_back (suc zero) most = refl
phase_back (suc (suc zero)) most = refl
phase_back (suc (suc (suc byte))) most = absurd (omega (arith, most))

side_small : (side : ImageSide) → side_byte side ≤ 2
side_small Neither = omega arith
side_small First = omega arith
side_small Second = omega arith

side_again : (side : ImageSide) → side_of (side_byte side) ≡ side
side_again Neither = refl
side_again First = refl
side_again Second = refl

side_back : (byte : ℕ) → byte ≤ 2 → side_byte (side_of byte) ≡ byte
side_back zero most = refl
side_back (suc zero) most = refl
side_back (suc (suc zero)) most = refl
side_back (suc (suc (suc byte))) most = absurd (omega (arith, most))

again : (head : JobHead) → head_of_value (head_value head) ≡ head
again head =
    let phase = phase_again head.phase in
    let side = side_again head.side in
    λ i. record { phase = phase i; rows = head.rows; end = head.end; side = side i; image_pages = head.image_pages; spill_used = head.spill_used }

-- the bytes of what was read
bytes_back : (v : HeadValue) → v.0 ≤ 2 → v.1.1.1.0 ≤ 2
    → v.0 ∷ (little_bytes 8 v.1.0 ++ (little_bytes 4 v.1.1.0 ++ (v.1.1.1.0 ∷ (little_bytes 4 v.1.1.1.1.0 ++ little_bytes 4 v.1.1.1.1.1.0)))) ≡ job_head_bytes (head_of_value v)
unfolding job_head_bytes
bytes_back v phase side = rw (phase_back v.0 phase, side_back v.1.1.1.0 side) refl

-- a head that is within the areas, and whose rows are a number of its type
record IsStored (sizes : Sizes) (head : JobHead) : Type 0 where
  form : IsHead sizes head
  rows : head.rows ≤ 18446744073709551615

fit : (sizes : Sizes) → AreSizes sizes → AllFitSizes (head_parts (4096 * sizes.out) sizes.image sizes.spill)
fit sizes are =
    let out = are.out_most in
    let image = are.image_most in
    let spill = are.spill_most in
    (tt, (omega arith, (omega (arith, out), (tt, (omega (arith, image), (omega (arith, spill), tt))))))

head_reads : (sizes : Sizes) → AreSizes sizes → IsReader (job_head_at sizes) job_head_bytes (IsStored sizes)
unfolding job_head_at job_head_bytes
head_reads sizes are =
    mapped_reads head_of_value head_value job_head_bytes (IsStored sizes) (format_reads (head_parts (4096 * sizes.out) sizes.image sizes.spill) (fit sizes are))
    (λ v is. (record { form = record { end = is.1.1.0.1; image = is.1.1.1.1.0.1; spill = is.1.1.1.1.1.0.1 }; rows = is.1.0.1 }, bytes_back v is.0.1 is.1.1.1.0.1))
    (λ head is.
    let form = is.form in (
      ((omega arith, phase_small head.phase), ((omega arith, is.rows), ((omega arith, form.end), ((omega arith, side_small head.side), ((omega arith, form.image), ((omega arith, form.spill), tt)))))),
      again head,
      refl,
    ))

-- what is read is a head of the form
pub is_head : (sizes : Sizes) (bytes : List ℕ) (head : JobHead) → AreSizes sizes → AreBytes bytes → whole_head sizes bytes ≡ Ok head → IsHeadOf sizes bytes head
unfolding whole_head
is_head sizes bytes head are bytes_are e = let found = whole_is (head_reads sizes are) bytes head bytes_are e in record { form = found.0.form; stands = sym found.1 }

-- the same bytes with rows that are a number of their type
abbrev with_rows : JobHead → ℕ → JobHead
with_rows head rows = record { phase = head.phase; rows = rows; end = head.end; side = head.side; image_pages = head.image_pages; spill_used = head.spill_used }

abbrev low_rows : JobHead → ℕ
low_rows head = little_number 8 (little_bytes 8 head.rows)

low_rows_small : (head : JobHead) → low_rows head ≤ 18446744073709551615
low_rows_small head = let small = little_from-lt 0 8 (little_bytes 8 head.rows) (little_are 8 head.rows).each in omega (arith, small)

same_low : (head : JobHead) → job_head_bytes (with_rows head (low_rows head)) ≡ job_head_bytes head
unfolding job_head_bytes
same_low head =
    let rows : little_bytes 8 (low_rows head) ≡ little_bytes 8 head.rows = little_bytes-read 8 (little_bytes 8 head.rows) (omega arith) (little_are 8 head.rows) in
    ap (λ (l : List ℕ). phase_byte head.phase ∷ (l ++ (little 4 head.end ++ (side_byte head.side ∷ (little 4 head.image_pages ++ little 4 head.spill_used))))) rows

-- where nothing is read there is no head of the form
pub is_none : (sizes : Sizes) (bytes : List ℕ) (left : ℕ) → AreSizes sizes → whole_head sizes bytes ≡ Err left → IsNoJobHead sizes bytes
unfolding whole_head
is_none sizes bytes left are e head is =
    whole_none (head_reads sizes are) bytes left e (with_rows head (low_rows head))
    (record { form = record { end = is.form.end; image = is.form.image; spill = is.form.spill }; rows = low_rows_small head }) (sym (same_low head ∙ is.stands))

-- two heads with the same bytes are one
abbrev all_parts : List Part
all_parts = head_parts 4294967295 4294967295 4294967295

value_is : (head : JobHead) → AreNumbers head → IsFormatValue all_parts (head_value head)
value_is head are =
    let rows = are.rows in
    let end = are.end in
    let image = are.image in
    let spill = are.spill in
    ((omega arith, phase_small head.phase), ((omega arith, omega (arith, rows)), ((omega arith, omega (arith, end)), ((omega arith, side_small head.side), ((omega arith, omega (arith, image)), ((omega arith, omega (arith, spill)), tt))))))

pub same_head : (a b : JobHead) → AreNumbers a → AreNumbers b → job_head_bytes a ≡ job_head_bytes b → a ≡ b
unfolding job_head_bytes
same_head a b a_are b_are same =
    let values : head_value a ≡ head_value b =
    one_value all_parts (head_value a) (head_value b) (tt, (omega arith, (omega arith, (tt, (omega arith, (omega arith, tt)))))) (value_is a a_are) (value_is b b_are) same in
    sym (again a) ∙ ap head_of_value values ∙ again b

pub length-head_bytes : (head : JobHead) → length (job_head_bytes head) ≡ 22
unfolding job_head_bytes
length-head_bytes head = refl
