-- How many pages each area has, and that two areas lie apart.
use Rattle.std.proofs.Common.{◌≡◌, ℕ, zero, suc, ◌+◌, ◌-◌, ◌*◌, ◌<◌, ◌≤◌, ◌++◌, List, length, replicate, slice_index, sum, refl, ap, ◌∙◌, suc-mul, arith}
use Rattle.std.proofs.lemmas.List.{get_or_append_left, get_or-append_right, get_or-replicate, length-replicate}
use Rattle.page_store.specs.declared.pages.Area.{Area}
use Rattle.page_store.specs.declared.pages.Area.TheVariants.{Table, Index, Text, Plan, Out, Image, Spill}
use Rattle.page_store.specs.declared.pages.Sizes.{Sizes}
use Rattle.page_store.specs.PageOrder.{IsArea, area_pages, job_part, job_parts, part_of, parts, repeated, start_of}
use Rattle.page_store.proofs.Parts.{apart, part_within}

get-repeated : (n : ℕ) (xs : List ℕ) (j k : ℕ) → j < n → k < length xs → slice_index (repeated n xs) (j * length xs + k) ≡ slice_index xs k
get-repeated zero xs j k before inside = absurd (omega arith)
get-repeated (suc n) xs zero k before inside =
    let at : 0 * length xs + k ≡ k = omega arith in
    rw at (get_or_append_left xs (repeated n xs) 0 k inside)
get-repeated (suc n) xs (suc j) k before inside =
    let at : suc j * length xs + k ≡ length xs + (j * length xs + k) = omega (arith, suc-mul j (length xs)) in
    let back : length xs + (j * length xs + k) - length xs ≡ j * length xs + k = omega arith in
    rw at (get_or-append_right xs (repeated n xs) (length xs) (length xs + (j * length xs + k)) 0 refl (omega arith)
    ∙ ap (slice_index (repeated n xs)) back ∙ get-repeated n xs j k (omega arith) inside)

-- the parts behind the store head and the catalogue
get-table : (sizes : Sizes) (k : ℕ) → k < 16 → slice_index (parts sizes) (3 + k) ≡ sizes.table
unfolding parts
get-table sizes k before =
    let at : 3 + k ≡ suc (suc (suc k)) = omega arith in
    rw at (get_or_append_left (replicate 16 sizes.table) (replicate 16 sizes.index ++ repeated 8 (job_parts sizes)) 0 k (omega (arith, before, length-replicate 16 sizes.table))
    ∙ get_or-replicate 16 k sizes.table 0 before)

behind_tables : (sizes : Sizes) (k : ℕ) → slice_index (parts sizes) (19 + k) ≡ slice_index (replicate 16 sizes.index ++ repeated 8 (job_parts sizes)) k
unfolding parts
behind_tables sizes k =
    let at : 19 + k ≡ suc (suc (suc (16 + k))) = omega arith in
    let back : 16 + k - 16 ≡ k = omega arith in
    rw at (get_or-append_right (replicate 16 sizes.table) (replicate 16 sizes.index ++ repeated 8 (job_parts sizes)) 16 (16 + k) 0 (length-replicate 16 sizes.table) (omega arith)
    ∙ ap (slice_index (replicate 16 sizes.index ++ repeated 8 (job_parts sizes))) back)

get-index : (sizes : Sizes) (k : ℕ) → k < 16 → slice_index (parts sizes) (19 + k) ≡ sizes.index
get-index sizes k before =
    behind_tables sizes k
    ∙ get_or_append_left (replicate 16 sizes.index) (repeated 8 (job_parts sizes)) 0 k (omega (arith, before, length-replicate 16 sizes.index))
    ∙ get_or-replicate 16 k sizes.index 0 before

pub get-job : (sizes : Sizes) (job k : ℕ) → job < 8 → k < 8 → slice_index (parts sizes) (job_part job k) ≡ slice_index (job_parts sizes) k
get-job sizes job k before inside =
    let at : job_part job k ≡ 19 + (16 + (job * 8 + k)) = omega arith in
    let back : 16 + (job * 8 + k) - 16 ≡ job * 8 + k = omega arith in
    rw at (behind_tables sizes (16 + (job * 8 + k))
    ∙ get_or-append_right (replicate 16 sizes.index) (repeated 8 (job_parts sizes)) 16 (16 + (job * 8 + k)) 0 (length-replicate 16 sizes.index) (omega arith)
    ∙ ap (slice_index (repeated 8 (job_parts sizes))) back
    ∙ get-repeated 8 (job_parts sizes) job k before inside)

get-image : (sizes : Sizes) (side : ℕ) → 1 ≤ side → side ≤ 2 → slice_index (job_parts sizes) (4 + side) ≡ sizes.image
get-image sizes zero first last = absurd (omega arith)
get-image sizes (suc zero) first last = refl
get-image sizes (suc (suc zero)) first last = refl
get-image sizes (suc (suc (suc side))) first last = absurd (omega arith)

-- the part that an area is has the area's pages
pub get-area : (sizes : Sizes) (area : Area) → IsArea area → slice_index (parts sizes) (part_of area) ≡ area_pages sizes area
get-area sizes (Table table) is = get-table sizes table is
get-area sizes (Index index) is = get-index sizes index is
get-area sizes (Text job) is = get-job sizes job 2 is (omega arith)
get-area sizes (Plan job) is = get-job sizes job 3 is (omega arith)
get-area sizes (Out job) is = get-job sizes job 4 is (omega arith)
get-area sizes (Image job side) is = get-job sizes job (4 + side) is.0 (omega (arith, is.2)) ∙ get-image sizes side is.1 is.2
get-area sizes (Spill job) is = get-job sizes job 7 is (omega arith)

pub length-parts : (sizes : Sizes) → length (parts sizes) ≡ 99
unfolding parts
length-parts sizes = refl

pub part_inside : (area : Area) → IsArea area → part_of area < 99
part_inside (Table table) is = omega arith
part_inside (Index index) is = omega arith
part_inside (Text job) is = omega arith
part_inside (Plan job) is = omega arith
part_inside (Out job) is = omega arith
part_inside (Image job side) is = omega arith
part_inside (Spill job) is = omega arith

-- an area ends within the store
pub area_within : (sizes : Sizes) (area : Area) → IsArea area → start_of (parts sizes) (part_of area) + area_pages sizes area ≤ sum (parts sizes)
area_within sizes area is =
    let law = part_within (parts sizes) (part_of area) (omega (arith, length-parts sizes, part_inside area is)) in
    omega (arith, law, get-area sizes area is)

-- an area ends before a later one begins
pub areas_apart : (sizes : Sizes) (a b : Area) → IsArea a → IsArea b → part_of a < part_of b
    → start_of (parts sizes) (part_of a) + area_pages sizes a ≤ start_of (parts sizes) (part_of b)
areas_apart sizes a b a_is b_is before =
    let law = apart (parts sizes) (part_of a) (part_of b) before (omega (arith, length-parts sizes, part_inside a a_is)) in
    omega (arith, law, get-area sizes a a_is)
