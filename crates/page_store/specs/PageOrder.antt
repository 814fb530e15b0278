-- The pages of a store: one list of the sizes of its parts, in their order.
use Rattle.std.specs.Prelude.{◌≡◌, ℕ, zero, suc, ◌+◌, ◌*◌, ◌<◌, ◌≤◌, List, [], ◌∷◌, ◌++◌, length, replicate, slice_index}
use Rattle.page_store.specs.declared.pages.Sizes.{Sizes}
use Rattle.page_store.specs.declared.pages.Area.{Area}
use Rattle.page_store.specs.declared.pages.Area.TheVariants.{Table, Index, Text, Plan, Out, Image, Spill}

-- a list so many times, one behind the other
abbrev pub repeated : ℕ → List ℕ → List ℕ
repeated zero xs = []
repeated (suc n) xs = xs ++ repeated n xs

-- of a job: two head slots, its text, its plan, its output area, two image sides, its spill area
abbrev pub job_parts : Sizes → List ℕ
job_parts sizes = 1 ∷ 1 ∷ 1 ∷ 1 ∷ sizes.out ∷ sizes.image ∷ sizes.image ∷ sizes.spill ∷ []

-- The store head, two slots of the catalogue, 16 table areas, 16 index areas, and the parts of eight jobs.
unfoldable pub parts : Sizes → List ℕ
parts sizes = 1 ∷ 2 ∷ 2 ∷ (replicate 16 sizes.table ++ (replicate 16 sizes.index ++ repeated 8 (job_parts sizes)))

-- the first page of a part: the sizes of those before it
abbrev pub start_of : List ℕ → ℕ → ℕ
start_of [] k = 0
start_of (s ∷ ss) zero = 0
start_of (s ∷ ss) (suc k) = s + start_of ss k

-- the number of a part of a job
abbrev pub job_part : ℕ → ℕ → ℕ
job_part job k = 35 + 8 * job + k

-- the number of the part that an area is
abbrev pub part_of : Area → ℕ
part_of (Table table) = 3 + table
part_of (Index index) = 19 + index
part_of (Text job) = job_part job 2
part_of (Plan job) = job_part job 3
part_of (Out job) = job_part job 4
part_of (Image job side) = job_part job (4 + side)
part_of (Spill job) = job_part job 7

-- there is such an area
abbrev pub IsArea : Area → Type 0
IsArea (Table table) = table < 16
IsArea (Index index) = index < 16
IsArea (Text job) = job < 8
IsArea (Plan job) = job < 8
IsArea (Out job) = job < 8
IsArea (Image job side) = (job < 8) × (1 ≤ side) × (side ≤ 2)
IsArea (Spill job) = job < 8

-- how many pages an area has
abbrev pub area_pages : Sizes → Area → ℕ
area_pages sizes (Table table) = sizes.table
area_pages sizes (Index index) = sizes.index
area_pages sizes (Text job) = 1
area_pages sizes (Plan job) = 1
area_pages sizes (Out job) = sizes.out
area_pages sizes (Image job side) = sizes.image
area_pages sizes (Spill job) = sizes.spill

-- each area has 1 to 65,536 pages
pub record AreSizes (sizes : Sizes) : Type 0 where
  pub table : 1 ≤ sizes.table
  pub table_most : sizes.table ≤ 65536
  pub index : 1 ≤ sizes.index
  pub index_most : sizes.index ≤ 65536
  pub out : 1 ≤ sizes.out
  pub out_most : sizes.out ≤ 65536
  pub image : 1 ≤ sizes.image
  pub image_most : sizes.image ≤ 65536
  pub spill : 1 ≤ sizes.spill
  pub spill_most : sizes.spill ≤ 65536

-- a page is one of a part
pub record IsPageOf (ss : List ℕ) (k page : ℕ) : Type 0 where
  pub part : k < length ss
  pub first : start_of ss k ≤ page
  pub last : page < start_of ss k + slice_index ss k

-- a page is one of a part, and of no other
pub record IsOfOnePart (ss : List ℕ) (page : ℕ) : Type 0 where
  pub number : ℕ
  pub is : IsPageOf ss number page
  pub only : (j : ℕ) → IsPageOf ss j page → j ≡ number
