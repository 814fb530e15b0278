-- The head of a job, and its bytes.
use Rattle.std.specs.Prelude.{◌≡◌, ◌==◌, ℕ, ◌*◌, ◌^◌, ◌<◌, ◌≤◌, List, [], ◌∷◌, ◌++◌, Result, if◌then◌else◌}
use Rattle.page_store.specs.Format.{little}
use Rattle.page_store.specs.declared.pages.Sizes.{Sizes}
use Rattle.part_codec.specs.Format.{FormatValue, Part, byte_part, format_at, number_part}
use Rattle.part_codec.specs.Reading.{Reader, mapped, entire}
use Rattle.job_store.specs.declared.head.JobHead.{JobHead}
use Rattle.job_store.specs.declared.head.Phase.{Phase}
use Rattle.job_store.specs.declared.head.Phase.TheVariants.{Free, Open, Done}
use Rattle.job_store.specs.declared.head.ImageSide.{ImageSide}
use Rattle.job_store.specs.declared.head.ImageSide.TheVariants.{Neither, First, Second}

-- the byte of a phase · of the side that has the image
abbrev pub phase_byte : Phase → ℕ
phase_byte Free = 0
phase_byte Open = 1
phase_byte Done = 2

abbrev pub side_byte : ImageSide → ℕ
side_byte Neither = 0
side_byte First = 1
side_byte Second = 2

-- phase, rows, end, side, pages of the image, spill pages used: each number with its lowest byte first
unfoldable pub job_head_bytes : JobHead → List ℕ
job_head_bytes head =
    phase_byte head.phase ∷ (little 8 head.rows ++ (little 4 head.end
    ++ (side_byte head.side ∷ (little 4 head.image_pages ++ little 4 head.spill_used))))

-- A head as the list of its parts, where its end, its pages of the image and its spill pages are at most these.
abbrev pub head_parts : ℕ → ℕ → ℕ → List Part
head_parts end image spill =
    byte_part 0 2 ∷ number_part 8 0 18446744073709551615 ∷ number_part 4 0 end ∷ byte_part 0 2 ∷ number_part 4 0 image ∷ number_part 4 0 spill ∷ []

-- the values of the parts of a head · the head that they are of
abbrev pub HeadValue : Type 0
HeadValue = FormatValue (head_parts 0 0 0)

abbrev pub head_value : JobHead → HeadValue
head_value head = (phase_byte head.phase, (head.rows, (head.end, (side_byte head.side, (head.image_pages, (head.spill_used, tt))))))

abbrev pub phase_of : ℕ → Phase
phase_of byte = if byte == 0 then Free else (if byte == 1 then Open else Done)

abbrev pub side_of : ℕ → ImageSide
side_of byte = if byte == 0 then Neither else (if byte == 1 then First else Second)

abbrev pub head_of_value : HeadValue → JobHead
head_of_value v = record { phase = phase_of v.0; rows = v.1.0; end = v.1.1.0; side = side_of v.1.1.1.0; image_pages = v.1.1.1.1.0; spill_used = v.1.1.1.1.1.0 }

-- how a head of a store of these sizes is read · and where it is all of the bytes
unfoldable pub job_head_at : Sizes → Reader JobHead
job_head_at sizes = mapped head_of_value (format_at (head_parts (4096 * sizes.out) sizes.image sizes.spill))

unfoldable pub whole_head : Sizes → List ℕ → Result JobHead ℕ
whole_head sizes = entire (job_head_at sizes)

-- The output, the image and the spill pages that a head tells of are within the areas of a store of these sizes.
pub record IsHead (sizes : Sizes) (head : JobHead) : Type 0 where
  pub end : head.end ≤ 4096 * sizes.out
  pub image : head.image_pages ≤ sizes.image
  pub spill : head.spill_used ≤ sizes.spill

-- each number of a head is one of its type
pub record AreNumbers (head : JobHead) : Type 0 where
  pub rows : head.rows < 2 ^ 64
  pub end : head.end < 2 ^ 32
  pub image : head.image_pages < 2 ^ 32
  pub spill : head.spill_used < 2 ^ 32

-- a head of the form, with these bytes · there is none
pub record IsHeadOf (sizes : Sizes) (bytes : List ℕ) (head : JobHead) : Type 0 where
  pub form : IsHead sizes head
  pub stands : job_head_bytes head ≡ bytes

abbrev pub IsNoJobHead : Sizes → List ℕ → Type 0
IsNoJobHead sizes bytes = (head : JobHead) → IsHeadOf sizes bytes head → ⊥
