-- The head of a store: the sizes that it tells.
use Rattle.std.specs.Prelude.{ℕ, ◌==◌, Bool, ◌&&◌, nat_le, if◌then◌else◌, List, Option, Some, None}
use Rattle.disk_model.specs.Image.{Image}
use Rattle.qsr_layout.specs.StoreHead.{store_head_field}
use Rattle.qsr_layout.specs.declared.records.StoreHeadField.TheVariants.{Gate, Text, Version, TablePages, IndexPages, OutputPages, ImagePages, SpillPages}
use Rattle.page_store.specs.Twin.{bytes_at, number_in}
use Rattle.page_store.specs.declared.pages.Sizes.{Sizes}
use Rattle.page_store.specs.declared.records.TheConstants.{OPEN, STORE_TEXT, VERSION}

-- the sizes in the head of a store
abbrev pub sizes_in : List ℕ → Sizes
sizes_in page = record {
  table = number_in (store_head_field TablePages) page;
  index = number_in (store_head_field IndexPages) page;
  out = number_in (store_head_field OutputPages) page;
  image = number_in (store_head_field ImagePages) page;
  spill = number_in (store_head_field SpillPages) page;
}

abbrev pub is_size : ℕ → Bool
is_size n = nat_le 1 n && nat_le n 65536

abbrev pub are_sizes : Sizes → Bool
are_sizes sizes = is_size sizes.table && is_size sizes.index && is_size sizes.out && is_size sizes.image && is_size sizes.spill

-- the gate is open, and the text and the version are those of a store
abbrev pub is_marked : List ℕ → Bool
is_marked page = (number_in (store_head_field Gate) page == OPEN) && (number_in (store_head_field Text) page == STORE_TEXT) && (number_in (store_head_field Version) page == VERSION)

-- the sizes of the store whose head these bytes are, if they are one
unfoldable pub head_in : List ℕ → Option Sizes
head_in page = if is_marked page && are_sizes (sizes_in page) then Some (sizes_in page) else None

-- the sizes of the store whose head stands at the front of an image
abbrev pub store_head : Image → Option Sizes
store_head c = head_in (bytes_at c 0 31)
