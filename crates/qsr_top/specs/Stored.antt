-- Which tables a disk stands for.
use Rattle.std.specs.Prelude.{◌≡◌, ◌⊎◌, ℕ}
use Rattle.disk_model.specs.Image.{Image}
use Rattle.disk_model.specs.View.{View, EachImage}
use Rattle.page_store.specs.Opening.{IsNone, IsNotStore, IsStore}
use Rattle.page_store.specs.Store.{Contents, contents_of, contents_view, twin_page}
use Rattle.page_store.specs.declared.pages.Sizes.{Sizes}
use Rattle.table_file.specs.Refusals.{HasNoCatalogue}
use Rattle.table_file.specs.Tables.{HasTables, Tables}

-- What stands on a disk of so many bytes is a store of these sizes, and has these tables.
pub record Stands (size : ℕ) (sizes : Sizes) (s : Tables) (m : Contents) : Type 0 where
  pub store : IsStore size sizes m
  pub tables : HasTables s m

-- each image that a crash now may leave stands for these tables
abbrev pub StandsFor : ℕ → Sizes → Tables → View Image → Type 0
StandsFor size sizes s disk = EachImage (contents_view sizes disk) (Stands size sizes s)

-- A store stands there, but its catalogue, whose twin begins at this page, is none.
pub record IsBadCatalogue (size page : ℕ) (c : Image) : Type 0 where
  pub sizes : Sizes
  pub store : IsStore size sizes (contents_of sizes c)
  pub first : page ≡ twin_page sizes 0
  pub none : HasNoCatalogue sizes (contents_of sizes c)

-- The bytes are no store, or one whose catalogue is none; the page tells where.
abbrev pub IsNotStored : ℕ → ℕ → Image → Type 0
IsNotStored size page c = (IsNotStore size page c × IsNone size c) ⊎ IsBadCatalogue size page c
