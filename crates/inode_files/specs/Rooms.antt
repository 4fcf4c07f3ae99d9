-- Room in the table for a file that may be given, and what is left where it is put in.
use Rattle.std.specs.Prelude.{◌≡◌, ℕ, ⊤, Option, Some, None}
use Rattle.slab.specs.Slab.{Slab, get, HasRoomFor, Updates, SameValues}
use Rattle.namespace_rows.specs.declared.file_row.FileRow.{FileRow}

abbrev pub HasRoomWhere : Option FileRow → Slab FileRow → Type 0
HasRoomWhere None files = ⊤
HasRoomWhere (Some file) files = HasRoomFor files 1

-- there is room for the file, and this is the place that it will get
pub record IsRoom (files : Slab FileRow) (place : ℕ) : Type 0 where
  pub room : HasRoomFor files 1
  pub place_is : place ≡ files.vacant_key
  pub vacant : get files place ≡ None

abbrev pub IsRoomFor : Slab FileRow → Option FileRow → Option ℕ → Type 0
IsRoomFor files None place = place ≡ None
IsRoomFor files (Some file) None = ⊥
IsRoomFor files (Some file) (Some place) = IsRoom files place

-- the file is put in at the place that was vacant, and nothing else has changed
abbrev pub IsPut : Option FileRow → Slab FileRow → Slab FileRow → Type 0
IsPut None old new = SameValues old new
IsPut (Some file) old new = Updates old new old.vacant_key (Some file)
