-- The text of a spec: entries joined by commas, an entry being `[default:]TYPE:[NAME]:RIGHTS`. Where entries are taken away, no
-- rights are written: `[default:]TYPE`, `[default:]TYPE:NAME`, and either with one colon more.
-- (HDFS Permissions Guide, "ACLs Shell Commands".)
use Rattle.std.specs.Prelude.{ℕ, Bool, true, false, ◌==◌, ◌&&◌, nat_lt, List, [], ◌∷◌, map, if◌then◌else◌, Option, Some, None, Result, Err, codes}
use Rattle.std.specs.List.{join_with_byte, slice_split}
use Rattle.std.specs.Option.{option_map, option_map_or}
use Rattle.hdfs_values.specs.Text.{same}
use Rattle.hdfs_values.specs.Who.{is_who, who_of}
use Rattle.permission_bits.specs.Rights.{rights, rights_of}
use Rattle.permission_specs.specs.Entry.{entry_text, kind_text}
use Rattle.permission_specs.specs.Spec.{spec_of_entries}
use Rattle.permission_bits.specs.declared.rights.Rights.{Rights}
use Rattle.permission_specs.specs.declared.entry.Scope.{Scope}
use Rattle.permission_specs.specs.declared.entry.Scope.TheVariants.{Access, Default}
use Rattle.permission_specs.specs.declared.entry.EntryKind.{EntryKind}
use Rattle.permission_specs.specs.declared.entry.EntryKind.TheVariants.{User, Group, Mask, Other}
use Rattle.permission_specs.specs.declared.entry.Entry.{Entry}
use Rattle.hdfs_values.specs.declared.fault.AclFault.{AclFault}
use Rattle.hdfs_values.specs.declared.fault.AclFault.TheVariants.{Form}

-- as it is printed
abbrev pub spec_text : List Entry → List ℕ
spec_text entries = join_with_byte 44 (map entry_text entries)

abbrev pub entry_kind_of : List ℕ → Option EntryKind
entry_kind_of word =
    if same word (kind_text User) then Some User else
    if same word (kind_text Group) then Some Group else
    if same word (kind_text Mask) then Some Mask else
    if same word (kind_text Other) then Some Other else None

-- a name, or nothing where the piece is empty
abbrev pub entry_name_of : List ℕ → Option (Option (List ℕ))
entry_name_of [] = Some None
entry_name_of (byte ∷ word) = option_map (λ name. Some name) (who_of (byte ∷ word))

abbrev pub entry_with : Scope → Option EntryKind → Option (Option (List ℕ)) → Option Rights → Option Entry
entry_with scope (Some kind) (Some name) (Some granted) = Some (record { scope = scope; kind = kind; name = name; rights = granted })
entry_with scope _ _ _ = None

-- an entry of an access control list
abbrev pub granting_entry : Scope → List (List ℕ) → Option Entry
granting_entry scope (kind ∷ name ∷ granted ∷ []) = entry_with scope (entry_kind_of kind) (entry_name_of name) (rights_of granted)
granting_entry scope _ = None

-- an entry to be taken away, which has no rights
abbrev pub bare_entry : Scope → List (List ℕ) → Option Entry
bare_entry scope (kind ∷ []) = entry_with scope (entry_kind_of kind) (Some None) (Some (rights 0))
bare_entry scope (kind ∷ name ∷ []) = entry_with scope (entry_kind_of kind) (entry_name_of name) (Some (rights 0))
bare_entry scope (kind ∷ (byte ∷ name) ∷ [] ∷ []) = entry_with scope (entry_kind_of kind) (entry_name_of (byte ∷ name)) (Some (rights 0))
bare_entry scope _ = None

abbrev pub entry_in : Bool → Scope → List (List ℕ) → Option Entry
entry_in true scope fields = granting_entry scope fields
entry_in false scope fields = bare_entry scope fields

-- the fields between the colons, without the word of the scope
abbrev pub entry_of_fields : Bool → List (List ℕ) → Option Entry
entry_of_fields with_rights [] = None
entry_of_fields with_rights (field ∷ fields) =
    if same field (codes "default") then entry_in with_rights Default fields else entry_in with_rights Access (field ∷ fields)

abbrev pub entry_of_text : Bool → List ℕ → Option Entry
entry_of_text with_rights text = entry_of_fields with_rights (slice_split (λ byte. byte == 58) text)

-- what each answers, where all answer
abbrev pub both : Option Entry → Option (List Entry) → Option (List Entry)
both (Some entry) (Some entries) = Some (entry ∷ entries)
both _ _ = None

abbrev pub entries_of_texts : Bool → List (List ℕ) → Option (List Entry)
entries_of_texts with_rights [] = Some []
entries_of_texts with_rights (text ∷ texts) = both (entry_of_text with_rights text) (entries_of_texts with_rights texts)

abbrev pub spec_or_fault : Option (List Entry) → Result (List Entry) AclFault
spec_or_fault None = Err Form
spec_or_fault (Some entries) = spec_of_entries entries

-- the spec that a text spells, or how it doesn't: the form of the whole text first, then an entry that stands twice, then a name
-- where none belongs
abbrev pub spec_of : Bool → List ℕ → Result (List Entry) AclFault
spec_of with_rights text = spec_or_fault (entries_of_texts with_rights (slice_split (λ byte. byte == 44) text))

-- what has a text of its own: its rights have three bits, and its name is one of a user or a group
abbrev pub is_printable : Entry → Bool
is_printable entry = nat_lt entry.rights.0 8 && option_map_or is_who entry.name true
