-- A spec: the entries that a change of an access control list names. No two have the same scope, kind and name, and no mask
-- and no entry of all others has a name.
-- (HDFS Permissions Guide, "ACLs Shell Commands".)
use Rattle.std.specs.Prelude.{◌≡◌, Bool, true, false, ◌&&◌, ◌||◌, List, [], ◌∷◌, if◌then◌else◌, Option, Some, None, Result, Ok, Err}
use Rattle.std.specs.List.{list_any}
use Rattle.std.specs.Option.{is_some, option_eq}
use Rattle.hdfs_values.specs.Text.{same}
use Rattle.permission_specs.specs.declared.entry.Scope.{Scope}
use Rattle.permission_specs.specs.declared.entry.Scope.TheVariants.{Access, Default}
use Rattle.permission_specs.specs.declared.entry.EntryKind.{EntryKind}
use Rattle.permission_specs.specs.declared.entry.EntryKind.TheVariants.{User, Group, Mask, Other}
use Rattle.permission_specs.specs.declared.entry.Entry.{Entry}
use Rattle.hdfs_values.specs.declared.fault.AclFault.{AclFault}
use Rattle.hdfs_values.specs.declared.fault.AclFault.TheVariants.{Duplicate, NamedBase}
use Rattle.hdfs_values.specs.declared.fault.IllFormed.{IllFormed}
use Rattle.hdfs_values.specs.declared.fault.IllFormed.TheVariants.{BadAcl}
use Rattle.hdfs_values.specs.declared.fault.ParseFault.{ParseFault}
use Rattle.hdfs_values.specs.declared.fault.ParseFault.TheVariants as faults

abbrev pub same_scope : Scope → Scope → Bool
same_scope Access Access = true
same_scope Default Default = true
same_scope _ _ = false

abbrev pub same_kind : EntryKind → EntryKind → Bool
same_kind User User = true
same_kind Group Group = true
same_kind Mask Mask = true
same_kind Other Other = true
same_kind _ _ = false

-- the same entry, whatever its rights
abbrev pub same_key : Entry → Entry → Bool
same_key a b = same_scope a.scope b.scope && (same_kind a.kind b.kind && option_eq same a.name b.name)

abbrev pub has_duplicate : List Entry → Bool
has_duplicate [] = false
has_duplicate (entry ∷ entries) = list_any (same_key entry) entries || has_duplicate entries

-- a mask or an entry of all others, with a name
abbrev pub is_named_base : Entry → Bool
is_named_base entry = is_some entry.name && (same_kind entry.kind Mask || same_kind entry.kind Other)

-- what is wrong with entries as a spec: the first that applies
abbrev pub spec_fault : List Entry → Option AclFault
spec_fault entries =
    if has_duplicate entries then Some Duplicate
    else (if list_any is_named_base entries then Some NamedBase else None)

abbrev pub IsSpec : List Entry → Type 0
IsSpec entries = spec_fault entries ≡ None

-- the spec of these entries, or what is wrong with them
abbrev pub ok_unless : Option AclFault → List Entry → Result (List Entry) AclFault
ok_unless None entries = Ok entries
ok_unless (Some fault) entries = Err fault

abbrev pub spec_of_entries : List Entry → Result (List Entry) AclFault
spec_of_entries entries = ok_unless (spec_fault entries) entries

-- how a text is ill-formed where there is no spec
abbrev pub ill_formed_by : Result (List Entry) AclFault → Option IllFormed
ill_formed_by (Ok entries) = None
ill_formed_by (Err fault) = Some (BadAcl fault)

-- what a call answers where this is the spec, or why there is none; out of memory may be answered instead of any answer
abbrev pub FailsAsSpec : ParseFault → Result (List Entry) AclFault → Type 0
FailsAsSpec (faults.IllFormed fault) spec = ill_formed_by spec ≡ Some fault
FailsAsSpec faults.OutOfMemory spec = Unit {0}

abbrev pub MakesSpec : Result (List Entry) ParseFault → Result (List Entry) AclFault → Type 0
MakesSpec (Ok entries) spec = spec ≡ Ok entries
MakesSpec (Err fault) spec = FailsAsSpec fault spec
