-- Laws about access control lists, which follow from the definitions of changes, of inheritance and of the entry that decides.
use Rattle.std.specs.Prelude.{◌≡◌, ℕ, Bool, true, false, ◌||◌, List, None, Ok, IsTrue}
use Rattle.std.specs.List.{list_all, list_any}
use Rattle.std.specs.Option.{is_some, option_map_or, option_or}
use Rattle.hdfs_values.specs.Text.{same}
use Rattle.hdfs_values.specs.Groups.{has_group}
use Rattle.permission_bits.specs.Mode.{is_mode, without_sticky}
use Rattle.permission_bits.specs.Rights.{covers}
use Rattle.permission_specs.specs.Spec.{IsSpec, same_kind}
use Rattle.permission_bits.specs.declared.rights.Rights.{Rights}
use Rattle.permission_specs.specs.declared.entry.Entry.{Entry}
use Rattle.permission_specs.specs.declared.entry.EntryKind.TheVariants.{Group, Other}
use Rattle.permission_specs.specs.declared.entry.Scope.TheVariants.{Access}
use Rattle.permission_specs.specs.declared.acl_change.AclChange.TheVariants.{Set, Modify, Clear}
use Rattle.file_states.specs.declared.kind.ObjectKind.{ObjectKind}
use Rattle.file_states.specs.declared.kind.ObjectKind.TheVariants.{File, Directory}
use Rattle.acl_entries.specs.Acl.{Acl, IsAcl, IsEntryList, base_entry, entries, fits_in_scope, has_acl, is_entry_list, shown_mode}
use Rattle.acl_entries.specs.JudgedEntry.{judged_by, judged_entry}
use Rattle.permission_specs.specs.SpecText.{is_printable, spec_of, spec_text}
use Rattle.partial_acl.specs.AclChange.{acl_after, acl_change, with_mode}
use Rattle.default_acl.specs.Inheritance.{inherited_acl}

-- ---- modes

abbrev pub DirectoriesShowTheirMode : Type 0
DirectoriesShowTheirMode = (mode : ℕ) (acl : Acl) → IsTrue (is_mode mode) → shown_mode (with_mode mode Directory acl) ≡ mode

abbrev pub FilesShowTheirMode : Type 0
FilesShowTheirMode = (mode : ℕ) (acl : Acl) → IsTrue (is_mode mode) → shown_mode (with_mode mode File acl) ≡ without_sticky mode

-- ---- changes

-- no named entries and no default list
abbrev pub ClearedListsArePlain : Type 0
ClearedListsArePlain = (acl : Acl) → has_acl (acl_after Clear acl) ≡ false

abbrev pub ModifyingAgainChangesNothing : Type 0
ModifyingAgainChangesNothing = (spec : List Entry) (kind : ObjectKind) (acl once : Acl)
    → IsSpec spec → acl_change (Modify spec) kind acl ≡ Ok once → acl_change (Modify spec) kind once ≡ Ok once

-- an access control list as its type keeps it
pub record IsKeptAcl (acl : Acl) : Type 0 where
  pub masks : IsAcl acl
  pub access : IsEntryList acl.access
  pub default : IsTrue (option_map_or is_entry_list acl.default true)

-- one that has another's entries instead of its own; where the other has no default list, its own stays, since a spec that names
-- nothing of a scope leaves it
abbrev pub with_entries_of : Acl → Acl → Acl
with_entries_of acl old = record old { access = acl.access; default = option_or acl.default old.default }

-- a default list that stays has to fit too
abbrev pub SettingToEntriesCopies : Type 0
SettingToEntriesCopies = (acl old : Acl) → IsKeptAcl acl → IsTrue (option_map_or fits_in_scope old.default true)
    → acl_change (Set (entries acl)) Directory old ≡ Ok (with_entries_of acl old)

-- the text of a list's entries is read as a spec again, and setting a list to what is read gives the same entries
abbrev pub WhatIsPrintedIsSetAgain : Type 0
WhatIsPrintedIsSetAgain = (acl old : Acl) → IsKeptAcl acl → IsTrue (list_all is_printable (entries acl)) → IsTrue (option_map_or fits_in_scope old.default true)
    → (spec_of true (spec_text (entries acl)) ≡ Ok (entries acl))
    × ((spec : List Entry) → spec_of true (spec_text (entries acl)) ≡ Ok spec → acl_change (Set spec) Directory old ≡ Ok (with_entries_of acl old))

-- ---- inheritance

abbrev pub DirectoriesTakeDefaultListsOn : Type 0
DirectoriesTakeDefaultListsOn = (parent : Acl) (mode : ℕ) → (inherited_acl parent mode Directory).default ≡ parent.default

abbrev pub FilesHaveNoDefaultList : Type 0
FilesHaveNoDefaultList = (parent : Acl) (mode : ℕ) → (inherited_acl parent mode File).default ≡ None

-- ---- the entry that decides

-- a named entry, or the owning group's
abbrev pub is_of_masked_class : Entry → Bool
is_of_masked_class entry = is_some entry.name || same_kind entry.kind Group

abbrev pub MasksBoundWhatIsGranted : Type 0
MasksBoundWhatIsGranted = (owner group : List ℕ) (acl : Acl) (caller : List ℕ) (groups : List (List ℕ)) (need : Rights)
    → (judged_entry owner group acl caller groups need).granted ≡ true → is_of_masked_class (judged_entry owner group acl caller groups need).entry ≡ true
    → option_map_or (λ mask. covers mask.0 need.0) acl.access.mask true ≡ true

-- neither the owner nor a named user, and in no group that the list names
pub record IsStranger (owner group : List ℕ) (acl : Acl) (caller : List ℕ) (groups : List (List ℕ)) : Type 0 where
  pub no_owner : same caller owner ≡ false
  pub no_named_user : list_any (λ entry. same caller entry.name) acl.access.users ≡ false
  pub not_in_group : has_group groups group ≡ false
  pub in_no_named_group : list_any (λ entry. has_group groups entry.name) acl.access.groups ≡ false

abbrev pub StrangersAreOthers : Type 0
StrangersAreOthers = (owner group : List ℕ) (acl : Acl) (caller : List ℕ) (groups : List (List ℕ)) (need : Rights)
    → IsStranger owner group acl caller groups → judged_entry owner group acl caller groups need ≡ judged_by (base_entry Access Other acl.access.other) None need
