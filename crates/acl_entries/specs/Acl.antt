-- The access control list of a file or a directory: the entries that are judged, which its mode shows, the sticky bit, and on a
-- directory the default entries that what is made in it inherits.
-- (HDFS Permissions Guide, "Overview" and "ACLs (Access Control Lists)".)
use Rattle.std.specs.Prelude.{ℕ, ◌+◌, ◌*◌, Bool, true, false, not, ◌&&◌, ◌||◌, List, [], ◌∷◌, ◌++◌, map, length, nat_lt, nat_le, if◌then◌else◌, Option, Some, None, unwrap_or, IsTrue}
use Rattle.std.specs.List.{list_all, fold}
use Rattle.std.specs.Option.{is_some, is_none, option_map_or}
use Rattle.std.specs.Ordering.{is_lt}
use Rattle.std.specs.Int.RustNames.{bit_and, bit_or}
use Rattle.hdfs_values.specs.Text.{text_cmp}
use Rattle.permission_bits.specs.Mode.{user_bits, group_bits, other_bits, is_sticky}
use Rattle.permission_bits.specs.Rights.{rights}
use Rattle.permission_bits.specs.declared.rights.Rights.{Rights}
use Rattle.permission_specs.specs.declared.entry.Entry.{Entry}
use Rattle.permission_specs.specs.declared.entry.EntryKind.{EntryKind}
use Rattle.permission_specs.specs.declared.entry.EntryKind.TheVariants.{User, Group, Mask, Other}
use Rattle.permission_specs.specs.declared.entry.Scope.{Scope}
use Rattle.permission_specs.specs.declared.entry.Scope.TheVariants.{Access, Default}
use Rattle.file_states.specs.declared.kind.ObjectKind.{ObjectKind}
use Rattle.file_states.specs.declared.kind.ObjectKind.TheVariants.{File, Directory}
use Rattle.acl_entries.specs.declared.entry_list.NamedEntry.{NamedEntry}

-- the entries of one scope: those of the owner, the owning group and all others, those of named users and groups in the order of
-- their names, and the mask, where there is one
pub record EntryList : Type 0 where
  pub user : Rights
  pub users : List NamedEntry
  pub group : Rights
  pub groups : List NamedEntry
  pub mask : Option Rights
  pub other : Rights

pub record Acl : Type 0 where
  pub sticky : Bool
  pub access : EntryList
  pub default : Option EntryList

abbrev pub intersection : Rights → Rights → Rights
intersection a b = rights (bit_and a.0 b.0)

abbrev pub union : Rights → Rights → Rights
union a b = rights (bit_or a.0 b.0)

-- the rights of all of a class that has a mask: the owning group, named users and named groups
abbrev pub union_of_named : Rights → List NamedEntry → Rights
union_of_named granted named = fold (λ sum entry. union sum entry.rights) granted named

abbrev pub union_of_group_class : EntryList → Rights
union_of_group_class list = union_of_named (union_of_named list.group list.users) list.groups

-- the entries of owner, owning group and others alone
abbrev pub base_entries : Rights → Rights → Rights → EntryList
base_entries user group other = record { user = user; users = []; group = group; groups = []; mask = None; other = other }

-- a file has no sticky bit
abbrev pub has_sticky_bit : ℕ → ObjectKind → Bool
has_sticky_bit mode File = false
has_sticky_bit mode Directory = is_sticky mode

-- the list that a mode alone gives
abbrev pub acl_of_mode : ℕ → ObjectKind → Acl
acl_of_mode mode kind = record {
  sticky = has_sticky_bit mode kind;
  access = base_entries (rights (user_bits mode)) (rights (group_bits mode)) (rights (other_bits mode));
  default = None;
}

-- the mode that a list shows: where there is a mask, it stands for the group
abbrev pub shown_mode : Acl → ℕ
shown_mode acl = (if acl.sticky then 512 else 0) + acl.access.user.0 * 64 + (unwrap_or acl.access.mask acl.access.group).0 * 8 + acl.access.other.0

-- there are named entries
abbrev pub has_named : EntryList → Bool
has_named list = nat_lt 0 (length list.users + length list.groups)

-- an extended access list, or a default list: what a mode doesn't show
abbrev pub has_acl : Acl → Bool
has_acl acl = has_named acl.access || is_some acl.default

abbrev pub base_entry : Scope → EntryKind → Rights → Entry
base_entry scope kind granted = record { scope = scope; kind = kind; name = None; rights = granted }

abbrev pub named_entry : Scope → EntryKind → NamedEntry → Entry
named_entry scope kind entry = record { scope = scope; kind = kind; name = Some entry.name; rights = entry.rights }

abbrev pub mask_entries : Scope → Option Rights → List Entry
mask_entries scope None = []
mask_entries scope (Some mask) = base_entry scope Mask mask ∷ []

-- in the order in which they are printed: owner, named users, owning group, named groups, mask, others
abbrev pub entries_in : Scope → EntryList → List Entry
entries_in scope list =
    base_entry scope User list.user ∷ (map (named_entry scope User) list.users
    ++ base_entry scope Group list.group ∷ (map (named_entry scope Group) list.groups
    ++ (mask_entries scope list.mask ++ base_entry scope Other list.other ∷ [])))

-- those of both scopes
abbrev pub entries : Acl → List Entry
entries acl = entries_in Access acl.access ++ option_map_or (entries_in Default) acl.default []

-- at most 32 entries stand in a scope
abbrev pub fits_in_scope : EntryList → Bool
fits_in_scope list = nat_le (length (entries_in Access list)) 32

-- a file can have the list: neither a sticky bit nor a default list stands in it
abbrev pub suits_file : Acl → Bool
suits_file acl = not acl.sticky && is_none acl.default

-- rights have three bits
abbrev pub are_rights : Rights → Bool
are_rights granted = nat_lt granted.0 8

abbrev pub are_bases : Rights → Rights → Rights → Bool
are_bases user group other = are_rights user && (are_rights group && are_rights other)

abbrev pub grant_rights : List NamedEntry → Bool
grant_rights named = list_all (λ entry. are_rights entry.rights) named

-- each name stands before the next, in the order of their bytes
abbrev pub ascend : List NamedEntry → Bool
ascend [] = true
ascend (entry ∷ []) = true
ascend (entry ∷ next ∷ named) = is_lt (text_cmp entry.name next.name) && ascend (next ∷ named)

abbrev pub is_entry_list : EntryList → Bool
is_entry_list list =
    ascend list.users && (ascend list.groups && (grant_rights list.users && (grant_rights list.groups
    && (fits_in_scope list && (option_map_or are_rights list.mask true && are_bases list.user list.group list.other)))))

abbrev pub IsEntryList : EntryList → Type 0
IsEntryList list = IsTrue (is_entry_list list)

-- a mask stands exactly where a named entry is
abbrev pub is_access_list : EntryList → Bool
is_access_list list = if has_named list then is_some list.mask else is_none list.mask

-- and a default list always has one
abbrev pub IsAcl : Acl → Type 0
IsAcl acl = IsTrue (is_access_list acl.access && option_map_or (λ list. is_some list.mask) acl.default true)
