-- What a change leaves of an access control list, or why it is refused: set, modify, remove, remove the default list, clear, and the
-- change of a mode.
-- (HDFS Permissions Guide, "ACLs (Access Control Lists)" and "ACLs Shell Commands". Which lists are emptied or completed, the order of
-- refusals, and the masks that clear and remove leave are this project's own choice.)
use Rattle.std.specs.Prelude.{ℕ, ◌%◌, Bool, true, false, not, ◌&&◌, ◌||◌, List, [], ◌∷◌, filter, if◌then◌else◌, Option, Some, None, unwrap_or, Result, Ok, Err}
use Rattle.std.specs.List.{list_any, find, fold, filter_map}
use Rattle.std.specs.Option.{is_some, is_none, option_map, option_map_or, option_or}
use Rattle.std.specs.Ordering.{is_lt}
use Rattle.hdfs_values.specs.Text.{same, text_cmp}
use Rattle.permission_bits.specs.Mode.{user_bits, group_bits, other_bits}
use Rattle.permission_bits.specs.Rights.{rights}
use Rattle.permission_specs.specs.Spec.{same_scope, same_kind}
use Rattle.permission_bits.specs.declared.rights.Rights.{Rights}
use Rattle.permission_specs.specs.declared.entry.Entry.{Entry}
use Rattle.permission_specs.specs.declared.entry.EntryKind.{EntryKind}
use Rattle.permission_specs.specs.declared.entry.EntryKind.TheVariants.{User, Group, Mask, Other}
use Rattle.permission_specs.specs.declared.entry.Scope.{Scope}
use Rattle.permission_specs.specs.declared.entry.Scope.TheVariants.{Access, Default}
use Rattle.permission_specs.specs.declared.acl_change.AclChange.{AclChange}
use Rattle.permission_specs.specs.declared.acl_change.AclChange.TheVariants.{Set, Modify, Remove, RemoveDefault, Clear}
use Rattle.hdfs_values.specs.declared.fault.AclFault.{AclFault}
use Rattle.hdfs_values.specs.declared.fault.AclFault.TheVariants.{DefaultOnFile, NoBase, BaseRemoved, MaskRemoved}
use Rattle.file_states.specs.declared.kind.ObjectKind.{ObjectKind}
use Rattle.file_states.specs.declared.kind.ObjectKind.TheVariants.{File, Directory}
use Rattle.refusals.specs.declared.refusal.Refusal.{Refusal}
use Rattle.refusals.specs.declared.refusal.Refusal.TheVariants.{BadAcl, TooManyEntries}
use Rattle.acl_entries.specs.declared.entry_list.NamedEntry.{NamedEntry}
use Rattle.acl_entries.specs.Acl.{Acl, EntryList, base_entries, intersection, union_of_group_class, has_named, fits_in_scope, has_sticky_bit}

-- ── what a spec says of a scope ──

abbrev pub is_base_of : Scope → EntryKind → Entry → Bool
is_base_of scope kind entry = same_scope entry.scope scope && (same_kind entry.kind kind && is_none entry.name)

-- it has an entry for the owner, the owning group, the mask or all others
abbrev pub has_base : Scope → EntryKind → List Entry → Bool
has_base scope kind spec = list_any (is_base_of scope kind) spec

-- the rights that an entry grants: rights have three bits, and any further ones grant nothing
abbrev pub rights_granted : Entry → Rights
rights_granted entry = rights (entry.rights.0 % 8)

-- the rights that this entry grants
abbrev pub base_rights : Scope → EntryKind → List Entry → Option Rights
base_rights scope kind spec = option_map rights_granted (find (is_base_of scope kind) spec)

abbrev pub is_entry_for : Scope → EntryKind → Entry → Bool
is_entry_for scope kind entry = same_scope entry.scope scope && same_kind entry.kind kind

abbrev pub with_name : Entry → Option NamedEntry
with_name entry = option_map (λ name. record { name = name; rights = rights_granted entry }) entry.name

-- its entries for named users, or for named groups
abbrev pub named_in : Scope → EntryKind → List Entry → List NamedEntry
named_in scope kind spec = filter_map with_name (filter (is_entry_for scope kind) spec)

-- it has an entry in the scope
abbrev pub touches : Scope → List Entry → Bool
touches scope spec = list_any (λ entry. same_scope entry.scope scope) spec

-- ── lists of named entries, in the order of their names ──

-- with an entry in its place, instead of one of the same name
abbrev pub with_entry : NamedEntry → List NamedEntry → List NamedEntry
with_entry new [] = new ∷ []
with_entry new (entry ∷ entries) =
    if same new.name entry.name then new ∷ entries
    else (if is_lt (text_cmp new.name entry.name) then new ∷ entry ∷ entries else entry ∷ with_entry new entries)

-- with each of other entries put in
abbrev pub with_each : List NamedEntry → List NamedEntry → List NamedEntry
with_each entries others = fold (λ list entry. with_entry entry list) entries others

-- without those whose names others have
abbrev pub entries_without : List NamedEntry → List NamedEntry → List NamedEntry
entries_without entries others = filter (λ entry. not (list_any (λ other. same other.name entry.name) others)) entries

-- ── the entries of a scope without its mask, while they change: bases may be missing ──

pub record PartialList : Type 0 where
  pub user : Option Rights
  pub users : List NamedEntry
  pub group : Option Rights
  pub groups : List NamedEntry
  pub other : Option Rights

abbrev pub no_entries : PartialList
no_entries = record { user = None; users = []; group = None; groups = []; other = None }

abbrev pub all_of : EntryList → PartialList
all_of list = record { user = Some list.user; users = list.users; group = Some list.group; groups = list.groups; other = Some list.other }

-- with each entry that the spec has in the scope, instead of one that stands there
abbrev pub after_addition : Scope → List Entry → PartialList → PartialList
after_addition scope spec old = record {
  user = option_or (base_rights scope User spec) old.user;
  users = with_each old.users (named_in scope User spec);
  group = option_or (base_rights scope Group spec) old.group;
  groups = with_each old.groups (named_in scope Group spec);
  other = option_or (base_rights scope Other spec) old.other;
}

abbrev pub unless : Bool → Option Rights → Option Rights
unless true granted = None
unless false granted = granted

-- without the entries that the spec has in the scope
abbrev pub after_removal : Scope → List Entry → PartialList → PartialList
after_removal scope spec old = record {
  user = unless (has_base scope User spec) old.user;
  users = entries_without old.users (named_in scope User spec);
  group = unless (has_base scope Group spec) old.group;
  groups = entries_without old.groups (named_in scope Group spec);
  other = unless (has_base scope Other spec) old.other;
}

abbrev pub is_empty : List NamedEntry → Bool
is_empty [] = true
is_empty (entry ∷ entries) = false

abbrev pub has_no_entry : PartialList → Bool
has_no_entry list = is_none list.user && (is_none list.group && (is_none list.other && (is_empty list.users && is_empty list.groups)))

-- ── a list again: missing bases from another list, and a mask ──

abbrev pub with_bases_of : EntryList → PartialList → EntryList
with_bases_of other list = record {
  user = unwrap_or list.user other.user;
  users = list.users;
  group = unwrap_or list.group other.group;
  groups = list.groups;
  mask = None;
  other = unwrap_or list.other other.other;
}

-- the mask that a spec names, else the union of the group class
abbrev pub mask_after : Option Rights → EntryList → EntryList
mask_after named list = record list { mask = Some (unwrap_or named (union_of_group_class list)) }

abbrev pub completed_list : Option Rights → EntryList → PartialList → EntryList
completed_list named_mask other list = mask_after named_mask (with_bases_of other list)

-- an access list without named entries is kept as mode bits: the group keeps of its rights those that the mask grants
abbrev pub as_kept : EntryList → EntryList
as_kept list =
    if has_named list then list
    else base_entries list.user (option_map_or (intersection list.group) list.mask list.group) list.other

-- ── the lists after a change: an untouched scope stays ──

-- missing bases are the old ones; that matters for `clear` alone, since `set` and `remove` without a base are refused
abbrev pub access_where : Bool → Option Rights → EntryList → PartialList → EntryList
access_where touched named_mask old list = if touched then as_kept (completed_list named_mask old list) else old

abbrev pub access_after : AclChange → EntryList → EntryList
access_after (Set spec) old = access_where (touches Access spec) (base_rights Access Mask spec) old (after_addition Access spec no_entries)
access_after (Modify spec) old = access_where (touches Access spec) (base_rights Access Mask spec) old (after_addition Access spec (all_of old))
access_after (Remove spec) old = access_where (touches Access spec) None old (after_removal Access spec (all_of old))
access_after RemoveDefault old = old
access_after Clear old = access_where true None old no_entries

-- missing bases are those of the access list after the change
abbrev pub default_where : Bool → Option Rights → Option EntryList → EntryList → PartialList → Option EntryList
default_where touched named_mask old access list = if touched then Some (completed_list named_mask access list) else old

-- a list of which at most a mask is left is empty
abbrev pub default_left : Bool → Option EntryList → EntryList → PartialList → Option EntryList
default_left touched old access list = if touched && has_no_entry list then None else default_where touched None old access list

abbrev pub default_after : AclChange → EntryList → Option EntryList → Option EntryList
default_after (Set spec) access old = default_where (touches Default spec) (base_rights Default Mask spec) old access (after_addition Default spec no_entries)
default_after (Modify spec) access old =
    default_where (touches Default spec) (base_rights Default Mask spec) old access (after_addition Default spec (option_map_or all_of old no_entries))
default_after (Remove spec) access old = default_left (touches Default spec) old access (after_removal Default spec (option_map_or all_of old no_entries))
default_after RemoveDefault access old = None
default_after Clear access old = None

abbrev pub acl_after : AclChange → Acl → Acl
acl_after change old =
    let access = access_after change old.access in
    record old { access = access; default = default_after change access old.default }

-- ── refusals ──

abbrev pub spec_in : AclChange → List Entry
spec_in (Set spec) = spec
spec_in (Modify spec) = spec
spec_in (Remove spec) = spec
spec_in _ = []

-- the change names entries
abbrev pub has_spec : AclChange → Bool
has_spec (Set spec) = true
has_spec (Modify spec) = true
has_spec (Remove spec) = true
has_spec RemoveDefault = false
has_spec Clear = false

abbrev pub is_file : ObjectKind → Bool
is_file File = true
is_file Directory = false

-- a default entry of a file
abbrev pub default_on_file : AclChange → ObjectKind → Bool
default_on_file change kind = is_file kind && touches Default (spec_in change)

-- the access scope is set without owner, owning group or others
abbrev pub lacks_base : AclChange → Bool
lacks_base (Set spec) = touches Access spec && not (has_base Access User spec && (has_base Access Group spec && has_base Access Other spec))
lacks_base _ = false

-- the access entry of owner, owning group or others is taken away
abbrev pub removes_base : AclChange → Bool
removes_base (Remove spec) = has_base Access User spec || (has_base Access Group spec || has_base Access Other spec)
removes_base _ = false

-- the mask of an extended access list is taken away
abbrev pub removes_mask : AclChange → EntryList → Bool
removes_mask (Remove spec) access = has_base Access Mask spec && has_named access
removes_mask _ access = false

-- the first that applies
abbrev pub first_acl_fault : AclChange → ObjectKind → Acl → Option AclFault
first_acl_fault change kind acl =
    if default_on_file change kind then Some DefaultOnFile else
    if lacks_base change then Some NoBase else
    if removes_base change then Some BaseRemoved else
    if removes_mask change acl.access then Some MaskRemoved else None

-- no scope has more entries than may stand in one
abbrev pub if_it_fits : Acl → Result Acl Refusal
if_it_fits acl = if fits_in_scope acl.access && option_map_or fits_in_scope acl.default true then Ok acl else Err TooManyEntries

abbrev pub unless_fault : Option AclFault → Acl → Result Acl Refusal
unless_fault (Some fault) acl = Err (BadAcl fault)
unless_fault None acl = if_it_fits acl

-- the list after a change, or why it is refused
abbrev pub acl_change : AclChange → ObjectKind → Acl → Result Acl Refusal
acl_change change kind acl = unless_fault (first_acl_fault change kind acl) (acl_after change acl)

-- ── the change of a mode ──

abbrev pub access_with_mode : ℕ → EntryList → EntryList
access_with_mode mode list = record list {
  user = rights (user_bits mode);
  group = if is_some list.mask then list.group else rights (group_bits mode);
  mask = option_map (λ mask. rights (group_bits mode)) list.mask;
  other = rights (other_bits mode);
}

-- a mode sets owner, others, and the mask where there is one, else the group; and the sticky bit of a directory
abbrev pub with_mode : ℕ → ObjectKind → Acl → Acl
with_mode mode kind acl = record acl { sticky = has_sticky_bit mode kind; access = access_with_mode mode acl.access }
