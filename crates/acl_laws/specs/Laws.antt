-- Laws of access control lists that are inherited or changed: what is made has what the default list and its mode both grant, and what a change leaves, gives and
-- takes. They follow from the rules, so a slip in the rules that breaks one is refused, also where code and rule have it together.
-- (HDFS Permissions Guide, "ACLs (Access Control Lists)" and "ACLs Shell Commands".)
use Rattle.std.specs.Prelude.{◌≡◌, ℕ, ◌==◌, Bool, true, false, ◌&&◌, ◌||◌, List, [], ◌∷◌, ◌++◌, Option, Some, None, Ok, unwrap_or}
use Rattle.std.specs.List.{list_all, list_any, find}
use Rattle.std.specs.Option.{is_some, option_map, option_map_or}
use Rattle.std.specs.Int.{bit_at}
use Rattle.hdfs_values.specs.Text.{same}
use Rattle.permission_bits.specs.Mode.{user_bits, group_bits, other_bits, is_sticky}
use Rattle.permission_bits.specs.Rights.{covers}
use Rattle.permission_bits.specs.declared.rights.Rights.{Rights}
use Rattle.permission_specs.specs.Spec.{same_scope}
use Rattle.permission_specs.specs.declared.entry.Entry.{Entry}
use Rattle.permission_specs.specs.declared.entry.EntryKind.{EntryKind}
use Rattle.permission_specs.specs.declared.entry.EntryKind.TheVariants.{User, Group, Mask, Other}
use Rattle.permission_specs.specs.declared.entry.Scope.{Scope}
use Rattle.permission_specs.specs.declared.entry.Scope.TheVariants.{Access, Default}
use Rattle.permission_specs.specs.declared.acl_change.AclChange.{AclChange}
use Rattle.permission_specs.specs.declared.acl_change.AclChange.TheVariants.{Set, Modify, Remove, RemoveDefault, Clear}
use Rattle.file_states.specs.declared.kind.ObjectKind.{ObjectKind}
use Rattle.file_states.specs.declared.kind.ObjectKind.TheVariants.{File, Directory}
use Rattle.acl_entries.specs.declared.entry_list.NamedEntry.{NamedEntry}
use Rattle.acl_entries.specs.Acl.{Acl, EntryList, IsAcl, fits_in_scope}
use Rattle.partial_acl.specs.AclChange.{acl_change, base_rights, has_spec, is_entry_for, rights_granted, spec_in, with_mode}
use Rattle.default_acl.specs.Inheritance.{inherited_acl}

-- ---- what is inherited

-- what bounds the whole group class, owning group, named users and named groups: the mask, or the owning group's entry where there is none (and then nobody is named)
abbrev pub group_class_of : EntryList → ℕ
group_class_of list = (unwrap_or list.mask list.group).0

-- owner, group class and others have no more rights than the mode's digits
pub record KeepsToMode (mode : ℕ) (list : EntryList) : Type 0 where
  pub user : covers (user_bits mode) list.user.0 ≡ true
  pub group_class : covers (group_bits mode) (group_class_of list) ≡ true
  pub other : covers (other_bits mode) list.other.0 ≡ true

-- whatever a default list grants, what is made with a mode grants no more than the mode
abbrev pub WhatIsMadeKeepsToItsMode : Type 0
WhatIsMadeKeepsToItsMode = (parent : Acl) (mode : ℕ) (kind : ObjectKind) → IsAcl parent → KeepsToMode mode (inherited_acl parent mode kind).access

-- owner, owning group, group class and others have no more rights than in another list, and the same named entries stand
pub record KeepsToList (list made : EntryList) : Type 0 where
  pub user : covers list.user.0 made.user.0 ≡ true
  pub users : made.users ≡ list.users
  pub group : covers list.group.0 made.group.0 ≡ true
  pub groups : made.groups ≡ list.groups
  pub group_class : covers (group_class_of list) (group_class_of made) ≡ true
  pub other : covers list.other.0 made.other.0 ≡ true

-- and whatever the mode, no more than the default list
abbrev pub WhatIsMadeKeepsToTheDefaultList : Type 0
WhatIsMadeKeepsToTheDefaultList = (parent : Acl) (list : EntryList) (mode : ℕ) (kind : ObjectKind)
    → IsAcl parent → parent.default ≡ Some list → KeepsToList list (inherited_acl parent mode kind).access

-- owner and others have each right that the list grants them and the mode, too; the owning group has what the list grants it, as far as mask and mode do; and
-- a mask grants what that of the list and the mode do
pub record HasBoth (mode : ℕ) (list made : EntryList) : Type 0 where
  pub user : (need : ℕ) → covers list.user.0 need ≡ true → covers (user_bits mode) need ≡ true → covers made.user.0 need ≡ true
  pub group : (need : ℕ) → covers list.group.0 need ≡ true → covers (group_class_of list) need ≡ true → covers (group_bits mode) need ≡ true → covers made.group.0 need ≡ true
  pub mask : (need : ℕ) → is_some made.mask ≡ true → covers (group_class_of list) need ≡ true → covers (group_bits mode) need ≡ true → covers (group_class_of made) need ≡ true
  pub other : (need : ℕ) → covers list.other.0 need ≡ true → covers (other_bits mode) need ≡ true → covers made.other.0 need ≡ true

-- what both grant is granted
abbrev pub WhatBothGrantIsGranted : Type 0
WhatBothGrantIsGranted = (parent : Acl) (list : EntryList) (mode : ℕ) (kind : ObjectKind) → IsAcl parent → parent.default ≡ Some list → HasBoth mode list (inherited_acl parent mode kind).access

-- the sticky bit is the mode's, and a file's list has none
abbrev pub StickyBitsAreTheModes : Type 0
StickyBitsAreTheModes = (parent : Acl) (mode : ℕ) → ((inherited_acl parent mode Directory).sticky ≡ is_sticky mode) × ((inherited_acl parent mode File).sticky ≡ false)

-- ---- what a change leaves

abbrev pub StickyBitsStay : Type 0
StickyBitsStay = (change : AclChange) (kind : ObjectKind) (acl later : Acl) → acl_change change kind acl ≡ Ok later → later.sticky ≡ acl.sticky

-- a mode gives rights to owner, mask or group, and others: named entries and the default list stay, and where there is a mask the owning group's entry does
abbrev pub ModesLeaveTheRest : Type 0
ModesLeaveTheRest = (mode : ℕ) (kind : ObjectKind) (acl : Acl)
    → ((with_mode mode kind acl).access.users ≡ acl.access.users) × ((with_mode mode kind acl).access.groups ≡ acl.access.groups) × ((with_mode mode kind acl).default ≡ acl.default)
    × (is_some acl.access.mask ≡ true → (with_mode mode kind acl).access.group ≡ acl.access.group)

-- the spec has an entry of the scope, whatever it is for
abbrev pub speaks_of : Scope → List Entry → Bool
speaks_of scope spec = list_any (λ entry. same_scope entry.scope scope) spec

-- a list of which a spec says nothing stays as it is
abbrev pub ListsThatAreNotNamedStay : Type 0
ListsThatAreNotNamedStay = (change : AclChange) (kind : ObjectKind) (acl later : Acl) → has_spec change ≡ true → acl_change change kind acl ≡ Ok later
    → (speaks_of Access (spec_in change) ≡ false → later.access ≡ acl.access) × (speaks_of Default (spec_in change) ≡ false → later.default ≡ acl.default)

-- to empty the default list is done to every list, and leaves the access list
abbrev pub EmptyingDefaultListsLeavesAccess : Type 0
EmptyingDefaultListsLeavesAccess = (kind : ObjectKind) (acl : Acl) → fits_in_scope acl.access ≡ true → acl_change RemoveDefault kind acl ≡ Ok (record acl { default = None })

-- where named entries are cleared, the owner's, the owning group's and the others' stay
abbrev pub ClearedListsKeepTheirBases : Type 0
ClearedListsKeepTheirBases = (kind : ObjectKind) (acl later : Acl) → acl_change Clear kind acl ≡ Ok later
    → (later.access.user ≡ acl.access.user) × (later.access.group ≡ acl.access.group) × (later.access.other ≡ acl.access.other)

-- the entries of named users, and of named groups, in a list; where there is no default list, none
abbrev pub users_in : Scope → Acl → List NamedEntry
users_in Access acl = acl.access.users
users_in Default acl = option_map_or (λ list. list.users) acl.default []

abbrev pub groups_in : Scope → Acl → List NamedEntry
groups_in Access acl = acl.access.groups
groups_in Default acl = option_map_or (λ list. list.groups) acl.default []

-- a spec has an entry of this kind for a name
abbrev pub names : Scope → EntryKind → List ℕ → List Entry → Bool
names scope kind name spec = list_any (λ entry. is_entry_for scope kind entry && option_map_or (same name) entry.name false) spec

-- what the entry of a name grants
abbrev pub granted_to : List ℕ → List NamedEntry → Option Rights
granted_to name named = option_map (λ (entry : NamedEntry). entry.rights) (find (λ entry. same name entry.name) named)

-- changes that leave what they don't name
abbrev pub edits : AclChange → Bool
edits (Modify spec) = true
edits (Remove spec) = true
edits _ = false

-- who isn't named keeps his entry, or has none as before, in either list
abbrev pub WhoIsNotNamedKeepsHisEntry : Type 0
WhoIsNotNamedKeepsHisEntry = (change : AclChange) (kind : ObjectKind) (acl later : Acl) (scope : Scope) (name : List ℕ) → edits change ≡ true → acl_change change kind acl ≡ Ok later
    → (names scope User name (spec_in change) ≡ false → granted_to name (users_in scope later) ≡ granted_to name (users_in scope acl))
    × (names scope Group name (spec_in change) ≡ false → granted_to name (groups_in scope later) ≡ granted_to name (groups_in scope acl))

-- ---- what a change gives and takes

-- changes that give the entries which they name
abbrev pub gives : AclChange → Bool
gives (Set spec) = true
gives (Modify spec) = true
gives _ = false

-- who is named has an entry with the rights that are named last
abbrev pub NamedEntriesAreAsGiven : Type 0
NamedEntriesAreAsGiven = (change : AclChange) (kind : ObjectKind) (acl later : Acl) (scope : Scope) (name : List ℕ) (front behind : List Entry) (entry : Entry)
    → gives change ≡ true → spec_in change ≡ front ++ entry ∷ behind → entry.name ≡ Some name → acl_change change kind acl ≡ Ok later
    → (is_entry_for scope User entry ≡ true → names scope User name behind ≡ false → granted_to name (users_in scope later) ≡ Some (rights_granted entry))
    × (is_entry_for scope Group entry ≡ true → names scope Group name behind ≡ false → granted_to name (groups_in scope later) ≡ Some (rights_granted entry))

-- what is named for owner and others is theirs, and for the owning group, where there is a mask
abbrev pub BasesAreAsGiven : Type 0
BasesAreAsGiven = (change : AclChange) (kind : ObjectKind) (acl later : Acl) (granted : Rights) → gives change ≡ true → acl_change change kind acl ≡ Ok later
    → (base_rights Access User (spec_in change) ≡ Some granted → later.access.user ≡ granted)
    × (base_rights Access Group (spec_in change) ≡ Some granted → is_some later.access.mask ≡ true → later.access.group ≡ granted)
    × (base_rights Access Other (spec_in change) ≡ Some granted → later.access.other ≡ granted)

-- a mask that is named is the list's, and where nobody is named the owning group has no more
abbrev pub MasksAreAsGiven : Type 0
MasksAreAsGiven = (change : AclChange) (kind : ObjectKind) (acl later : Acl) (mask : Rights) → gives change ≡ true → base_rights Access Mask (spec_in change) ≡ Some mask → acl_change change kind acl ≡ Ok later
    → ((own : Rights) → later.access.mask ≡ Some own → own ≡ mask) × (later.access.mask ≡ None → covers mask.0 later.access.group.0 ≡ true)

-- what a new default list lacks it has of the access list that stands then
abbrev pub MissingBasesComeFromTheAccessList : Type 0
MissingBasesComeFromTheAccessList = (change : AclChange) (kind : ObjectKind) (acl later : Acl) (list : EntryList)
    → gives change ≡ true → acl.default ≡ None → acl_change change kind acl ≡ Ok later → later.default ≡ Some list
    → (base_rights Default User (spec_in change) ≡ None → list.user ≡ later.access.user)
    × (base_rights Default Group (spec_in change) ≡ None → list.group ≡ later.access.group)
    × (base_rights Default Other (spec_in change) ≡ None → list.other ≡ later.access.other)

-- who is taken away has no entry
abbrev pub RemovedNamesHaveNoEntry : Type 0
RemovedNamesHaveNoEntry = (spec : List Entry) (kind : ObjectKind) (acl later : Acl) (scope : Scope) (name : List ℕ) → acl_change (Remove spec) kind acl ≡ Ok later
    → (names scope User name spec ≡ true → granted_to name (users_in scope later) ≡ None) × (names scope Group name spec ≡ true → granted_to name (groups_in scope later) ≡ None)

-- all of these entries grant no more
abbrev pub all_within : ℕ → List NamedEntry → Bool
all_within wide named = list_all (λ entry. covers wide entry.rights.0) named

-- the group class has no more rights
abbrev pub IsWithin : ℕ → EntryList → Type 0
IsWithin wide list = (covers wide list.group.0 ≡ true) × (all_within wide list.users ≡ true) × (all_within wide list.groups ≡ true)

-- it has the right of this bit: 2 to read, 1 to write, 0 to execute or traverse
abbrev pub has_bit : ℕ → ℕ → Bool
has_bit bit granted = bit_at granted bit == 1

-- somebody of the group class has that right
abbrev pub somebody_has : ℕ → EntryList → Bool
somebody_has bit list =
    has_bit bit list.group.0 || (list_any (λ (entry : NamedEntry). has_bit bit entry.rights.0) list.users || list_any (λ (entry : NamedEntry). has_bit bit entry.rights.0) list.groups)

-- a mask that no spec names, of an access list of which the spec says something, takes nothing from the group class, and grants nothing that nobody in it has
abbrev pub UnnamedMasksAreTheUnion : Type 0
UnnamedMasksAreTheUnion = (change : AclChange) (kind : ObjectKind) (acl later : Acl) (mask : Rights)
    → speaks_of Access (spec_in change) ≡ true → base_rights Access Mask (spec_in change) ≡ None → acl_change change kind acl ≡ Ok later → later.access.mask ≡ Some mask
    → IsWithin mask.0 later.access × ((bit : ℕ) → has_bit bit mask.0 ≡ true → somebody_has bit later.access ≡ true)
