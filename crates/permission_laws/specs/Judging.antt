-- Laws of the entry that decides for a caller: which entry of an object's list it is, and what it grants. They speak of the list as it
-- stands, and hold of every list, caller and need.
-- (HDFS Permissions Guide, "ACLs (Access Control Lists)"; POSIX access control lists, the access check.)
use Rattle.std.specs.Prelude.{◌≡◌, ℕ, Bool, true, false, ◌&&◌, List, ◌∷◌, ◌++◌, map, Option, None, unwrap_or}
use Rattle.std.specs.List.{list_any}
use Rattle.std.specs.Option.{option_map_or}
use Rattle.hdfs_values.specs.Text.{same}
use Rattle.hdfs_values.specs.Groups.{has_group}
use Rattle.permission_bits.specs.Rights.{covers}
use Rattle.permission_bits.specs.declared.rights.Rights.{Rights}
use Rattle.permission_specs.specs.declared.entry.Entry.{Entry}
use Rattle.permission_specs.specs.declared.entry.EntryKind.TheVariants.{User, Group, Other}
use Rattle.permission_specs.specs.declared.entry.Scope.TheVariants.{Access}
use Rattle.acl_entries.specs.declared.entry_list.NamedEntry.{NamedEntry}
use Rattle.acl_entries.specs.Acl.{Acl, base_entry, named_entry}
use Rattle.acl_entries.specs.JudgedEntry.{Chosen, judged_entry}

-- a caller with these groups needs rights on what has this owner, this group and this list
pub record Question : Type 0 where
  pub owner : List ℕ
  pub group : List ℕ
  pub acl : Acl
  pub caller : List ℕ
  pub groups : List (List ℕ)
  pub need : Rights

abbrev pub judgement_of : Question → Chosen
judgement_of asked = judged_entry asked.owner asked.group asked.acl asked.caller asked.groups asked.need

-- ---- whom the list is about

abbrev pub is_owner : Question → Bool
is_owner asked = same asked.caller asked.owner

-- the entry has the caller's name
abbrev pub has_name : Question → NamedEntry → Bool
has_name asked entry = same asked.caller entry.name

abbrev pub is_named_user : Question → Bool
is_named_user asked = list_any (has_name asked) asked.acl.access.users

-- the entries of groups as they stand: the owning group's, and then those of named groups
abbrev pub entries_of_groups : Question → List Entry
entries_of_groups asked = base_entry Access Group asked.acl.access.group ∷ map (named_entry Access Group) asked.acl.access.groups

-- the caller is in the entry's group: an entry without a name is the owning group's
abbrev pub is_in_group_of : Question → Entry → Bool
is_in_group_of asked entry = has_group asked.groups (unwrap_or entry.name asked.group)

abbrev pub is_group_member : Question → Bool
is_group_member asked = list_any (is_in_group_of asked) (entries_of_groups asked)

-- ---- what is granted

abbrev pub has_need : Question → Rights → Bool
has_need asked granted = covers granted.0 asked.need.0

-- the mask, where there is one, has all that is needed
abbrev pub mask_has_need : Question → Option Rights → Bool
mask_has_need asked mask = option_map_or (has_need asked) mask true

-- the entry decides, behind this mask or none: the need is granted exactly where both have all of it
pub record IsJudgedBy (asked : Question) (entry : Entry) (mask : Option Rights) : Type 0 where
  pub decides : (judgement_of asked).entry ≡ entry
  pub filters : (judgement_of asked).mask ≡ mask
  pub grants : (judgement_of asked).granted ≡ (has_need asked entry.rights && mask_has_need asked mask)

-- ---- owners and named users

abbrev pub OwnersAreUnmasked : Type 0
OwnersAreUnmasked = (asked : Question) → is_owner asked ≡ true → IsJudgedBy asked (base_entry Access User asked.acl.access.user) None

-- the first of a list that passes a test
pub record IsFirst {X : Type 0} (test : X → Bool) (list : List X) (x : X) : Type 0 where
  pub before : List X
  pub behind : List X
  pub stands : list ≡ before ++ x ∷ behind
  pub passes : test x ≡ true
  pub none_before : list_any test before ≡ false

-- whatever groups he is in; in a list that is kept no two entries have one name
abbrev pub NamedUsersComeBeforeGroups : Type 0
NamedUsersComeBeforeGroups = (asked : Question) (entry : NamedEntry) → is_owner asked ≡ false → IsFirst (has_name asked) asked.acl.access.users entry
    → IsJudgedBy asked (named_entry Access User entry) asked.acl.access.mask

-- ---- members of groups

-- neither the owner's entry nor that of a named user is the caller's
pub record HasNoUserEntry (asked : Question) : Type 0 where
  pub no_owner : is_owner asked ≡ false
  pub no_named_user : is_named_user asked ≡ false

-- the caller is in the entry's group, and its rights are all that is needed
abbrev pub group_has_need : Question → Entry → Bool
group_has_need asked entry = is_in_group_of asked entry && has_need asked entry.rights

-- judged by the entry of a group, also where none grants; and granted where one of his groups has all that is needed, and so has the mask
pub record IsJudgedByGroups (asked : Question) : Type 0 where
  pub decides : (judgement_of asked).entry.kind ≡ Group
  pub filters : (judgement_of asked).mask ≡ asked.acl.access.mask
  pub grants : (judgement_of asked).granted ≡ (list_any (group_has_need asked) (entries_of_groups asked) && mask_has_need asked asked.acl.access.mask)

abbrev pub GroupMembersAreNotOthers : Type 0
GroupMembersAreNotOthers = (asked : Question) → HasNoUserEntry asked → is_group_member asked ≡ true → IsJudgedByGroups asked

-- the first entry of his groups that has all that is needed is the one that grants it
abbrev pub FirstOfGroupsGrants : Type 0
FirstOfGroupsGrants = (asked : Question) (entry : Entry) → HasNoUserEntry asked → mask_has_need asked asked.acl.access.mask ≡ true
    → IsFirst (group_has_need asked) (entries_of_groups asked) entry → IsJudgedBy asked entry asked.acl.access.mask

-- and where none grants it, the first of them all is the one that denies
abbrev pub FirstOfGroupsDenies : Type 0
FirstOfGroupsDenies = (asked : Question) (entry : Entry) → HasNoUserEntry asked → (judgement_of asked).granted ≡ false
    → IsFirst (is_in_group_of asked) (entries_of_groups asked) entry → IsJudgedBy asked entry asked.acl.access.mask

-- ---- all others

abbrev pub OthersAreUnmasked : Type 0
OthersAreUnmasked = (asked : Question) → HasNoUserEntry asked → is_group_member asked ≡ false → IsJudgedBy asked (base_entry Access Other asked.acl.access.other) None

-- and nobody else is judged by their entry
abbrev pub OthersMatchNothingElse : Type 0
OthersMatchNothingElse = (asked : Question) → (judgement_of asked).entry.kind ≡ Other → HasNoUserEntry asked × (is_group_member asked ≡ false)
