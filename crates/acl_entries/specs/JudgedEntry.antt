-- The entry of an object's list that decides for a caller, and whether it grants the rights that are needed.
-- (HDFS Permissions Guide, "ACLs (Access Control Lists)": the algorithm of the access check.)
use Rattle.std.specs.Prelude.{ℕ, Bool, List, [], ◌∷◌, ◌++◌, map, filter, if◌then◌else◌, Option, None, unwrap_or}
use Rattle.std.specs.List.{find, slice_get}
use Rattle.std.specs.Option.{option_map_or, option_or}
use Rattle.hdfs_values.specs.Text.{same}
use Rattle.hdfs_values.specs.Groups.{has_group}
use Rattle.permission_bits.specs.Rights.{covers}
use Rattle.permission_bits.specs.declared.rights.Rights.{Rights}
use Rattle.permission_specs.specs.declared.entry.Entry.{Entry}
use Rattle.permission_specs.specs.declared.entry.EntryKind.TheVariants.{User, Group, Other}
use Rattle.permission_specs.specs.declared.entry.Scope.TheVariants.{Access}
use Rattle.acl_entries.specs.Acl.{Acl, EntryList, intersection, base_entry, named_entry}

-- the entry, the mask where one filters it, and whether they grant what is needed
pub record Chosen : Type 0 where
  pub entry : Entry
  pub mask : Option Rights
  pub granted : Bool

-- what an entry leaves behind the mask, where there is one
abbrev pub effective_rights : Option Rights → Rights → Rights
effective_rights mask granted = option_map_or (intersection granted) mask granted

abbrev pub judged_by : Entry → Option Rights → Rights → Chosen
judged_by entry mask need = record { entry = entry; mask = mask; granted = covers (effective_rights mask entry.rights).0 need.0 }

-- the entries of the groups that the caller is in: the owning group's, and then those of named groups in the order of their names
abbrev pub group_entries : List ℕ → EntryList → List (List ℕ) → List Entry
group_entries group list groups =
    (if has_group groups group then base_entry Access Group list.group ∷ [] else [])
    ++ map (named_entry Access Group) (filter (λ entry. has_group groups entry.name) list.groups)

-- the first judgement that grants, else the first
abbrev pub best_judgement : List Chosen → Option Chosen
best_judgement judgements = option_or (find (λ judgement. judgement.granted) judgements) (slice_get judgements 0)

-- among groups and others: where groups match, the first that grants decides, else the first of them; and others only where none does
abbrev pub judged_by_groups : List ℕ → EntryList → List (List ℕ) → Rights → Chosen
judged_by_groups group list groups need =
    unwrap_or (best_judgement (map (λ entry. judged_by entry list.mask need) (group_entries group list groups)))
    (judged_by (base_entry Access Other list.other) None need)

-- the owner's entry for the owner, else that of a user of the caller's name, else those of groups and others. The mask filters
-- all but the owner's and the others'.
abbrev pub judged_entry : List ℕ → List ℕ → Acl → List ℕ → List (List ℕ) → Rights → Chosen
judged_entry owner group acl caller groups need =
    if same caller owner then judged_by (base_entry Access User acl.access.user) None need
    else option_map_or (λ entry. judged_by (named_entry Access User entry) acl.access.mask need)
    (find (λ entry. same caller entry.name) acl.access.users)
    (judged_by_groups group acl.access groups need)
