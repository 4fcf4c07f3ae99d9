-- Users with their groups, the superuser and the supergroup, and whether permissions are checked.
-- (HDFS Permissions Guide, "User Identity", "Group Mapping" and "The Super-User"; `dfs.permissions.enabled` of hdfs-default.xml.)
use Rattle.std.specs.Prelude.{ℕ, Bool, true, ◌||◌, List, [], if◌then◌else◌, Option, Some, None, unwrap_or}
use Rattle.std.specs.BTreeMap.{insert_entry}
use Rattle.std.specs.Map.{lookup, set_value}
use Rattle.std.specs.Option.{is_some}
use Rattle.hdfs_values.specs.Text.{same, text_cmp}
use Rattle.node_ids.specs.NodeId.{node_of}
use Rattle.refusals.specs.declared.refusal.Refusal.{Refusal}
use Rattle.refusals.specs.declared.refusal.Refusal.TheVariants.{BadName, Exists, NotFound}
use Rattle.hdfs_values.specs.Groups.{has_group}

-- each known user with the groups last set, in the order of the names, the two names that a namesystem opens with, and whether permission checking is on
pub record Users : Type 0 where
  pub known : List (List ℕ × List (List ℕ))
  pub superuser : List ℕ
  pub supergroup : List ℕ
  pub checking : Bool

-- the groups of a user; one that isn't known has none
abbrev pub groups_of : Users → List ℕ → List (List ℕ)
groups_of users user = unwrap_or (lookup (same user) users.known) []

-- the superuser, and the known members of the supergroup
abbrev pub is_super : Users → List ℕ → Bool
is_super users user = same user users.superuser || has_group (groups_of users user) users.supergroup

-- who asks: the name, the groups, and whether it is a superuser
pub record Caller : Type 0 where
  pub name : List ℕ
  pub groups : List (List ℕ)
  pub is_superuser : Bool

abbrev pub caller_of : Users → List ℕ → Caller
caller_of users user = record { name = user; groups = groups_of users user; is_superuser = is_super users user }

-- the caller, as he is judged where rights and the sticky bit alone are needed: while permission checking is off, with a superuser's rank
abbrev pub caller_for_rights : Users → List ℕ → Caller
caller_for_rights users user = record { name = user; groups = groups_of users user; is_superuser = if users.checking then is_super users user else true }

abbrev pub is_known : Users → List ℕ → Bool
is_known users user = is_some (lookup (same user) users.known)

-- a DataNode's name can't be a user's, and a user is made known once
abbrev pub refusal_of_new : Users → List ℕ → Option Refusal
refusal_of_new users user = if is_some (node_of user) then Some BadName else (if is_known users user then Some Exists else None)

abbrev pub refusal_of_known : Users → List ℕ → Option Refusal
refusal_of_known users user = if is_known users user then None else Some NotFound

abbrev pub with_user : Users → List ℕ → List (List ℕ) → Users
with_user users user groups = record users { known = insert_entry text_cmp users.known user groups }

abbrev pub with_groups : Users → List ℕ → List (List ℕ) → Users
with_groups users user groups = record users { known = set_value (same user) users.known groups }

abbrev pub with_checking : Users → Bool → Users
with_checking users on = record users { checking = on }
