-- The needs of each operation, in the order in which they are judged.
-- (HDFS Permissions Guide, "Permission Checks".)
use Rattle.std.specs.Prelude.{ℕ, Bool, true, false, List, [], ◌∷◌, ◌++◌, filter, Option, Some, None}
use Rattle.permission_bits.specs.Rights.{rights}
use Rattle.permission_bits.specs.declared.rights.Rights as bits
use Rattle.hdfs_types.specs.declared.op.Op.{Op}
use Rattle.hdfs_types.specs.declared.op.Op.TheVariants as op
use Rattle.required_rights.specs.declared.need.Need.{Need}
use Rattle.required_rights.specs.declared.need.Need.TheVariants.{Rights, Sticky, Owner, Member, Superuser, Node}
use Rattle.required_rights.specs.declared.demand.Role.{Role}
use Rattle.required_rights.specs.declared.demand.Role.TheVariants.{Traversed, Ancestor, Parent, Final, SubTree}
use Rattle.required_rights.specs.declared.demand.Condition.{Condition}
use Rattle.required_rights.specs.declared.demand.Condition.TheVariants.{Always, WhereMissing, WhereDirectory, WhereFile, WhereSticky, WhereOwnedByAnother}
use Rattle.required_rights.specs.declared.demand.Enforcement.{Enforcement}
use Rattle.required_rights.specs.declared.demand.Enforcement.TheVariants as enforced

-- a need of the components that have a role on a path, judged where the condition holds for the path
pub record Demand : Type 0 where
  pub role : Role
  pub path : List (List ℕ)
  pub condition : Condition
  pub need : Need
  pub enforcement : Enforcement

-- rights on the components of a path, while permission checking is on
abbrev pub rights_demand : Role → List (List ℕ) → Condition → bits.Rights → Demand
rights_demand role path condition asked = record { role = role; path = path; condition = condition; need = Rights asked; enforcement = enforced.WhileChecking }

-- a need other than rights, on a path itself
abbrev pub demand_on : List (List ℕ) → Condition → Need → Enforcement → Demand
demand_on path condition need enforcement = record { role = Final; path = path; condition = condition; need = need; enforcement = enforcement }

-- to traverse each directory above the path
abbrev pub traversal : List (List ℕ) → Demand
traversal path = rights_demand Traversed path Always (rights 1)

-- the same, also while permission checking is off
abbrev pub strict_traversal : List (List ℕ) → Demand
strict_traversal path = record { role = Traversed; path = path; condition = Always; need = Rights (rights 1); enforcement = enforced.Always }

-- in a directory with the sticky bit, to own what has the path, or that directory
abbrev pub sticky_bit : List (List ℕ) → Demand
sticky_bit path = demand_on path WhereSticky Sticky enforced.WhileChecking

-- to write in the last existing component above a path that is missing
abbrev pub creation : List (List ℕ) → Demand
creation path = rights_demand Ancestor path WhereMissing (rights 2)

-- to write in the last existing component above the path
abbrev pub write_above : List (List ℕ) → Demand
write_above path = rights_demand Ancestor path Always (rights 2)

-- to write in the directory that holds the path
abbrev pub removal : List (List ℕ) → Demand
removal path = rights_demand Parent path Always (rights 2)

-- rights on what has the path
abbrev pub access : bits.Rights → List (List ℕ) → Demand
access asked path = rights_demand Final path Always asked

-- to write the file that is to be replaced
abbrev pub overwriting : List (List ℕ) → Demand
overwriting path = rights_demand Final path WhereFile (rights 2)

abbrev pub over_demands : List (List ℕ) → Bool → List Demand
over_demands path true = overwriting path ∷ []
over_demands path false = []

-- to read and to traverse the directory itself
abbrev pub listing : List (List ℕ) → Demand
listing path = rights_demand Final path WhereDirectory (rights 5)

-- rights on the directory at the path and on all directories beneath it
abbrev pub sub_tree : bits.Rights → List (List ℕ) → Demand
sub_tree asked path = rights_demand SubTree path Always asked

-- to own what has the path
abbrev pub ownership : List (List ℕ) → Demand
ownership path = demand_on path Always Owner enforced.Always

-- to be a superuser where another than this user owns the path
abbrev pub giving_away : List (List ℕ) → List ℕ → Demand
giving_away path user = demand_on path (WhereOwnedByAnother user) Superuser enforced.Always

-- to be among the members of a group
abbrev pub membership : List (List ℕ) → List ℕ → Demand
membership path group = demand_on path Always (Member group) enforced.Always

-- to be a superuser; what has no path stands at the root
abbrev pub administration : Demand
administration = demand_on [] Always Superuser enforced.Always

-- to be the principal of a DataNode; what has no path stands at the root
abbrev pub node_identity : Demand
node_identity = demand_on [] Always Node enforced.Always

-- what giving a path another owner and another group needs
abbrev pub owner_demands : List (List ℕ) → Option (List ℕ) → List Demand
owner_demands path None = []
owner_demands path (Some user) = giving_away path user ∷ []

abbrev pub group_demands : List (List ℕ) → Option (List ℕ) → List Demand
group_demands path None = []
group_demands path (Some group) = membership path group ∷ []

-- in the order: traversal, sticky bit, ancestor, parent, final, sub-tree, owner, superuser, member
abbrev pub required_rights : Op → List Demand
required_rights (op.Mkdirs path mode) = traversal path ∷ creation path ∷ []
required_rights (op.Stat path) = traversal path ∷ []
required_rights (op.List path) = traversal path ∷ listing path ∷ []
required_rights (op.Summary path) = traversal path ∷ sub_tree (rights 5) path ∷ []
required_rights (op.Delete path recursive) = traversal path ∷ sticky_bit path ∷ removal path ∷ sub_tree (rights 7) path ∷ []
required_rights (op.Rename from to) = traversal from ∷ traversal to ∷ sticky_bit from ∷ write_above to ∷ removal from ∷ []
required_rights (op.SetMode path mode) = strict_traversal path ∷ ownership path ∷ []
required_rights (op.SetOwner path owner group) = strict_traversal path ∷ ownership path ∷ (owner_demands path owner ++ group_demands path group)
required_rights (op.GetAcl path) = traversal path ∷ []
required_rights (op.SetAcl path change) = strict_traversal path ∷ ownership path ∷ []
required_rights (op.AddUser user groups) = administration ∷ []
required_rights (op.SetGroups user groups) = administration ∷ []
required_rights (op.SetChecking on) = administration ∷ []
required_rights (op.Create path mode replication over) = traversal path ∷ write_above path ∷ over_demands path over
required_rights (op.Append path) = traversal path ∷ access (rights 2) path ∷ []
required_rights (op.AddBlock path last) = traversal path ∷ []
required_rights (op.Complete path last) = traversal path ∷ []
required_rights (op.Open path) = traversal path ∷ access (rights 4) path ∷ []
required_rights (op.SetReplication path replication) = traversal path ∷ access (rights 2) path ∷ []
required_rights (op.RollKey key) = administration ∷ []
required_rights op.Renew = []
required_rights op.Tick = administration ∷ []
required_rights op.Heartbeat = node_identity ∷ []
required_rights (op.Reported replica) = node_identity ∷ []
required_rights (op.CommitRecovery recovered) = node_identity ∷ []

-- ---- while permission checking is off

abbrev pub is_judged_always : Enforcement → Bool
is_judged_always enforced.WhileChecking = false
is_judged_always enforced.Always = true

-- all needs while checking is on, else those alone that are judged always
abbrev pub judged_needs : Bool → List Demand → List Demand
judged_needs true needs = needs
judged_needs false needs = filter (λ demand. is_judged_always demand.enforcement) needs
