-- The decision: the first need of an operation that fails, or none. A need of a component that isn't there is passed over,
-- and so is one whose condition doesn't hold.
-- (HDFS Permissions Guide, "Permission Checks" and "The Super-User"; `dfs.permissions.enabled` of hdfs-default.xml.)
use Rattle.std.specs.Prelude.{ℕ, Bool, true, false, ◌||◌, List, [], ◌∷◌, if◌then◌else◌, Option, None, map}
use Rattle.std.specs.List.{flat_map}
use Rattle.std.specs.Option.{option_to_list}
use Rattle.hdfs_types.specs.declared.op.Op.{Op}
use Rattle.hdfs_types.specs.Request.{is_for_nodes}
use Rattle.principals.specs.Users.{Users, Caller, caller_of}
use Rattle.namespace_rows.specs.declared.row.Row.{Row}
use Rattle.required_rights.specs.declared.need.Need.{Need}
use Rattle.required_rights.specs.declared.need.By.TheVariants as by
use Rattle.required_rights.specs.declared.demand.Role.{Role}
use Rattle.required_rights.specs.declared.demand.Role.TheVariants.{Traversed, Ancestor, Parent, Final, SubTree}
use Rattle.required_rights.specs.declared.demand.Condition.{Condition}
use Rattle.required_rights.specs.declared.demand.Condition.TheVariants.{Always, WhereMissing, WhereDirectory, WhereFile, WhereSticky, WhereOwnedByAnother}
use Rattle.flat_rows.specs.declared.trail.Judged.{Judged}
use Rattle.namespace_rows.specs.First.{first_answer}
use Rattle.namespace_rows.specs.Rows.{is_missing, has_directory, has_file, has_sticky_parent, has_other_owner, row_at, directories_above, directories_beneath, ancestor, directory_of, owner_above}
use Rattle.required_rights.specs.RequiredRights.{Demand, required_rights, is_judged_always, judged_needs}
use Rattle.flat_rows.specs.Denial.{Decided, Denial, need_decided, denial_at}

-- the rows of the components that have a role on a path, in path order
abbrev pub rows_in_role : Role → List (List ℕ) → List Row → List Row
rows_in_role Traversed path rows = directories_above path rows
rows_in_role Ancestor path rows = option_to_list (ancestor path rows)
rows_in_role Parent path rows = option_to_list (directory_of path rows)
rows_in_role Final path rows = option_to_list (row_at path rows)
rows_in_role SubTree path rows = directories_beneath path rows

abbrev pub condition_holds : Condition → List (List ℕ) → List Row → Bool
condition_holds Always path rows = true
condition_holds WhereMissing path rows = is_missing path rows
condition_holds WhereDirectory path rows = has_directory path rows
condition_holds WhereFile path rows = has_file path rows
condition_holds WhereSticky path rows = has_sticky_parent path rows
condition_holds (WhereOwnedByAnother user) path rows = has_other_owner user path rows

-- the components that a demand is judged at
abbrev pub components : List Row → Demand → List Row
components rows demand = if condition_holds demand.condition demand.path rows then rows_in_role demand.role demand.path rows else []

-- a need at a component, and the owner of the directory that holds it
pub record Ask : Type 0 where
  pub need : Need
  pub row : Row
  pub above : List ℕ

abbrev pub ask_at : List Row → Need → Row → Ask
ask_at rows need row = record { need = need; row = row; above = owner_above row rows }

abbrev pub asks_of : List Row → Demand → List Ask
asks_of rows demand = map (ask_at rows demand.need) (components rows demand)

-- a superuser meets every need, where his rank is of use
abbrev pub ask_decided : Caller → Ask → Decided
ask_decided caller ask = if caller.is_superuser then record { by = by.Superuser; granted = true } else need_decided ask.need ask.row ask.above caller.name caller.groups

abbrev pub denial_of : Caller → Ask → Option Denial
denial_of caller ask = if caller.is_superuser then None else denial_at ask.need ask.row ask.above caller.name caller.groups

-- the first denial that demands meet
abbrev pub denial_among : List Row → Caller → List Demand → Option Denial
denial_among rows caller demands = first_answer (denial_of caller) (flat_map (asks_of rows) demands)

-- who asks for an operation: to be a superuser is of no use for one that is for DataNodes alone
abbrev pub without_rank_where : Bool → Caller → Caller
without_rank_where true caller = record caller { is_superuser = false }
without_rank_where false caller = caller

abbrev pub asking_caller : Users → List ℕ → Op → Caller
asking_caller users caller op = without_rank_where (is_for_nodes op) (caller_of users caller)

-- While permission checking is off, needs that aren't judged then fail nobody.
abbrev pub decision : List Row → Users → List ℕ → Op → Option Denial
decision rows users caller op = denial_among rows (asking_caller users caller op) (judged_needs users.checking (required_rights op))

abbrev pub ask_judged : Caller → Ask → Judged
ask_judged caller ask = let what = ask_decided caller ask in record { path = ask.row.path; need = ask.need; by = what.by; granted = what.granted }

-- what isn't judged
abbrev pub ask_passed : Ask → Judged
ask_passed ask = record { path = ask.row.path; need = ask.need; by = by.Unchecked; granted = true }

-- a demand at each of its components, whether it is judged or not
abbrev pub demand_judged : Bool → List Row → Caller → Demand → List Judged
demand_judged checking rows caller demand = map (if checking || is_judged_always demand.enforcement then ask_judged caller else ask_passed) (asks_of rows demand)

-- up to the first that isn't granted
abbrev pub up_to_denied : List Judged → List Judged
up_to_denied [] = []
up_to_denied (need ∷ needs) = need ∷ (if need.granted then up_to_denied needs else [])

-- the needs in their order, up to the first that fails
abbrev pub trail : List Row → Users → List ℕ → Op → List Judged
trail rows users caller op = up_to_denied (flat_map (demand_judged users.checking rows (asking_caller users caller op)) (required_rights op))
