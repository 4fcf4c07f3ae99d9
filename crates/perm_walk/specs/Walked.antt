-- What a walk finds: the first need that fails, or where none does how far paths lead.
use Rattle.std.specs.Prelude.{◌≡◌, ℕ, List, Some, None, IfSome}
use Rattle.std.specs.List.{All}
use Rattle.permission_bits.specs.declared.rights.Rights as bits
use Rattle.file_paths.specs.Path.{IsPath}
use Rattle.principals.specs.Users.{Caller}
use Rattle.namespace_rows.specs.declared.row.Row.{Row}
use Rattle.required_rights.specs.declared.demand.Role.TheVariants.{Traversed}
use Rattle.required_rights.specs.declared.demand.Condition.TheVariants.{Always}
use Rattle.required_rights.specs.declared.need.Need.TheVariants.{Rights}
use Rattle.required_rights.specs.RequiredRights.{Demand}
use Rattle.flat_rows.specs.Decision.{denial_among}
use Rattle.perm_walk.specs.declared.reach.Reach.{Reach}
use Rattle.perm_walk.specs.declared.judge.Descent.{Descent}
use Rattle.perm_walk.specs.declared.walk.Walked.{Walked}
use Rattle.perm_walk.specs.declared.walk.Walked.TheVariants as one
use Rattle.perm_walk.specs.declared.walk.WalkedBoth.{WalkedBoth}
use Rattle.perm_walk.specs.declared.walk.WalkedBoth.TheVariants as both
use Rattle.perm_walk.specs.Reached.{IsReach}

-- each of the needs is on the path
abbrev pub AreOn : List (List ℕ) → List Demand → Type 0
AreOn path demands = All (λ demand. demand.path ≡ path) demands

-- the need is to be granted rights by each directory above its path
pub record IsTraversal (asked : bits.Rights) (demand : Demand) : Type 0 where
  pub role : demand.role ≡ Traversed
  pub condition : demand.condition ≡ Always
  pub need : demand.need ≡ Rights asked

-- a path, and how far it leads where that is known
pub record IsDescent (rows : List Row) (descent : Descent) : Type 0 where
  pub within : IsPath descent.path.now
  pub known : IfSome descent.reach (IsReach descent.path.now rows)

-- no need fails, and the path leads there
pub record IsGrantedReach (path : List (List ℕ)) (rows : List Row) (caller : Caller) (needs : List Demand) (reach : Reach) : Type 0 where
  pub granted : denial_among rows caller needs ≡ None
  pub leads : IsReach path rows reach

abbrev pub IsWalked : List (List ℕ) → List Row → Caller → List Demand → Walked → Type 0
IsWalked path rows caller needs (one.Denied denial) = denial_among rows caller needs ≡ Some denial
IsWalked path rows caller needs (one.Reached reach) = IsGrantedReach path rows caller needs reach

-- the same for two paths
pub record AreGranted (from to : List (List ℕ)) (rows : List Row) (caller : Caller) (needs : List Demand) (first second : Reach) : Type 0 where
  pub granted : denial_among rows caller needs ≡ None
  pub first_leads : IsReach from rows first
  pub second_leads : IsReach to rows second

abbrev pub IsWalkedBoth : List (List ℕ) → List (List ℕ) → List Row → Caller → List Demand → WalkedBoth → Type 0
IsWalkedBoth from to rows caller needs (both.Denied denial) = denial_among rows caller needs ≡ Some denial
IsWalkedBoth from to rows caller needs (both.Reached first second) = AreGranted from to rows caller needs first second
