-- What decides about a need at a component, and a denial: the need that failed, what decided, the row of the component,
-- and for whom it was judged.
-- (HDFS Permissions Guide, "Permission Checks" and "The Sticky Bit".)
use Rattle.std.specs.Prelude.{◌≡◌, ℕ, Bool, false, ◌||◌, List, [], if◌then◌else◌, Option, Some, None}
use Rattle.std.specs.Option.{is_some}
use Rattle.node_ids.specs.NodeId.{node_of}
use Rattle.hdfs_values.specs.Text.{same}
use Rattle.hdfs_values.specs.Groups.{has_group}
use Rattle.acl_entries.specs.JudgedEntry.{Chosen}
use Rattle.namespace_rows.specs.Judgement.{judgement}
use Rattle.namespace_rows.specs.declared.row.Row.{Row}
use Rattle.required_rights.specs.declared.need.Need.{Need}
use Rattle.required_rights.specs.declared.need.Need.TheVariants as need
use Rattle.required_rights.specs.declared.need.By.{By}
use Rattle.required_rights.specs.declared.need.By.TheVariants as by

-- what decides, and whether the need is met
pub record Decided : Type 0 where
  pub by : By
  pub granted : Bool

abbrev pub by_judgement : Chosen → Decided
by_judgement judged = record { by = by.Entry judged.entry judged.mask; granted = judged.granted }

-- for a caller whose rank is of no use; `above` is the owner of the directory that holds the component
abbrev pub need_decided : Need → Row → List ℕ → List ℕ → List (List ℕ) → Decided
need_decided (need.Rights asked) row above caller groups = by_judgement (judgement row caller groups asked)
need_decided need.Sticky row above caller groups = record { by = by.Owners row.owner above; granted = same caller row.owner || same caller above }
need_decided need.Owner row above caller groups = record { by = by.Owner row.owner; granted = same caller row.owner }
need_decided (need.Member group) row above caller groups = record { by = by.Group group; granted = has_group groups group }
need_decided need.Superuser row above caller groups = record { by = by.Superuser; granted = false }
need_decided need.Node row above caller groups = record { by = by.Node; granted = is_some (node_of caller) }

pub record Denial : Type 0 where
  pub need : Need
  pub by : By
  pub row : Row
  pub caller : List ℕ
  pub groups : List (List ℕ)

-- the denial of a need at a row, where it isn't met
abbrev pub denial_at : Need → Row → List ℕ → List ℕ → List (List ℕ) → Option Denial
denial_at need row above caller groups =
    let decided = need_decided need row above caller groups in
    if decided.granted then None else Some (record { need = need; by = decided.by; row = row; caller = caller; groups = groups })

-- the owner of the directory that holds the component, where what decided names one
abbrev pub named_above : By → List ℕ
named_above (by.Owners owner above) = above
named_above _ = []

-- the row, judged for the caller with these groups, is what denies the need
abbrev pub IsDenied : Denial → Type 0
IsDenied denied =
    need_decided denied.need denied.row (named_above denied.by) denied.caller denied.groups ≡ record { by = denied.by; granted = false }
