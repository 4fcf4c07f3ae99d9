-- What a request leaves of the namespace, the users, the clients who have files open, the keys, and the blocks and their nodes.
use Rattle.std.specs.Prelude.{◌≡◌, ℕ, false, List, Option}
use Rattle.hdfs_types.specs.declared.op.Op.{Op}
use Rattle.flat_rows.specs.declared.verdict.Verdict.{Verdict}
use Rattle.flat_rows.specs.Facts.{Facts}
use Rattle.flat_rows.specs.Outcome.{step}
use Rattle.history.specs.ClockAndLease.{renews, lease_in}
use Rattle.history.specs.Keys.{ring_by}
use Rattle.history.specs.Blocks.{blocks_by}
use Rattle.history.specs.State.{facts_with}
use Rattle.lease_manager.specs.Writers.{IsAlike}
use Rattle.block_map.specs.BlockFacts.{Blocks}
use Rattle.namespace_rows.specs.declared.row.Row.{Row}
use Rattle.file_effects.specs.Effected.{IsExact, renewed_where}
use Rattle.file_takeovers.specs.Expiry.{AreDue}
pub use Rattle.file_takeovers.specs.Recovered.{RecoversOnce, recovers_at}
use Rattle.namesystem.specs.declared.namesystem.Namesystem.{Namesystem}
use Rattle.namesystem.specs.Told.{may_change}

-- how leases, keys, blocks and nodes stand, by the last renewals of clients
abbrev pub facts_in : (List ℕ → Option ℕ) → ℕ → Namesystem → Facts
facts_in last now system = facts_with system.writers.leases.limits now (lease_in last system.tree) system.ring system.blocks

-- what is known of recoveries: the files whose recovery is overdue are no more than the blocks whose recovery is, and no two files recover
-- the same block
pub record KnowsRecoveries (now : ℕ) (rows : List Row) (blocks : Blocks) : Type 0 where
  pub due : AreDue now rows blocks
  pub once : (block : ℕ) → RecoversOnce block rows

-- all is as before; only spare capacity may differ
pub record IsUndone (old new : Namesystem) : Type 0 where
  pub tree : new.tree ≡ old.tree
  pub users : new.users ≡ old.users
  pub writers : IsAlike old.writers new.writers
  pub ring : new.ring ≡ old.ring
  pub blocks : new.blocks ≡ old.blocks

-- the verdict, and what is left, are those of the step
pub record IsPerformed (last : List ℕ → Option ℕ) (now : ℕ) (caller : List ℕ) (op : Op) (old : Namesystem) (verdict : Verdict) (new : Namesystem) : Type 0 where
  pub stepped : record { verdict = verdict; rows = new.tree; users = new.users } ≡ step (facts_in last now old) old.tree old.users caller op
  pub ring : new.ring ≡ ring_by op verdict now old.ring
  pub blocks : new.blocks ≡ blocks_by (facts_in last now old) op caller verdict old.tree old.blocks
  pub exact : IsExact (renewed_where (renews op verdict) caller now last) new.tree new.writers
  pub unchanged : may_change verdict ≡ false → IsUndone old new
