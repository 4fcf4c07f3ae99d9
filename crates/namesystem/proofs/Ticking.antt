-- What a tick leaves, where it is known which clients' leases are past the hard limit.
use Rattle.std.proofs.Common.{◌≡◌, ℕ, Bool, List, map, length, Option, Some, None, refl, sym, ap, ◌∙◌}
use Rattle.std.specs.List.{IsDistinct, filter_map}
use mathlib.Core.Path.{fun_ext}
use Rattle.hdfs_values.specs.Text.{same}
use Rattle.hdfs_types.specs.declared.op.Op.TheVariants as op
use Rattle.hdfs_types.specs.declared.reply.Expired.{Expired}
use Rattle.hdfs_types.specs.declared.reply.Reply.TheVariants as reply
use Rattle.block_map.specs.BlockFacts.{Blocks}
use Rattle.block_map.specs.BlockEffects.{recoveries_begun, with_recoveries_begun}
use Rattle.recovery_queue.specs.declared.begun.BegunRecovery.{BegunRecovery}
use Rattle.lease_manager.specs.Leases.{renewals_past_hard, clients}
use Rattle.lease_manager.specs.declared.writers.Writers.{Writers}
use Rattle.namespace_rows.specs.declared.row.Row.{Row}
use Rattle.flat_rows.specs.declared.verdict.Verdict.{Verdict}
use Rattle.flat_rows.specs.declared.verdict.Verdict.TheVariants.{Done, Denied}
use Rattle.flat_rows.specs.declared.takeover.Sought.{Sought}
use Rattle.flat_rows.specs.Denial as denied
use Rattle.flat_rows.specs.Decision.{decision}
use Rattle.flat_rows.specs.Facts.{Facts}
use Rattle.flat_rows.specs.Outcome.{denied_or_outcome}
use Rattle.flat_rows.specs.Takeover.{sought_of, is_overdue, taken_row}
use Rattle.history.specs.ClockAndLease.{is_past_hard, state_at}
use Rattle.namesystem.specs.declared.namesystem.Namesystem.{Namesystem}
use Rattle.file_effects.specs.Effected.{IsExact}
use Rattle.file_takeovers.specs.Expiry.{is_among, blocks_to_recover, closed_of, IsExpired}
use Rattle.file_takeovers.proofs.Expiring.{among_is}
use Rattle.namesystem.specs.Performed.{IsPerformed, facts_in}
use Rattle.namesystem.proofs.Performing.{step_of, lease_is, changing, performed_not_done}

-- the files that are taken, where these clients' leases are past the limit
module _ (facts : Facts) (rows : List Row) where
  abbrev files_of : (List ℕ → Bool) → List Sought
  files_of is_past = filter_map (λ row. sought_of is_past (is_overdue facts) row.file) rows

  abbrev begun_of : (List ℕ → Bool) → List BegunRecovery
  begun_of is_past = recoveries_begun facts.blocks (blocks_to_recover (files_of is_past)) facts.now

  abbrev told_of : (List ℕ → Bool) → Expired
  told_of is_past = record { closed = length (closed_of (files_of is_past)); recovering = length (begun_of is_past) }

  abbrev rows_by : (List ℕ → Bool) → List Row
  rows_by is_past = map (λ row. taken_row (begun_of is_past) facts.now (sought_of is_past (is_overdue facts) row.file) row) rows

  abbrev blocks_by_all : (List ℕ → Bool) → Blocks
  blocks_by_all is_past = with_recoveries_begun facts.blocks (blocks_to_recover (files_of is_past)) facts.now

pub performed_tick : (last : List ℕ → Option ℕ) (now : ℕ) (caller : List ℕ) (old : Namesystem) (tree : List Row) (blocks : Blocks) (writers : Writers) (expired : Expired) (past : List (List ℕ)) → decision old.tree old.users caller op.Tick ≡ None
    → past ≡ clients (renewals_past_hard old.writers.leases.limits now old.writers.leases.renewals) → IsDistinct same (clients old.writers.leases.renewals)
    → IsExpired last (record { past = past; retry = old.blocks.retry; now = now }) old.tree old.blocks expired tree blocks writers → IsExact last old.tree old.writers
    → IsPerformed last now caller op.Tick old (Done (reply.Expired expired)) (record old { tree = tree; blocks = blocks; writers = writers })
performed_tick last now caller old tree blocks writers expired past granted past_is distinct left exact =
    let limits = old.writers.leases.limits in
    let facts : Facts = facts_in last now old in
    let new : Namesystem = record old { tree = tree; blocks = blocks; writers = writers } in
    let agree : is_among past ≡ facts.leases.is_past_hard =
    fun_ext (λ client. ap (λ p. is_among p client) past_is
    ∙ (among_is limits now client old.writers.leases.renewals distinct ∙ ap (λ m. is_past_hard (state_at limits now m)) (sym (lease_is last old.tree old.writers client exact)))) in
    record {
      stepped =
          step_of (denied_or_outcome facts old.tree old.users caller op.Tick None) (Done (reply.Expired expired)) tree old.users
          (ap (λ told. Done (reply.Expired told)) (left.told ∙ ap (told_of facts old.tree) agree)) (left.tree ∙ ap (rows_by facts old.tree) agree) refl
          ∙ sym (ap (denied_or_outcome facts old.tree old.users caller op.Tick) granted);
      ring = refl;
      blocks = left.blocks_are ∙ ap (blocks_by_all facts old.tree) agree;
      exact = left.exact;
      unchanged = changing old new (Done (reply.Expired expired)) (Done (reply.Expired expired)) refl refl;
    }

pub denied_tick : (last : List ℕ → Option ℕ) (now : ℕ) (caller : List ℕ) (old : Namesystem) (denial : denied.Denial) → decision old.tree old.users caller op.Tick ≡ Some denial
    → IsExact last old.tree old.writers → IsPerformed last now caller op.Tick old (Denied denial) old
denied_tick last now caller old denial is exact =
    let facts = facts_in last now old in
    performed_not_done last now caller op.Tick old (Denied denial) (sym (ap (λ d. (denied_or_outcome facts old.tree old.users caller op.Tick d).verdict) is)) refl exact
