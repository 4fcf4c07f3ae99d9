-- Files that are taken from the clients who have them open: by an append once the holder's lease isn't live, by a tick once it is past the
-- hard limit. Such a file is closed, but where the length of its last block isn't committed: then this block is recovered first, and a
-- recovery that lasts too long begins anew.
-- (HDFS Architecture, "The File System Namespace"; HDFS-265, "Lease recovery" and "Block recovery"; the limits are this project's choice.)
use Rattle.std.specs.Prelude.{ℕ, ◌-◌, ◌==◌, Bool, ◌||◌, not, nat_lt, List, map, filter, if◌then◌else◌, Option, Some, None}
use Rattle.std.specs.List.{filter_map, last_or}
use Rattle.std.specs.Option.{is_some}
use Rattle.hdfs_values.specs.Text.{same}
use Rattle.file_states.specs.declared.state.FileState.{FileState}
use Rattle.file_states.specs.declared.state.FileState.TheVariants.{Closed, Open, Recovering}
use Rattle.refusals.specs.declared.refusal.Refusal.{Refusal}
use Rattle.refusals.specs.declared.refusal.Refusal.TheVariants.{LeaseHeld, RecoveryRunning}
use Rattle.hdfs_types.specs.declared.reply.Reply.{Reply}
use Rattle.hdfs_types.specs.declared.reply.Reply.TheVariants as reply
use Rattle.recovery_queue.specs.declared.begun.BegunRecovery.{BegunRecovery}
use Rattle.block_map.specs.BlockFacts.{Blocks, refused_recovery}
use Rattle.block_map.specs.BlockEffects.{recoveries_begun}
use Rattle.namespace_rows.specs.declared.file_row.FileRow.{FileRow}
use Rattle.namespace_rows.specs.declared.row.Row.{Row}
use Rattle.namespace_rows.specs.declared.row.Change.TheVariants as change
use Rattle.file_blocks.specs.Blocks.{unfinished_block}
use Rattle.flat_rows.specs.BlockOutcome.{refused_by}
use Rattle.namespace_rows.specs.Changes.{with_change}
use Rattle.flat_rows.specs.Facts.{Facts}
use Rattle.flat_rows.specs.declared.takeover.Sought.{Sought}

-- ---- what has to be recovered

abbrev pub unfinished_of : Option FileRow → Option ℕ
unfinished_of None = None
unfinished_of (Some file) = unfinished_block file.blocks

abbrev pub unfinished_at : Option Row → Option ℕ
unfinished_at None = None
unfinished_at (Some row) = unfinished_of row.file

-- a stamp has to be left, and a node that is to hold the block to be live
abbrev pub refused_taking : Blocks → ℕ → Option ℕ → Option Refusal
refused_taking blocks now None = None
refused_taking blocks now (Some block) = refused_by (refused_recovery blocks block now)

-- a file that is taken is closed, or its last block is recovered from now on under the next stamp
abbrev pub taken_state : Blocks → ℕ → Option ℕ → FileState
taken_state blocks now None = Closed
taken_state blocks now (Some block) = Recovering block blocks.known.next_stamp now

-- ---- an append

-- a file that another has open can be taken once his lease isn't live
abbrev pub refused_state : Facts → List ℕ → Option ℕ → FileState → Option Refusal
refused_state facts caller block Closed = None
refused_state facts caller block (Recovering own stamp begun) = Some RecoveryRunning
refused_state facts caller block (Open holder) =
    if same caller holder || facts.leases.is_live holder then Some (LeaseHeld holder) else refused_taking facts.blocks facts.now block

abbrev pub refused_append : Facts → List ℕ → FileRow → Option Refusal
refused_append facts caller file = refused_state facts caller (unfinished_block file.blocks) file.state

abbrev pub taken_reply : Blocks → Option ℕ → Reply
taken_reply blocks None = reply.Released
taken_reply blocks (Some block) = reply.Recovering block blocks.known.next_stamp

-- who appends to a closed file, which has no holder, has it open; one that another had open is taken from him
abbrev pub appended_reply : Blocks → Option (List ℕ) → Option ℕ → Reply
appended_reply blocks None block = reply.Empty
appended_reply blocks (Some holder) block = taken_reply blocks block

abbrev pub state_after_append : Blocks → ℕ → List ℕ → Option (List ℕ) → Option ℕ → FileState
state_after_append blocks now caller None block = Open caller
state_after_append blocks now caller (Some holder) block = taken_state blocks now block

-- ---- a tick

-- what a tick does with a file, if anything: it takes the files of clients whose leases are past the hard limit, and recoveries that began too long ago begin anew
abbrev pub sought_by_state : (List ℕ → Bool) → (ℕ → Bool) → Option ℕ → FileState → Option Sought
sought_by_state is_past is_overdue block Closed = None
sought_by_state is_past is_overdue block (Open holder) = if is_past holder then Some (record { holder = Some holder; block = block }) else None
sought_by_state is_past is_overdue block (Recovering own stamp begun) = if is_overdue begun then Some (record { holder = None; block = Some own }) else None

abbrev pub sought_of : (List ℕ → Bool) → (ℕ → Bool) → Option FileRow → Option Sought
sought_of is_past is_overdue None = None
sought_of is_past is_overdue (Some file) = sought_by_state is_past is_overdue (unfinished_block file.blocks) file.state

-- the stamp under which the recovery of a block begins, if it does
abbrev pub stamp_in : List BegunRecovery → ℕ → Option ℕ
stamp_in begun block = last_or None (map (λ own. own.stamp) (filter (λ own. own.block == block) begun))

abbrev pub recovering_from : ℕ → ℕ → Option ℕ → Row → Row
recovering_from now block None row = row
recovering_from now block (Some stamp) row = with_change (change.State (Recovering block stamp now)) row

-- a recovery that can't begin is passed over
abbrev pub with_begun : List BegunRecovery → ℕ → Option ℕ → Row → Row
with_begun begun now None row = with_change (change.State Closed) row
with_begun begun now (Some block) row = recovering_from now block (stamp_in begun block) row

abbrev pub taken_row : List BegunRecovery → ℕ → Option Sought → Row → Row
taken_row begun now None row = row
taken_row begun now (Some file) row = with_begun begun now file.block row

-- ---- as leases and recoveries stand

-- a recovery began longer ago than the retry limit
abbrev pub is_overdue : Facts → ℕ → Bool
is_overdue facts begun = nat_lt facts.blocks.retry (facts.now - begun)

abbrev pub sought_in : Facts → Row → Option Sought
sought_in facts row = sought_of facts.leases.is_past_hard (is_overdue facts) row.file

abbrev pub all_sought : Facts → List Row → List Sought
all_sought facts rows = filter_map (sought_in facts) rows

-- the blocks that are to be recovered, in the order of the paths
abbrev pub sought_blocks : Facts → List Row → List ℕ
sought_blocks facts rows = filter_map (λ file. file.block) (all_sought facts rows)

-- the files that are closed
abbrev pub expired_files : Facts → List Row → List Sought
expired_files facts rows = filter (λ file. not (is_some file.block)) (all_sought facts rows)

-- those recoveries that begin: the others wait for a live node
abbrev pub begun_in : Facts → List Row → List BegunRecovery
begun_in facts rows = recoveries_begun facts.blocks (sought_blocks facts rows) facts.now

abbrev pub row_ticked : Facts → List BegunRecovery → Row → Row
row_ticked facts begun row = taken_row begun facts.now (sought_in facts row) row
