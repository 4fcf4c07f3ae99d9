-- The one plan of a recovery: of a block at a stamp no two DataNodes lead the recovery. Each replica is recovered as that plan decided, and
-- the NameNode takes the end of a recovery at the block's newest stamp alone. All this holds over every list of events, and whatever tokens
-- are forged.
-- (HDFS-265, "Block recovery": the NameNode gives a recovery a new generation stamp, and has one DataNode lead it.)
use Rattle.std.specs.Prelude.{◌≡◌, ℕ, true, List, ◌∷◌, ◌++◌, Some}
use Rattle.block_records.specs.Numbers.{has_number}
use Rattle.block_map.specs.BlockFacts.{newest_stamp}
use Rattle.block_recovery.specs.declared.decision.Decision.{Decision}
use Rattle.block_recovery.specs.declared.plan.Plan.{Plan}
use Rattle.hdfs_types.specs.declared.op.Op.TheVariants as op
use Rattle.hdfs_types.specs.declared.replica.RecoveredBlock.{RecoveredBlock}
use Rattle.hdfs_types.specs.declared.reply.Reply.{Reply}
use Rattle.flat_rows.specs.declared.verdict.Verdict.TheVariants.{Done}
use Rattle.history.specs.State.{blocks_of}
use Rattle.history.specs.declared.entry.HistoryEntry.{HistoryEntry}
use Rattle.node_calls.specs.declared.call.PlanCall.TheVariants as plan_call
use Rattle.node_calls.specs.declared.call.TokenCall.TheVariants as call
use Rattle.node_calls.specs.declared.message.Message.TheVariants as message
use Rattle.call_parts.specs.declared.presented.Presented.{Presented}
use Rattle.cluster_trace.specs.Trace.{ClusterOpening, message_at, after}
use Rattle.cluster_trace.specs.declared.event.Event.{Event}
use Rattle.fencing_laws.specs.Fencing.{plan_in, Serves, HasDecided}

-- the NameNode asks one DataNode alone to lead the recovery of a block at a stamp
abbrev pub OneNodeIsAsked : Type 0
OneNodeIsAsked = (opening : ClusterOpening) (events : List Event) (first second node other block stamp : ℕ) (nodes others token another : List ℕ)
    → message_at first (after opening events).messages ≡ Some (message.Plan node (plan_call.Recover block stamp nodes token))
    → message_at second (after opening events).messages ≡ Some (message.Plan other (plan_call.Recover block stamp others another)) → node ≡ other

-- and no two have a plan for it
abbrev pub RecoveriesHaveOnePlan : Type 0
RecoveriesHaveOnePlan = (opening : ClusterOpening) (events : List Event) (block stamp node other : ℕ) (plan also : Plan)
    → plan_in (after opening events) node block stamp ≡ Some plan → plan_in (after opening events) other block stamp ≡ Some also → node ≡ other

-- each replica that is recovered at that stamp gets the length that this plan decided, and its node takes part
abbrev pub UpdatesFollowThePlan : Type 0
UpdatesFollowThePlan = (opening : ClusterOpening) (later earlier : List Event) (event : Event) (node count leader : ℕ) (presented : Presented) (plan : Plan)
    → Serves opening earlier event node presented (call.UpdateReplica count)
    → plan_in (after opening (later ++ event ∷ earlier)) leader presented.block presented.stamp ≡ Some plan
    → (decision : Decision) × (plan.decision ≡ Some decision) × (decision.length ≡ count) × (has_number node decision.nodes ≡ true)

-- the end of a recovery is taken at the newest stamp of its block, with the length that a plan at that stamp decided: there is one alone
abbrev pub EndsFollowThePlan : Type 0
EndsFollowThePlan = (opening : ClusterOpening) (events : List Event) (later earlier : List HistoryEntry) (entry : HistoryEntry) (own : RecoveredBlock) (told : Reply)
    → (after opening events).entries ≡ later ++ entry ∷ earlier → entry.request.op ≡ op.CommitRecovery own → entry.verdict ≡ Done told
    → (newest_stamp (blocks_of opening.name earlier) own.block ≡ Some own.stamp)
    × (leader : ℕ) × (decision : Decision) × HasDecided (after opening events) leader own.block own.stamp decision × (decision.length ≡ own.length)
