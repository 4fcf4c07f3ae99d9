-- What a DataNode refuses of a replica, and what it keeps of it, call by call.
-- (HDFS Architecture, "Replication Pipelining"; HDFS-265: generation stamps, states of replicas, block recovery. That a node refuses
-- whatever is older than a stamp that it promised, also once the replica is removed, is this project's choice.)
use Rattle.std.specs.Prelude.{◌≡◌, ℕ, ◌+◌, ◌==◌, Bool, true, false, ◌||◌, not, nat_lt, nat_le, List, [], ◌++◌, length, take, Option, Some, None, unwrap_or, Result, Ok, Err}
use Rattle.std.specs.BTreeMap.{insert_entry}
use Rattle.std.specs.Map.{set_value}
use Rattle.std.specs.Option.{option_map}
use Rattle.std.specs.Ordering.{nat_cmp}
use Rattle.block_records.specs.Numbers.{is_number, entry_at}
use Rattle.node_calls.specs.declared.call.ReplicaState.{ReplicaState}
use Rattle.node_calls.specs.declared.call.ReplicaState.TheVariants.{Writing, Finalized}
use Rattle.node_calls.specs.declared.call.TokenCall.{TokenCall}
use Rattle.node_calls.specs.declared.call.TokenCall.TheVariants as call
use Rattle.node_calls.specs.declared.refusal.ReplicaRefusal.{ReplicaRefusal}
use Rattle.node_calls.specs.declared.refusal.ReplicaRefusal.TheVariants.{NoReplica, StampDiffers, OutOfRange, NotWritable, OffsetGap, ReplicaExists}
use Rattle.replica_steps.specs.ReplicaState.{is_writing}
use Rattle.replica_steps.specs.declared.held.Held.{Held}
use Rattle.replica_steps.specs.declared.replica.Replica.{Replica}

-- ---- refusals

-- what a function answered is what is refused, or nothing is
abbrev pub TellsReplicaRefusal : {X : Type 0} → Result X ReplicaRefusal → Option ReplicaRefusal → Type 0
TellsReplicaRefusal (Ok x) refused = refused ≡ None
TellsReplicaRefusal (Err refusal) refused = refused ≡ Some refusal

-- this refusal, or else what comes later
abbrev pub refused_or_later : Bool → ReplicaRefusal → Option ReplicaRefusal → Option ReplicaRefusal
refused_or_later true refusal later = Some refusal
refused_or_later false refusal later = later

-- a new replica
abbrev pub refused_new_replica : Option ReplicaRefusal → Option Replica → Option ReplicaRefusal
refused_new_replica later None = later
refused_new_replica later (Some replica) = Some ReplicaExists

-- something of a replica
abbrev pub refused_of : (Replica → Option ReplicaRefusal) → Option Replica → Option ReplicaRefusal
refused_of later None = Some NoReplica
refused_of later (Some replica) = later replica

-- something of a replica that is being written at this stamp, while no newer one is promised
abbrev pub refused_writing : ℕ → ℕ → (Replica → Option ReplicaRefusal) → Option Replica → Option ReplicaRefusal
refused_writing stamp promised later = refused_of (λ replica.
    refused_or_later (not (stamp == promised)) (StampDiffers promised)
    (refused_or_later (not (is_writing replica.state) || nat_lt replica.stamp promised) NotWritable (later replica)))

-- something of a finalized replica of this stamp
abbrev pub refused_reading : ℕ → (Replica → Option ReplicaRefusal) → Option Replica → Option ReplicaRefusal
refused_reading stamp later = refused_of (λ replica.
    refused_or_later (is_writing replica.state) NoReplica (refused_or_later (not (stamp == replica.stamp)) (StampDiffers replica.stamp) (later replica)))

-- the most bytes of a packet
abbrev pub packet_limit : ℕ
packet_limit = 65536

-- a call whose token is taken; `limit` is the most bytes of a replica
abbrev pub replica_refusal : ℕ → TokenCall → ℕ → Held → Option ReplicaRefusal
replica_refusal limit (call.Begin next) stamp held = refused_new_replica (refused_or_later (nat_le stamp held.promised) (StampDiffers held.promised) None) held.replica
replica_refusal limit (call.Packet offset bytes next) stamp held = refused_writing stamp held.promised (λ replica.
    refused_or_later (not (offset == length replica.bytes)) (OffsetGap (length replica.bytes))
    (refused_or_later (nat_lt packet_limit (length bytes) || nat_lt limit (length replica.bytes + length bytes)) OutOfRange None)) held.replica
replica_refusal limit (call.Finalize count next) stamp held = refused_writing stamp held.promised (λ replica.
    refused_or_later (not (count == length replica.bytes)) (OffsetGap (length replica.bytes)) None) held.replica
replica_refusal limit (call.Read offset count) stamp held = refused_reading stamp (λ replica.
    refused_or_later (nat_lt (length replica.bytes) (offset + count)) OutOfRange None) held.replica
replica_refusal limit call.InitRecovery stamp held = refused_of (λ replica. refused_or_later (nat_le stamp held.promised) (StampDiffers held.promised) None) held.replica
replica_refusal limit (call.UpdateReplica count) stamp held = refused_of (λ replica.
    refused_or_later (not (stamp == held.promised)) (StampDiffers held.promised)
    (refused_or_later (replica.stamp == stamp) NotWritable (refused_or_later (nat_lt (length replica.bytes) count) OutOfRange None))) held.replica
replica_refusal limit (call.SendCopy to) stamp held = refused_reading stamp (λ replica. None) held.replica
replica_refusal limit (call.TakeCopy bytes) stamp held = refused_new_replica (refused_or_later (nat_lt stamp held.promised) (StampDiffers held.promised)
    (refused_or_later (nat_lt limit (length bytes)) OutOfRange None)) held.replica

-- a removal
abbrev pub removal_refusal : ℕ → Option Replica → Option ReplicaRefusal
removal_refusal stamp = refused_of (λ replica. refused_or_later (nat_lt stamp replica.stamp) (StampDiffers replica.stamp) None)

-- ---- what is held of a block

-- a new replica, at a stamp that is promised with it
abbrev pub newly_held : ℕ → ReplicaState → List ℕ → Held
newly_held stamp state bytes = record { replica = Some (record { stamp = stamp; state = state; bytes = bytes }); promised = stamp }

abbrev pub with_replica : (Replica → Replica) → Held → Held
with_replica change held = record held { replica = option_map change held.replica }

abbrev pub with_bytes_appended : List ℕ → Held → Held
with_bytes_appended bytes = with_replica (λ replica. record replica { bytes = replica.bytes ++ bytes })

abbrev pub with_replica_finalized : Held → Held
with_replica_finalized = with_replica (λ replica. record replica { state = Finalized })

abbrev pub with_promise : ℕ → Held → Held
with_promise stamp held = record held { promised = stamp }

-- recovered at a stamp, with so many of its bytes
abbrev pub with_replica_recovered : ℕ → ℕ → Held → Held
with_replica_recovered stamp count = with_replica (λ replica. record { stamp = stamp; state = Finalized; bytes = take count replica.bytes })

-- what was promised stays
abbrev pub with_no_replica : Held → Held
with_no_replica held = record held { replica = None }

-- behind a call that isn't refused
abbrev pub held_after : TokenCall → ℕ → Held → Held
held_after (call.Begin next) stamp held = newly_held stamp Writing []
held_after (call.Packet offset bytes next) stamp held = with_bytes_appended bytes held
held_after (call.Finalize count next) stamp held = with_replica_finalized held
held_after (call.Read offset count) stamp held = held
held_after call.InitRecovery stamp held = with_promise stamp held
held_after (call.UpdateReplica count) stamp held = with_replica_recovered stamp count held
held_after (call.SendCopy to) stamp held = held
held_after (call.TakeCopy bytes) stamp held = newly_held stamp Finalized bytes

-- the replica; where there is none, an empty one, which no answer tells
abbrev pub own : Held → Replica
own held = unwrap_or held.replica (record { stamp = 0; state = Writing; bytes = [] })

-- ---- all blocks of a node

-- each block of which the node ever held a replica, by its id
abbrev pub Replicas : Type 0
Replicas = List (ℕ × Held)

-- of any other block nothing is held, and stamp 0 is promised
abbrev pub nothing : Held
nothing = record { replica = None; promised = 0 }

abbrev pub held_at : ℕ → Replicas → Held
held_at block blocks = unwrap_or (entry_at block blocks) nothing

abbrev pub held_changed_by : (Held → Held) → ℕ → Option Held → Replicas → Replicas
held_changed_by change block None blocks = blocks
held_changed_by change block (Some held) blocks = set_value (is_number block) blocks (change held)

-- other things are held of a block, if any were
abbrev pub with_held_changed : (Held → Held) → ℕ → Replicas → Replicas
with_held_changed change block blocks = held_changed_by change block (entry_at block blocks) blocks

-- behind a call that isn't refused
abbrev pub replicas_after : TokenCall → ℕ → ℕ → Replicas → Replicas
replicas_after (call.Begin next) stamp block blocks = insert_entry nat_cmp blocks block (newly_held stamp Writing [])
replicas_after (call.Packet offset bytes next) stamp block blocks = with_held_changed (with_bytes_appended bytes) block blocks
replicas_after (call.Finalize count next) stamp block blocks = with_held_changed with_replica_finalized block blocks
replicas_after (call.Read offset count) stamp block blocks = blocks
replicas_after call.InitRecovery stamp block blocks = with_held_changed (with_promise stamp) block blocks
replicas_after (call.UpdateReplica count) stamp block blocks = with_held_changed (with_replica_recovered stamp count) block blocks
replicas_after (call.SendCopy to) stamp block blocks = blocks
replicas_after (call.TakeCopy bytes) stamp block blocks = insert_entry nat_cmp blocks block (newly_held stamp Finalized bytes)

-- behind a removal
abbrev pub without_replica_of : ℕ → Replicas → Replicas
without_replica_of block blocks = with_held_changed with_no_replica block blocks
