-- Which mode of access a call of a DataNode needs, in whose name it is made, and what is noted down of it.
-- (HADOOP-4359: a token allows its user to read or to write a block.)
use Rattle.std.specs.Prelude.{ℕ, Bool, true, false, length, if◌then◌else◌}
use Rattle.node_ids.specs.NodeId.{node_principal}
use Rattle.permission_bits.specs.Modes.{modes}
use Rattle.permission_bits.specs.declared.modes.Modes.{Modes}
use Rattle.call_parts.specs.declared.access_log.AccessRecord.{AccessRecord}
use Rattle.node_calls.specs.declared.call.TokenCall.{TokenCall}
use Rattle.node_calls.specs.declared.call.TokenCall.TheVariants as call
use Rattle.call_parts.specs.declared.presented.Presented.{Presented}
use Rattle.replica_steps.specs.ReplicaStep.{own}
use Rattle.replica_steps.specs.declared.held.Held.{Held}

abbrev pub sends_copy : TokenCall → Bool
sends_copy (call.Begin next) = false
sends_copy (call.Packet offset bytes next) = false
sends_copy (call.Finalize count next) = false
sends_copy (call.Read offset count) = false
sends_copy call.InitRecovery = false
sends_copy (call.UpdateReplica count) = false
sends_copy (call.SendCopy to) = true
sends_copy (call.TakeCopy bytes) = false

-- a node sends copies in its own name, whoever asks it to
abbrev pub asked_by : ℕ → Presented → TokenCall → Presented
asked_by node presented asked = if sends_copy asked then record presented { caller = node_principal node } else presented

-- to read or to write
abbrev pub modes_of_call : TokenCall → Modes
modes_of_call (call.Begin next) = modes 2
modes_of_call (call.Packet offset bytes next) = modes 2
modes_of_call (call.Finalize count next) = modes 2
modes_of_call (call.Read offset count) = modes 1
modes_of_call call.InitRecovery = modes 2
modes_of_call (call.UpdateReplica count) = modes 2
modes_of_call (call.SendCopy to) = modes 1
modes_of_call (call.TakeCopy bytes) = modes 2

-- what is noted down: of a packet and of a read where it begins, of all others 0
abbrev pub recorded_offset : TokenCall → ℕ
recorded_offset (call.Begin next) = 0
recorded_offset (call.Packet offset bytes next) = offset
recorded_offset (call.Finalize count next) = 0
recorded_offset (call.Read offset count) = offset
recorded_offset call.InitRecovery = 0
recorded_offset (call.UpdateReplica count) = 0
recorded_offset (call.SendCopy to) = 0
recorded_offset (call.TakeCopy bytes) = 0

-- of a packet and of a read how many bytes it has, of what begins 0, of all others the length of the replica behind it
abbrev pub recorded_length : TokenCall → Held → ℕ
recorded_length (call.Begin next) held = 0
recorded_length (call.Packet offset bytes next) held = length bytes
recorded_length (call.Finalize count next) held = count
recorded_length (call.Read offset count) held = count
recorded_length call.InitRecovery held = 0
recorded_length (call.UpdateReplica count) held = count
recorded_length (call.SendCopy to) held = length (own held).bytes
recorded_length (call.TakeCopy bytes) held = length bytes

abbrev pub record_of : ℕ → ℕ → Presented → TokenCall → Held → AccessRecord
record_of node moment presented asked held = record {
  node = node;
  moment = moment;
  caller = presented.caller;
  block = presented.block;
  mode = modes_of_call asked;
  offset = recorded_offset asked;
  length = recorded_length asked held;
  token = presented.token;
}
