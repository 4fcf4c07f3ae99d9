-- What a call leaves of what is held of its block and of the log, and what it is told, by what it is refused for.
use Rattle.std.specs.Prelude.{ℕ, List, [], ◌∷◌, ◌++◌, Option, Some, None, Ok}
use Rattle.call_parts.specs.declared.access_log.AccessRecord.{AccessRecord}
use Rattle.node_calls.specs.declared.call.TokenCall.{TokenCall}
use Rattle.call_parts.specs.declared.presented.Presented.{Presented}
use Rattle.node_calls.specs.declared.refusal.NodeRefusal.TheVariants.{Replica}
use Rattle.node_calls.specs.declared.refusal.ReplicaRefusal.{ReplicaRefusal}
use Rattle.replicas.specs.Sending.{call_reply, call_sends}
use Rattle.replica_steps.specs.ReplicaStep.{held_after}
use Rattle.replica_steps.specs.declared.held.Held.{Held}
use Rattle.datanode.specs.NodeStep.{call_refused}
use Rattle.datanode.specs.declared.answered.Answered.{Answered}

abbrev pub held_by : TokenCall → ℕ → Held → Option ReplicaRefusal → Held
held_by asked stamp held (Some refusal) = held
held_by asked stamp held None = held_after asked stamp held

abbrev pub log_by : List AccessRecord → AccessRecord → Option ReplicaRefusal → List AccessRecord
log_by log entry (Some refusal) = log
log_by log entry None = log ++ entry ∷ []

-- by the node of this id
abbrev pub told_of : ℕ → Presented → TokenCall → Held → Answered
told_of node presented asked held = record { result = Ok (call_reply asked held); messages = call_sends node presented asked held }

abbrev pub told_unless : ℕ → Presented → TokenCall → Held → Option ReplicaRefusal → Answered
told_unless node presented asked held (Some refusal) = call_refused (Replica refusal)
told_unless node presented asked held None = told_of node presented asked held
