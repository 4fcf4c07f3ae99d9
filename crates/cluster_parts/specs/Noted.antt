-- What comes of a call in a cluster, and the messages that it sends.
use Rattle.std.specs.Prelude.{ℕ, ◌+◌, List, [], length, Option, Some, None}
use Rattle.node_calls.specs.declared.message.Message.{Message}
use Rattle.datanode.specs.declared.answered.Answered.{Answered}
use Rattle.plan_steps.specs.declared.answered.PlanAnswered.{PlanAnswered}
use Rattle.cluster_trace.specs.declared.outcome.ClusterRefusal.TheVariants.{NoNode}
use Rattle.cluster_trace.specs.declared.outcome.EventAnswer.TheVariants.{Called, Led, Lost}
use Rattle.cluster_trace.specs.declared.outcome.Outcome.{Outcome}

-- what comes of a call of a DataNode behind so many messages; nothing where there is no such node
abbrev pub answer_outcome : ℕ → Option Answered → Outcome
answer_outcome count None = record { answer = Lost NoNode; first = count + 1; count = 0 }
answer_outcome count (Some own) = record { answer = Called own.result; first = count + 1; count = length own.messages }

abbrev pub answer_messages : Option Answered → List Message
answer_messages None = []
answer_messages (Some own) = own.messages

-- and of a call about the recoveries that a DataNode leads
abbrev pub led_outcome : ℕ → Option PlanAnswered → Outcome
led_outcome count None = record { answer = Lost NoNode; first = count + 1; count = 0 }
led_outcome count (Some own) = record { answer = Led own.result; first = count + 1; count = length own.messages }

abbrev pub led_messages : Option PlanAnswered → List Message
led_messages None = []
led_messages (Some own) = own.messages
