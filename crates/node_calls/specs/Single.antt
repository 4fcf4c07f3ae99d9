-- The messages that a few numbers are, and those of a list that keeps them so.
use Rattle.std.specs.Prelude.{List, [], ◌∷◌}
use Rattle.node_calls.specs.declared.call.PlanCall.TheVariants as plan
use Rattle.node_calls.specs.declared.call.ReplicaState.TheVariants.{Writing, Finalized}
use Rattle.node_calls.specs.declared.message.Kept.{Kept}
use Rattle.node_calls.specs.declared.message.Kept.TheVariants as kept
use Rattle.node_calls.specs.declared.message.Message.{Message}
use Rattle.node_calls.specs.declared.message.Message.TheVariants as message
use Rattle.node_calls.specs.declared.message.MessageSeen.{MessageSeen}
use Rattle.node_calls.specs.declared.message.MessageSeen.TheVariants as seen
use Rattle.node_calls.specs.declared.single.Single.{Single}
use Rattle.node_calls.specs.declared.single.Single.TheVariants as single
use Rattle.node_calls.specs.declared.single.Update.{Update}

abbrev pub message_of_single : Single → Message
message_of_single (single.Report node block stamp bytes) = message.Reported node block stamp bytes
message_of_single (single.Reply state leader node block stamp bytes) = message.Plan leader (plan.Reply node block stamp state bytes)
message_of_single (single.Updated leader node block stamp) = message.Plan leader (plan.Updated node block stamp)

-- to the node that leads the recovery, and then to the NameNode
abbrev pub update_messages : Update → List Message
update_messages own =
    message.Plan own.leader (plan.Updated own.node own.block own.stamp)
    ∷ message.Reported own.node own.block own.stamp own.length
    ∷ []

-- the messages that are kept
abbrev pub kept_messages : Kept → List Message
kept_messages (kept.Report block stamp bytes node) = message.Reported node block stamp bytes ∷ []
kept_messages (kept.Written block stamp bytes leader node) = message.Plan leader (plan.Reply node block stamp Writing bytes) ∷ []
kept_messages (kept.Finalized block stamp bytes leader node) = message.Plan leader (plan.Reply node block stamp Finalized bytes) ∷ []
kept_messages (kept.Update own) = update_messages own
kept_messages (kept.List messages) = messages.items

-- a message as it is kept
abbrev pub message_seen : MessageSeen → Message
message_seen (seen.Listed own) = own.now
message_seen (seen.Single own) = message_of_single own
