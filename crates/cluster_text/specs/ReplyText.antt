-- The text of what a DataNode replies, also of the recoveries that it leads.
use Rattle.std.specs.Prelude.{ℕ, List, [], ◌∷◌, ◌++◌, Result, Ok, Err, codes}
use Rattle.std.specs.Fmt.{decimal}
use Rattle.hex.specs.Hex.{encode_lower}
use Rattle.script_text.specs.BlockText.{nodes_text}
use Rattle.node_calls.specs.Refusals.{node_refusal_text}
use Rattle.node_calls.specs.declared.call.ReplicaState.{ReplicaState}
use Rattle.node_calls.specs.declared.call.ReplicaState.TheVariants.{Writing, Finalized}
use Rattle.node_calls.specs.declared.refusal.NodeRefusal.{NodeRefusal}
use Rattle.node_calls.specs.declared.reply.NodeReply.{NodeReply}
use Rattle.node_calls.specs.declared.reply.NodeReply.TheVariants as reply
use Rattle.recovery_updates.specs.Refusals.{plan_refusal_text}
use Rattle.recovery_updates.specs.declared.fault.PlanRefusal.{PlanRefusal}
use Rattle.plan_steps.specs.declared.answered.PlanReply.{PlanReply}
use Rattle.plan_steps.specs.declared.answered.PlanReply.TheVariants as plan_reply

-- ---- a DataNode's reply

-- a word stands behind a blank, and nothing where there is none
abbrev pub word_behind : List ℕ → List ℕ
word_behind [] = []
word_behind (byte ∷ word) = 32 ∷ byte ∷ word

abbrev pub replica_state_text : ReplicaState → List ℕ
replica_state_text Writing = codes "writing"
replica_state_text Finalized = codes "finalized"

abbrev pub node_reply_text : NodeReply → List ℕ
node_reply_text reply.Begun = codes "ok begun"
node_reply_text (reply.Taken bytes) = codes "ok taken " ++ decimal bytes
node_reply_text (reply.Finalized bytes) = codes "ok finalized " ++ decimal bytes
node_reply_text (reply.Read bytes) = codes "ok read" ++ word_behind (encode_lower bytes)
node_reply_text (reply.Replica stamp bytes state) = codes "ok replica " ++ (decimal stamp ++ (32 ∷ (decimal bytes ++ (32 ∷ replica_state_text state))))
node_reply_text (reply.Updated bytes) = codes "ok updated " ++ decimal bytes
node_reply_text reply.Removed = codes "ok removed"
node_reply_text (reply.Copied bytes) = codes "ok copied " ++ decimal bytes
node_reply_text (reply.Stored bytes) = codes "ok stored " ++ decimal bytes
node_reply_text (reply.Keys count) = codes "ok keys " ++ decimal count

abbrev pub called_text : Result NodeReply NodeRefusal → List ℕ
called_text (Ok told) = node_reply_text told
called_text (Err refusal) = codes "refused " ++ node_refusal_text refusal

-- ---- the reply of a DataNode that leads recoveries

abbrev pub plan_reply_text : PlanReply → List ℕ
plan_reply_text (plan_reply.Asked count) = codes "ok asked " ++ decimal count
plan_reply_text plan_reply.Noted = codes "ok noted"
plan_reply_text (plan_reply.Decided own) = codes "ok length " ++ (decimal own.length ++ (codes " nodes " ++ nodes_text own.nodes))
plan_reply_text (plan_reply.Committed bytes) = codes "ok committed " ++ decimal bytes

abbrev pub led_text : Result PlanReply PlanRefusal → List ℕ
led_text (Ok told) = plan_reply_text told
led_text (Err refusal) = codes "refused " ++ plan_refusal_text refusal
