-- Small traces, by computing.
use Rattle.std.proofs.Common.{◌≡◌, ℕ, List, [], ◌∷◌, map, None, Ok, Err, refl, codes}
use Rattle.std.specs.Fmt.{digits}
use Rattle.block_tokens.specs.KeyList.{merged_keys}
use Rattle.block_tokens.specs.Reading.{parts_of}
use Rattle.block_tokens.specs.Ring.{update_of}
use Rattle.block_tokens.specs.TokenTest.{token_test}
use Rattle.datanode.specs.NodeStep.{node_after, node_answer, presented_answer}
use Rattle.hdfs_types.specs.declared.op.Op.TheVariants as op
use Rattle.block_tokens.specs.declared.refusal.TokenRefusal.TheVariants.{Malformed}
use Rattle.history.specs.Config.{standard}
use Rattle.node_calls.specs.declared.call.NodeCall.TheVariants as call
use Rattle.node_calls.specs.declared.message.Message.{Message}
use Rattle.node_calls.specs.declared.message.Message.TheVariants as message
use Rattle.node_calls.specs.declared.refusal.NodeRefusal.TheVariants.{Token}
use Rattle.node_calls.specs.declared.reply.NodeReply.TheVariants as told
use Rattle.recovery_updates.specs.declared.fault.PlanRefusal.TheVariants.{Stranger}
use Rattle.plan_steps.specs.PlanStep.{plan_answer}
use Rattle.cluster_trace.specs.DataCall.{Read, Decide, Commit}
use Rattle.cluster_trace.specs.Trace.{ClusterOpening, after, event_outcome}
use Rattle.cluster_trace.specs.declared.event.Event.{Event}
use Rattle.cluster_trace.specs.declared.event.Event.TheVariants.{Name, Deliver, Data}
use Rattle.cluster_trace.specs.declared.outcome.ClusterRefusal.TheVariants.{NoMessage, NoNode, NotFromOutside}
use Rattle.cluster_trace.specs.declared.outcome.EventAnswer.TheVariants.{Called, Led, Lost}

abbrev opening : ClusterOpening
opening = record { name = record { config = standard; key = 7 ∷ [] }; nodes = 2 ∷ 1 ∷ [] }

abbrev beat : ℕ → List ℕ → Event
beat moment node = Name (record { caller = node; moment = moment; op = op.Heartbeat })

abbrev keys : Message
keys = message.Node 1 (call.Keys ((1, record { key = 7 ∷ []; expiry = None }) ∷ []))

-- a heartbeat sends the keys to its node
heartbeat_sends : (after opening (beat 5 (codes "dn-1") ∷ [])).messages ≡ keys ∷ []
unfolding digits update_of
heartbeat_sends = refl

-- messages are numbered from 1, and a message comes as often as it is delivered
abbrev two_beats : List Event
two_beats = beat 6 (codes "dn-2") ∷ beat 5 (codes "dn-1") ∷ []

second_number : (event_outcome (after opening (beat 5 (codes "dn-1") ∷ [])) (beat 6 (codes "dn-2"))).first ≡ 2
unfolding digits
second_number = refl

delivered_once : event_outcome (after opening two_beats) (Deliver 2 9) ≡ record { answer = Called (Ok (told.Keys 1)); first = 3; count = 0 }
unfolding digits update_of merged_keys node_answer
delivered_once = refl

delivered_twice : event_outcome (after opening (Deliver 1 8 ∷ Deliver 2 9 ∷ two_beats)) (Deliver 1 9) ≡ record { answer = Called (Ok (told.Keys 1)); first = 3; count = 0 }
unfolding digits update_of merged_keys node_answer node_after
delivered_twice = refl

-- no message, no node, not from outside
no_message : map (λ number. (event_outcome (after opening two_beats) (Deliver number 9)).answer) (0 ∷ 3 ∷ []) ≡ Lost NoMessage ∷ Lost NoMessage ∷ []
unfolding digits
no_message = refl

abbrev read : ℕ → Event
read node = Data node 9 (Read (record { caller = codes "alice"; block = 1; stamp = 1001; token = [] }) 0 1)

no_node : (event_outcome (after opening two_beats) (read 9)).answer ≡ Lost NoNode
no_node = refl

stranger : (event_outcome (after opening (beat 5 (codes "dn-9") ∷ [])) (Deliver 1 6)).answer ≡ Lost NoNode
unfolding digits
stranger = refl

from_outside : (event_outcome (after opening two_beats) (Name (record { caller = codes "alice"; moment = 99; op = op.Reported (record { block = 1; stamp = 1; length = 1 }) }))).answer ≡ Lost NotFromOutside
from_outside = refl

-- a token that is none
refused_read : (event_outcome (after opening two_beats) (read 1)).answer ≡ Called (Err (Token Malformed))
unfolding node_answer presented_answer token_test parts_of
refused_read = refl

-- a recovery that nobody began, and a node that isn't there
nobody_leads : map (λ asked. (event_outcome (after opening two_beats) (Data 1 9 asked)).answer) (Decide 1 1002 ∷ Commit 1 1002 ∷ []) ≡ Led (Err Stranger) ∷ Led (Err Stranger) ∷ []
unfolding plan_answer
nobody_leads = refl

no_leader : (event_outcome (after opening two_beats) (Data 9 9 (Decide 1 1002))).answer ≡ Lost NoNode
no_leader = refl
