-- What an event sends: what a DataNode sends for a call that it serves, what it sends of the recoveries that it leads, and what a request is answered.
use Rattle.std.proofs.Common.{◌≡◌, ℕ, Bool, true, false, ◌⊎◌, inl, inr, List, [], ◌∷◌, ◌++◌, map, length, Option, Some, None, refl, sym, ap, ◌∙◌, subst, cond}
use Rattle.std.specs.List.{AllByRecursion}
use Rattle.block_records.specs.Numbers.{entry_at}
use Rattle.block_recovery.specs.Plans.{PlanTable}
use Rattle.recovery_updates.specs.declared.fault.PlanRefusal.{PlanRefusal}
use Rattle.node_ids.specs.NodeId.{node_of, node_principal}
use Rattle.block_answers.specs.Commands.{Commands}
use Rattle.block_answers.specs.declared.commands.CopyOrder.{CopyOrder}
use Rattle.block_answers.specs.declared.commands.Recover.{Recover}
use Rattle.block_answers.specs.declared.commands.Removal.{Removal}
use Rattle.hdfs_types.specs.declared.reply.Reply.{Reply}
use Rattle.hdfs_types.specs.declared.reply.Reply.TheVariants as reply
use Rattle.flat_rows.specs.declared.verdict.Verdict.{Verdict}
use Rattle.flat_rows.specs.declared.verdict.Verdict.TheVariants.{Done, Denied, Refused}
use Rattle.hdfs_types.specs.declared.op.Op.TheVariants as op
use Rattle.hdfs_types.specs.declared.op.Request.{Request}
use Rattle.hdfs_types.specs.declared.replica.RecoveredBlock.{RecoveredBlock}
use Rattle.hdfs_types.specs.declared.replica.ReportedReplica.{ReportedReplica}
use Rattle.node_calls.specs.declared.call.NodeCall.{NodeCall}
use Rattle.node_calls.specs.declared.call.NodeCall.TheVariants.{Presenting, Invalidate, Keys}
use Rattle.node_calls.specs.declared.call.PlanCall.{PlanCall}
use Rattle.node_calls.specs.declared.call.PlanCall.TheVariants as plan
use Rattle.node_calls.specs.declared.call.TokenCall.{TokenCall}
use Rattle.node_calls.specs.declared.call.TokenCall.TheVariants as call
use Rattle.node_calls.specs.declared.message.Message.{Message}
use Rattle.node_calls.specs.declared.message.Message.TheVariants as message
use Rattle.call_parts.specs.declared.presented.Presented.{Presented}
use Rattle.node_calls.specs.declared.refusal.NodeRefusal.{NodeRefusal}
use Rattle.node_calls.specs.declared.refusal.ReplicaRefusal.{ReplicaRefusal}
use Rattle.replicas.specs.Asking.{asked_by}
use Rattle.replicas.specs.Sending.{call_sends, forward, report, to_primary}
use Rattle.replica_steps.specs.ReplicaStep.{own, held_at, removal_refusal}
use Rattle.replica_steps.specs.declared.held.Held.{Held}
use Rattle.datanode.specs.NodeStep.{DataNode, node_answer, presented_answer, told_by, removal_told, clock_with, call_refusal, copy_call}
use Rattle.plan_steps.specs.PlanStep.{plan_refusal, plan_there, decision_there, commit_there, presented_by_leader, to_each, plan_sends, told_unless, plan_answer}
use Rattle.cluster_trace.specs.DataCall.{DataCall, as_message}
use Rattle.cluster_trace.specs.DataCall as outside
use Rattle.cluster_trace.specs.Provenance.{CallAt, IsIn, call_brought, call_of}
use Rattle.cluster_trace.specs.Trace.{Cluster, Happened, event_lost, entry_of, recover_message, removal_message, copy_message, command_messages, told_messages, sent_by, entry_messages, request_named, called_at, led_at, message_delivered, message_at, is_from_outside, report_request, commit_request, event_happened}
use Rattle.cluster_trace.specs.declared.event.Event.{Event}
use Rattle.cluster_trace.specs.declared.event.Event.TheVariants.{Name, Deliver, Data}
use Rattle.cluster_trace.specs.declared.outcome.ClusterRefusal.{ClusterRefusal}
use Rattle.cluster_trace.specs.declared.outcome.ClusterRefusal.TheVariants.{NoMessage, NoNode, NotFromOutside}
use Rattle.cluster_trace.proofs.Each.{each_append, each_map}
use Rattle.fencing_laws.proofs.OnePlan.{at_in}

module _ (Q : Message → Type 0) where
  -- ---- a call that a DataNode serves

  pub record NodeSends (node : ℕ) (presented : Presented) (asked : TokenCall) (held : Held) : Type 0 where
    pub asks : (to : ℕ) (next : NodeCall) → Q (message.Node to next)
    pub reply : (primary : ℕ) → asked ≡ call.InitRecovery → Q (message.Plan primary (plan.Reply node presented.block presented.stamp (own held).state (length (own held).bytes)))
    pub updated : (primary count : ℕ) → asked ≡ call.UpdateReplica count → node_of presented.caller ≡ Some primary → Q (message.Plan primary (plan.Updated node presented.block presented.stamp))
    pub finalized : (count : ℕ) (next : List ℕ) → asked ≡ call.Finalize count next → Q (message.Reported node presented.block presented.stamp count)
    pub recovered : (count : ℕ) → asked ≡ call.UpdateReplica count → Q (message.Reported node presented.block presented.stamp count)
    pub stored : (bytes : List ℕ) → asked ≡ call.TakeCopy bytes → Q (message.Reported node presented.block presented.stamp (length bytes))

  forward_all : (presented : Presented) (asked : List ℕ → TokenCall) (next : List ℕ) → ((to : ℕ) (next : NodeCall) → Q (message.Node to next)) → AllByRecursion Q (forward presented asked next)
  forward_all presented asked [] h = tt
  forward_all presented asked (first ∷ next) h = (h first (Presenting presented (asked next)), tt)

  primary_all : (primary : Option ℕ) (told : ℕ → Message) → ((node : ℕ) → primary ≡ Some node → Q (told node)) → AllByRecursion Q (to_primary primary told)
  primary_all None told h = tt
  primary_all (Some primary) told h = (h primary refl, tt)

  sends_all : (node : ℕ) (presented : Presented) (asked : TokenCall) (held : Held) → NodeSends node presented asked held → AllByRecursion Q (call_sends node presented asked held)
  sends_all node presented (call.Begin next) held h = forward_all presented call.Begin next h.asks
  sends_all node presented (call.Packet offset bytes next) held h = forward_all presented (call.Packet offset bytes) next h.asks
  sends_all node presented (call.Finalize count next) held h =
      each_append Q (forward presented (call.Finalize count) next) (report node presented count) (forward_all presented (call.Finalize count) next h.asks) (h.finalized count next refl, tt)
  sends_all node presented (call.Read offset count) held h = tt
  sends_all node presented call.InitRecovery held h = primary_all (node_of presented.caller) _ (λ primary is. h.reply primary refl)
  sends_all node presented (call.UpdateReplica count) held h =
      each_append Q (to_primary (node_of presented.caller) _) (report node presented count) (primary_all (node_of presented.caller) _ (λ primary is. h.updated primary count refl is)) (h.recovered count refl, tt)
  sends_all node presented (call.SendCopy to) held h = (h.asks to (Presenting presented (call.TakeCopy (own held).bytes)), tt)
  sends_all node presented (call.TakeCopy bytes) held h = (h.stored bytes refl, tt)

  presented_all : (node : DataNode) (clock : ℕ) (presented : Presented) (asked : TokenCall)
      → (call_refusal node clock presented asked ≡ None → NodeSends node.id presented asked (held_at presented.block node.blocks)) → AllByRecursion Q (presented_answer node clock presented asked).messages
  unfolding presented_answer
  presented_all node clock presented asked h = by (call_refusal node clock presented asked) h
    where
      by : (refused : Option NodeRefusal) → (refused ≡ None → NodeSends node.id presented asked (held_at presented.block node.blocks)) → AllByRecursion Q (told_by node presented asked refused).messages
      by (Some refusal) h = tt
      by None h = sends_all node.id presented asked (held_at presented.block node.blocks) (h refl)

  -- by the node, at a moment
  abbrev pub NodeMay : DataNode → ℕ → NodeCall → Type 0
  NodeMay node now called = (presented : Presented) (asked : TokenCall) → called ≡ Presenting presented asked
      → call_refusal node (clock_with node now) (asked_by node.id presented asked) asked ≡ None
      → NodeSends node.id (asked_by node.id presented asked) asked (held_at (asked_by node.id presented asked).block node.blocks)

  answer_all : (node : DataNode) (now : ℕ) (called : NodeCall) → NodeMay node now called → AllByRecursion Q (node_answer node now called).messages
  unfolding node_answer
  answer_all node now (Presenting presented asked) h = presented_all node (clock_with node now) (asked_by node.id presented asked) asked (λ allowed. h presented asked refl allowed)
  answer_all node now (Keys update) h = tt
  answer_all node now (Invalidate block stamp) h = by (removal_refusal stamp (held_at block node.blocks).replica)
    where
      by : (refused : Option ReplicaRefusal) → AllByRecursion Q (removal_told refused).messages
      by (Some refusal) = tt
      by None = tt

  -- ---- a call that it leads a recovery by

  pub record PlanSends (leader : ℕ) (asked : PlanCall) (plans : PlanTable) : Type 0 where
    pub asks : (to : ℕ) (next : NodeCall) → Q (message.Node to next)
    pub commit : (block stamp : ℕ) → asked ≡ plan.Commit block stamp
        → Q (message.CommitRecovery leader block stamp (commit_there (plan_there block stamp plans)).length (commit_there (plan_there block stamp plans)).nodes)

  each_sent : (presented : Presented) (asked : TokenCall) (nodes : List ℕ) → ((to : ℕ) (next : NodeCall) → Q (message.Node to next)) → AllByRecursion Q (to_each presented asked nodes)
  each_sent presented asked nodes h = each_map Q (λ (node : ℕ). message.Node node (Presenting presented asked)) (λ (node : ℕ). h node (Presenting presented asked)) nodes

  plan_sends_all : (leader : ℕ) (asked : PlanCall) (plans : PlanTable) → PlanSends leader asked plans → AllByRecursion Q (plan_sends leader asked plans)
  plan_sends_all leader (plan.Recover block stamp nodes token) plans h = each_sent (presented_by_leader leader block stamp token) call.InitRecovery nodes h.asks
  plan_sends_all leader (plan.Reply node block stamp state bytes) plans h = tt
  plan_sends_all leader (plan.Decide block stamp) plans h =
      let own = plan_there block stamp plans in
      each_sent (presented_by_leader leader block stamp own.token) (call.UpdateReplica (decision_there own).length) (decision_there own).nodes h.asks
  plan_sends_all leader (plan.Updated node block stamp) plans h = tt
  plan_sends_all leader (plan.Commit block stamp) plans h = (h.commit block stamp refl, tt)

  plan_answer_all : (leader : ℕ) (asked : PlanCall) (plans : PlanTable) → (plan_refusal asked plans ≡ None → PlanSends leader asked plans) → AllByRecursion Q (plan_answer leader asked plans).messages
  unfolding plan_answer
  plan_answer_all leader asked plans h = by (plan_refusal asked plans) h
    where
      by : (refused : Option PlanRefusal) → (refused ≡ None → PlanSends leader asked plans) → AllByRecursion Q (told_unless leader asked plans refused).messages
      by (Some refusal) h = tt
      by None h = plan_sends_all leader asked plans (h refl)

  -- ---- what a request is answered

  commands_all : (node : ℕ) (commands : Commands) → ((to : ℕ) (next : NodeCall) → Q (message.Node to next)) → ((to : ℕ) (order : Recover) → Q (recover_message to order)) → AllByRecursion Q (command_messages node commands)
  commands_all node commands asks order = (
    asks node (Keys commands.keys),
    each_append Q (map (recover_message node) commands.recoveries) (map (removal_message node) commands.removals ++ map (copy_message node) commands.copies)
        (each_map Q (recover_message node) (order node) commands.recoveries)
        (each_append Q (map (removal_message node) commands.removals) (map (copy_message node) commands.copies)
        (each_map Q (removal_message node) (λ (own : Removal). asks node (Invalidate own.block own.stamp)) commands.removals)
        (each_map Q (copy_message node) (λ (own : CopyOrder). asks node (copy_call node own.block own.stamp own.token own.target)) commands.copies)),
  )

  told_all : (caller : Option ℕ) (told : Reply) → ((to : ℕ) (next : NodeCall) → Q (message.Node to next)) → ((to : ℕ) (order : Recover) → Q (recover_message to order)) → AllByRecursion Q (told_messages caller told)
  told_all (Some node) (reply.Commands commands) asks order = commands_all node commands asks order
  told_all _ told asks order = tt

  verdict_all : (caller : Option ℕ) (verdict : Verdict) → ((to : ℕ) (next : NodeCall) → Q (message.Node to next)) → ((to : ℕ) (order : Recover) → Q (recover_message to order)) → AllByRecursion Q (sent_by caller verdict)
  verdict_all caller (Done told) asks order = told_all caller told asks order
  verdict_all caller (Denied denial) asks order = tt
  verdict_all caller (Refused refusal) asks order = tt

  pub entry_sends : (state : Cluster) (request : Request) → ((to : ℕ) (next : NodeCall) → Q (message.Node to next)) → ((to : ℕ) (order : Recover) → Q (recover_message to order)) → AllByRecursion Q (entry_messages (entry_of state request))
  entry_sends state request asks order = verdict_all (node_of request.caller) (entry_of state request).verdict asks order

-- ---- what an event does

-- it calls a DataNode
pub record Calls (state : Cluster) (found : Option CallAt) (what : Happened) : Type 0 where
  pub id : ℕ
  pub now : ℕ
  pub called : NodeCall
  pub node : DataNode
  pub asks : found ≡ Some (record { node = id; now = now; call = called })
  pub there : entry_at id state.nodes ≡ Some node
  pub is : what ≡ called_at state id now called (Some node)

-- from outside a leading node is asked for nothing else
abbrev pub is_driven : PlanCall → Bool
is_driven (plan.Recover block stamp nodes token) = false
is_driven (plan.Reply node block stamp state bytes) = false
is_driven (plan.Decide block stamp) = true
is_driven (plan.Updated node block stamp) = false
is_driven (plan.Commit block stamp) = true

-- it calls one that leads a recovery
pub record Leads (state : Cluster) (what : Happened) : Type 0 where
  pub id : ℕ
  pub asked : PlanCall
  pub plans : PlanTable
  pub there : entry_at id state.plans ≡ Some plans
  pub brought : is_driven asked ≡ false → IsIn (message.Plan id asked) state.messages
  pub is : what ≡ led_at state id asked (Some plans)

-- it asks the NameNode, and reports and ends of recoveries come with messages
pub record Asks (state : Cluster) (what : Happened) : Type 0 where
  pub request : Request
  pub is : what ≡ request_named state request
  pub commit : (recovery : RecoveredBlock) → request.op ≡ op.CommitRecovery recovery
      → (leader : ℕ) × IsIn (message.CommitRecovery leader recovery.block recovery.stamp recovery.length recovery.nodes) state.messages
  pub report : (replica : ReportedReplica) → request.op ≡ op.Reported replica
      → (node : ℕ) × (request.caller ≡ node_principal node) × IsIn (message.Reported node replica.block replica.stamp replica.length) state.messages

-- it does nothing
pub record Nothing (state : Cluster) (what : Happened) : Type 0 where
  pub refusal : ClusterRefusal
  pub is : what ≡ event_lost state refusal

abbrev pub Does : Cluster → Option CallAt → Happened → Type 0
Does state found what = Nothing state what ⊎ (Calls state found what ⊎ (Leads state what ⊎ Asks state what))

called_does : (state : Cluster) (id now : ℕ) (called : NodeCall) (found : Option DataNode) → entry_at id state.nodes ≡ found
    → Does state (Some (record { node = id; now = now; call = called })) (called_at state id now called found)
called_does state id now called None e = inl (record { refusal = NoNode; is = refl })
called_does state id now called (Some node) e = inr (inl (record { id = id; now = now; called = called; node = node; asks = refl; there = e; is = refl }))

led_does : (state : Cluster) (found_call : Option CallAt) (id : ℕ) (asked : PlanCall) (found : Option PlanTable) → entry_at id state.plans ≡ found → (is_driven asked ≡ false → IsIn (message.Plan id asked) state.messages)
    → Does state found_call (led_at state id asked found)
led_does state found_call id asked None e brought = inl (record { refusal = NoNode; is = refl })
led_does state found_call id asked (Some plans) e brought = inr (inr (inl (record { id = id; asked = asked; plans = plans; there = e; brought = brought; is = refl })))

-- what a message brings
pub record Brings (state : Cluster) (found : Option Message) : Type 0 where
  pub plan : (id : ℕ) (asked : PlanCall) → found ≡ Some (message.Plan id asked) → is_driven asked ≡ false → IsIn (message.Plan id asked) state.messages
  pub report : (node block stamp bytes : ℕ) → found ≡ Some (message.Reported node block stamp bytes) → IsIn (message.Reported node block stamp bytes) state.messages
  pub commit : (leader block stamp bytes : ℕ) (nodes : List ℕ) → found ≡ Some (message.CommitRecovery leader block stamp bytes nodes) → IsIn (message.CommitRecovery leader block stamp bytes nodes) state.messages

recovery_is : (a b : RecoveredBlock) → op.CommitRecovery a ≡ op.CommitRecovery b → a ≡ b
recovery_is a b e = cc

replica_is : (a b : ReportedReplica) → op.Reported a ≡ op.Reported b → a ≡ b
replica_is a b e = cc

no_report : (a : RecoveredBlock) (b : ReportedReplica) → op.CommitRecovery a ≡ op.Reported b → ⊥
no_report a b e = cc

no_commit : (a : ReportedReplica) (b : RecoveredBlock) → op.Reported a ≡ op.CommitRecovery b → ⊥
no_commit a b e = cc

delivered_does : (state : Cluster) (now : ℕ) (found : Option Message) → Brings state found → Does state (call_brought now found) (message_delivered state now found)
delivered_does state now None brings = inl (record { refusal = NoMessage; is = refl })
delivered_does state now (Some (message.Node node asked)) brings = called_does state node now asked (entry_at node state.nodes) refl
delivered_does state now (Some (message.Plan node asked)) brings = led_does state None node asked (entry_at node state.plans) refl (brings.plan node asked refl)
delivered_does state now (Some (message.Reported node block stamp bytes)) brings =
    let made : ReportedReplica = record { block = block; stamp = stamp; length = bytes } in
    inr (inr (inr (record {
      request = report_request node now block stamp bytes;
      is = refl;
      commit = λ recovery e. absurd (no_commit made recovery e);
      report = λ replica e. (node, refl, subst (λ (own : ReportedReplica). IsIn (message.Reported node own.block own.stamp own.length) state.messages) (replica_is made replica e) (brings.report node block stamp bytes refl));
    })))
delivered_does state now (Some (message.CommitRecovery leader block stamp bytes nodes)) brings =
    let made : RecoveredBlock = record { block = block; stamp = stamp; length = bytes; nodes = nodes } in
    inr (inr (inr (record {
      request = commit_request leader now block stamp bytes nodes;
      is = refl;
      commit = λ recovery e. (leader, subst (λ (own : RecoveredBlock). IsIn (message.CommitRecovery leader own.block own.stamp own.length own.nodes) state.messages) (recovery_is made recovery e) (brings.commit leader block stamp bytes nodes refl));
      report = λ replica e. absurd (no_report made replica e);
    })))

plan_is : (node id : ℕ) (asked call : PlanCall) → Some (message.Plan node asked) ≡ Some (message.Plan id call) → asked ≡ call
plan_is node id asked call e = cc

no_plan : (node id : ℕ) (asked : NodeCall) (call : PlanCall) → Some (message.Node node asked) ≡ Some (message.Plan id call) → ⊥
no_plan node id asked call e = cc

undriven : (asked call : PlanCall) → is_driven asked ≡ true → asked ≡ call → is_driven call ≡ false → ⊥
undriven asked call h e k = let both : is_driven asked ≡ is_driven call = ap is_driven e in cc

call_brings : (state : Cluster) (node : ℕ) (asked : NodeCall) → Brings state (Some (message.Node node asked))
call_brings state node asked = record {
  plan = λ id call e d. absurd (no_plan node id asked call e);
  report = λ from block stamp bytes e. cc;
  commit = λ leader block stamp bytes nodes e. cc;
}

drive_brings : (state : Cluster) (node : ℕ) (asked : PlanCall) → is_driven asked ≡ true → Brings state (Some (message.Plan node asked))
drive_brings state node asked driven = record {
  plan = λ id call e d. absurd (undriven asked call driven (plan_is node id asked call e) d);
  report = λ from block stamp bytes e. cc;
  commit = λ leader block stamp bytes nodes e. cc;
}

outside_brings : (state : Cluster) (node : ℕ) (asked : DataCall) → Brings state (Some (as_message node asked))
outside_brings state node (outside.BeginWrite presented next) = call_brings state node (Presenting presented (call.Begin next))
outside_brings state node (outside.Packet presented offset bytes next) = call_brings state node (Presenting presented (call.Packet offset bytes next))
outside_brings state node (outside.Finalize presented count next) = call_brings state node (Presenting presented (call.Finalize count next))
outside_brings state node (outside.Read presented offset count) = call_brings state node (Presenting presented (call.Read offset count))
outside_brings state node (outside.Decide block stamp) = drive_brings state node (plan.Decide block stamp) refl
outside_brings state node (outside.Commit block stamp) = drive_brings state node (plan.Commit block stamp) refl

request_does : (state : Cluster) (request : Request) (from : Bool) → is_from_outside request.op ≡ from → Does state None (cond from (request_named state request) (event_lost state NotFromOutside))
request_does state request true from = inr (inr (inr (record {
  request = request;
  is = refl;
  commit = λ recovery e. let no : is_from_outside request.op ≡ false = ap is_from_outside e in absurd (differ (sym from ∙ no));
  report = λ replica e. let no : is_from_outside request.op ≡ false = ap is_from_outside e in absurd (differ (sym from ∙ no));
})))
  where
    differ : true ≡ false → ⊥
    differ e = cc
request_does state request false from = inl (record { refusal = NotFromOutside; is = refl })

pub does : (state : Cluster) (event : Event) → Does state (call_of state event) (event_happened state event)
does state (Name request) = request_does state request (is_from_outside request.op) refl
does state (Deliver number now) = delivered_does state now (message_at number state.messages) (record {
  plan = λ id asked e d. at_in state.messages number (message.Plan id asked) e;
  report = λ node block stamp bytes e. at_in state.messages number (message.Reported node block stamp bytes) e;
  commit = λ leader block stamp bytes nodes e. at_in state.messages number (message.CommitRecovery leader block stamp bytes nodes) e;
})
does state (Data node now asked) = delivered_does state now (Some (as_message node asked)) (outside_brings state node asked)

-- ---- all that it sends

pub event_sends : (Q : Message → Type 0) (state : Cluster) (event : Event)
    → ((own : Calls state (call_of state event) (event_happened state event)) → NodeMay Q own.node own.now own.called)
    → ((own : Leads state (event_happened state event)) → plan_refusal own.asked own.plans ≡ None → PlanSends Q own.id own.asked own.plans)
    → ((own : Asks state (event_happened state event)) → AllByRecursion Q (entry_messages (entry_of state own.request)))
    → AllByRecursion Q (event_happened state event).sent
event_sends Q state event nodes plans names = by (does state event)
  where
    by : Does state (call_of state event) (event_happened state event) → AllByRecursion Q (event_happened state event).sent
    by (inl own) = subst (λ (what : Happened). AllByRecursion Q what.sent) (sym own.is) tt
    by (inr (inl own)) = subst (λ (what : Happened). AllByRecursion Q what.sent) (sym own.is) (answer_all Q own.node own.now own.called (nodes own))
    by (inr (inr (inl own))) = subst (λ (what : Happened). AllByRecursion Q what.sent) (sym own.is) (plan_answer_all Q own.id own.asked own.plans (plans own))
    by (inr (inr (inr own))) = subst (λ (what : Happened). AllByRecursion Q what.sent) (sym own.is) (names own)
