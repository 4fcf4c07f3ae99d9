-- Messages carry what plans decided.
use Rattle.std.proofs.Common.{◌≡◌, ℕ, ◌==◌, Bool, true, false, ◌||◌, ◌&&◌, List, [], ◌∷◌, ◌++◌, map, Option, Some, None, unwrap_or, refl, ap, ◌∙◌, subst, cond}
use Rattle.std.proofs.lemmas.Bool.{eq-eqb}
use Rattle.std.specs.Bool.{⊤}
use Rattle.std.specs.List.{AllByRecursion}
use Rattle.std.specs.Option.{is_some, option_map}
use Rattle.block_records.specs.Numbers.{is_number, has_number, entry_at}
use Rattle.block_recovery.specs.Plans.{PlanTable, plan_at, with_plan_changed, refused_without, refused_plan_commit, decision_for, with_decision}
use Rattle.block_recovery.specs.declared.decision.Commit.{Commit}
use Rattle.block_recovery.specs.declared.decision.Decision.{Decision}
use Rattle.recovery_updates.specs.declared.fault.PlanRefusal.{PlanRefusal}
use Rattle.recovery_updates.specs.declared.fault.PlanRefusal.TheVariants.{Stranger}
use Rattle.block_recovery.specs.declared.plan.Plan.{Plan}
use Rattle.block_recovery.proofs.Steps.{plan_changed}
use Rattle.block_recovery.proofs.Tables.{itself}
use Rattle.node_ids.specs.NodeId.{node_of}
use Rattle.block_answers.specs.Commands.{Commands}
use Rattle.block_answers.specs.declared.commands.CopyOrder.{CopyOrder}
use Rattle.block_answers.specs.declared.commands.Recover.{Recover}
use Rattle.block_answers.specs.declared.commands.Removal.{Removal}
use Rattle.hdfs_types.specs.declared.op.Request.{Request}
use Rattle.hdfs_types.specs.declared.reply.Reply.{Reply}
use Rattle.hdfs_types.specs.declared.reply.Reply.TheVariants as reply
use Rattle.flat_rows.specs.declared.verdict.Verdict.{Verdict}
use Rattle.flat_rows.specs.declared.verdict.Verdict.TheVariants.{Done, Denied, Refused}
use Rattle.history.specs.LegalHistory.{verdict_of}
use Rattle.node_calls.specs.declared.call.NodeCall.{NodeCall}
use Rattle.node_calls.specs.declared.call.NodeCall.TheVariants.{Presenting, Invalidate, Keys}
use Rattle.node_calls.specs.declared.call.PlanCall.{PlanCall}
use Rattle.node_calls.specs.declared.call.PlanCall.TheVariants as plan
use Rattle.node_calls.specs.declared.call.TokenCall.{TokenCall}
use Rattle.node_calls.specs.declared.call.TokenCall.TheVariants as call
use Rattle.node_calls.specs.declared.message.Message.{Message}
use Rattle.node_calls.specs.declared.message.Message.TheVariants as message
use Rattle.call_parts.specs.declared.presented.Presented.{Presented}
use Rattle.node_calls.specs.declared.refusal.NodeRefusal.{NodeRefusal}
use Rattle.node_calls.specs.declared.refusal.ReplicaRefusal.{ReplicaRefusal}
use Rattle.replicas.specs.Asking.{asked_by}
use Rattle.replicas.specs.Sending.{call_sends, forward, report, to_primary}
use Rattle.replica_steps.specs.ReplicaStep.{held_at, removal_refusal}
use Rattle.replica_steps.specs.declared.held.Held.{Held}
use Rattle.datanode.specs.NodeStep.{DataNode, node_answer, presented_answer, told_by, removal_told, clock_with, call_refusal}
use Rattle.plan_steps.specs.PlanStep.{plan_refusal, plans_with, left_unless, plans_after, no_plan, no_decision, no_commit, decision_there, commit_there, presented_by_leader, to_each, plan_sends, told_unless, plan_answer}
use Rattle.cluster_trace.specs.DataCall.{DataCall, as_message}
use Rattle.cluster_trace.specs.DataCall as outside
use Rattle.cluster_trace.specs.Provenance.{CallAt, call_brought, call_of}
use Rattle.cluster_trace.specs.Trace.{Cluster, ClusterOpening, Happened, event_lost, request_named, called_at, led_at, message_delivered, message_at, is_from_outside, report_request, commit_request, recover_message, removal_message, copy_message, command_messages, told_messages, sent_by, event_happened, left_by, happens, after}
use Rattle.cluster_trace.specs.declared.event.Event.{Event}
use Rattle.cluster_trace.specs.declared.event.Event.TheVariants.{Name, Deliver, Data}
use Rattle.cluster_trace.specs.declared.outcome.ClusterRefusal.TheVariants.{NotFromOutside}
use Rattle.cluster_trace.proofs.Each.{some_is, never_some, each_append, each_more, each_map}
use Rattle.cluster_trace.proofs.Sound.{message_brings}
use Rattle.fencing_laws.specs.Fencing.{plan_in, HasDecided, IsDecided, UpdatesCarryDecisions, UpdatesAreDecided, CommitsAreDecided}
use Rattle.fencing_laws.proofs.Behind.{set_there}
use Rattle.fencing_laws.proofs.Plans.{event_stays}

-- ---- what a message carries was decided

abbrev pub CommitDecided : Cluster → ℕ → ℕ → ℕ → ℕ → Type 0
CommitDecided state leader block stamp count = (decision : Decision) × HasDecided state leader block stamp decision × (decision.length ≡ count)

abbrev pub AskCarries : Cluster → ℕ → Presented → TokenCall → Type 0
AskCarries state node presented (call.Begin next) = ⊤
AskCarries state node presented (call.Packet offset bytes next) = ⊤
AskCarries state node presented (call.Finalize count next) = ⊤
AskCarries state node presented (call.Read offset count) = ⊤
AskCarries state node presented call.InitRecovery = ⊤
AskCarries state node presented (call.UpdateReplica count) = IsDecided state node presented count
AskCarries state node presented (call.SendCopy to) = ⊤
AskCarries state node presented (call.TakeCopy bytes) = ⊤

abbrev pub CallCarries : Cluster → ℕ → NodeCall → Type 0
CallCarries state node (Presenting presented asked) = AskCarries state node presented asked
CallCarries state node (Invalidate block stamp) = ⊤
CallCarries state node (Keys update) = ⊤

abbrev pub Carries : Cluster → Message → Type 0
Carries state (message.Node node asked) = CallCarries state node asked
Carries state (message.Plan node asked) = ⊤
Carries state (message.Reported node block stamp count) = ⊤
Carries state (message.CommitRecovery leader block stamp count nodes) = CommitDecided state leader block stamp count

-- ---- what was decided stays so

pub decided_stays : (state : Cluster) (event : Event) (leader block stamp : ℕ) (decision : Decision) → HasDecided state leader block stamp decision → HasDecided (happens state event) leader block stamp decision
decided_stays state event leader block stamp decision h =
    let stays = event_stays state event leader block stamp h.0 h.1 in
    (stays.now, stays.there, stays.extends.decision decision h.2)

module _ (state : Cluster) (event : Event) where
  ask_stays : (node : ℕ) (presented : Presented) (asked : TokenCall) → AskCarries state node presented asked → AskCarries (happens state event) node presented asked
  ask_stays node presented (call.Begin next) h = tt
  ask_stays node presented (call.Packet offset bytes next) h = tt
  ask_stays node presented (call.Finalize count next) h = tt
  ask_stays node presented (call.Read offset count) h = tt
  ask_stays node presented call.InitRecovery h = tt
  ask_stays node presented (call.UpdateReplica count) h = (h.0, h.1, decided_stays state event h.0 presented.block presented.stamp h.1 h.2, h.3, h.4, h.5)
  ask_stays node presented (call.SendCopy to) h = tt
  ask_stays node presented (call.TakeCopy bytes) h = tt

  message_stays : (own : Message) → Carries state own → Carries (happens state event) own
  message_stays (message.Node node (Presenting presented asked)) h = ask_stays node presented asked h
  message_stays (message.Node node (Invalidate block stamp)) h = tt
  message_stays (message.Node node (Keys update)) h = tt
  message_stays (message.Plan node asked) h = tt
  message_stays (message.Reported node block stamp count) h = tt
  message_stays (message.CommitRecovery leader block stamp count nodes) h = (h.0, decided_stays state event leader block stamp h.0 h.1, h.2)

-- ---- what the NameNode and replicas send carries no decision

module _ (state : Cluster) where
  commands_carry : (node : ℕ) (commands : Commands) → AllByRecursion (Carries state) (command_messages node commands)
  commands_carry node commands = (
    tt,
    each_append (Carries state) (map (recover_message node) commands.recoveries) (map (removal_message node) commands.removals ++ map (copy_message node) commands.copies)
        (each_map (Carries state) (recover_message node) (λ (own : Recover). tt) commands.recoveries)
        (each_append (Carries state) (map (removal_message node) commands.removals) (map (copy_message node) commands.copies)
        (each_map (Carries state) (removal_message node) (λ (own : Removal). tt) commands.removals)
        (each_map (Carries state) (copy_message node) (λ (own : CopyOrder). tt) commands.copies)),
  )

  told_carry : (caller : Option ℕ) (told : Reply) → AllByRecursion (Carries state) (told_messages caller told)
  told_carry (Some node) (reply.Commands commands) = commands_carry node commands
  told_carry _ told = tt

  verdict_carries : (caller : Option ℕ) (verdict : Verdict) → AllByRecursion (Carries state) (sent_by caller verdict)
  verdict_carries caller (Done told) = told_carry caller told
  verdict_carries caller (Denied denial) = tt
  verdict_carries caller (Refused refusal) = tt

  forward_carries : (presented : Presented) (asked : List ℕ → TokenCall) (next : List ℕ) → ((node : ℕ) (rest : List ℕ) → AskCarries state node presented (asked rest)) → AllByRecursion (Carries state) (forward presented asked next)
  forward_carries presented asked [] h = tt
  forward_carries presented asked (first ∷ next) h = (h first next, tt)

  primary_carries : (primary : Option ℕ) (told : ℕ → Message) → ((node : ℕ) → Carries state (told node)) → AllByRecursion (Carries state) (to_primary primary told)
  primary_carries None told h = tt
  primary_carries (Some primary) told h = (h primary, tt)

  sends_carry : (node : ℕ) (presented : Presented) (asked : TokenCall) (held : Held) → AllByRecursion (Carries state) (call_sends node presented asked held)
  sends_carry node presented (call.Begin next) held = forward_carries presented call.Begin next (λ node rest. tt)
  sends_carry node presented (call.Packet offset bytes next) held = forward_carries presented (call.Packet offset bytes) next (λ node rest. tt)
  sends_carry node presented (call.Finalize count next) held =
      each_append (Carries state) (forward presented (call.Finalize count) next) (report node presented count) (forward_carries presented (call.Finalize count) next (λ node rest. tt)) (tt, tt)
  sends_carry node presented (call.Read offset count) held = tt
  sends_carry node presented call.InitRecovery held = primary_carries (node_of presented.caller) _ (λ primary. tt)
  sends_carry node presented (call.UpdateReplica count) held =
      each_append (Carries state) (to_primary (node_of presented.caller) _) (report node presented count) (primary_carries (node_of presented.caller) _ (λ primary. tt)) (tt, tt)
  sends_carry node presented (call.SendCopy to) held = (tt, tt)
  sends_carry node presented (call.TakeCopy bytes) held = (tt, tt)

  presented_carries : (node : DataNode) (clock : ℕ) (own : Presented) (asked : TokenCall) → AllByRecursion (Carries state) (presented_answer node clock own asked).messages
  unfolding presented_answer
  presented_carries node clock own asked = by (call_refusal node clock own asked)
    where
      by : (refused : Option NodeRefusal) → AllByRecursion (Carries state) (told_by node own asked refused).messages
      by (Some refusal) = tt
      by None = sends_carry node.id own asked (held_at own.block node.blocks)

  answer_carries : (node : DataNode) (now : ℕ) (asked : NodeCall) → AllByRecursion (Carries state) (node_answer node now asked).messages
  unfolding node_answer
  answer_carries node now (Presenting own asked) = presented_carries node (clock_with node now) (asked_by node.id own asked) asked
  answer_carries node now (Keys update) = tt
  answer_carries node now (Invalidate block stamp) = by (removal_refusal stamp (held_at block node.blocks).replica)
    where
      by : (refused : Option ReplicaRefusal) → AllByRecursion (Carries state) (removal_told refused).messages
      by (Some refusal) = tt
      by None = tt

-- ---- what a leading node sends was decided

all_known : (nodes : List ℕ) → AllByRecursion (λ (node : ℕ). has_number node nodes ≡ true) nodes
all_known [] = tt
all_known (first ∷ nodes) = (
  ap (λ (b : Bool). b || has_number first nodes) (eq-eqb first first refl),
  each_more (λ (node : ℕ). has_number node nodes ≡ true) (λ (node : ℕ). has_number node (first ∷ nodes) ≡ true) (λ node h. by (first == node) (has_number node nodes) h) nodes (all_known nodes),
)
  where
    by : (a b : Bool) → b ≡ true → (a || b) ≡ true
    by true b h = refl
    by false b h = h

each_of : {X Y : Type 0} (P : X → Type 0) (Q : Y → Type 0) (f : X → Y) → ((x : X) → P x → Q (f x)) → (xs : List X) → AllByRecursion P xs → AllByRecursion Q (map f xs)
each_of P Q f h [] p = tt
each_of P Q f h (x ∷ xs) p = (h x p.0, each_of P Q f h xs p.1)

same_plan : (block stamp : ℕ) → (is_number block block && is_number stamp stamp) ≡ true
same_plan block stamp = ap (λ b. b && is_number stamp stamp) (itself block) ∙ itself stamp

-- the node with this id leads by these plans from now on
record Leads (state : Cluster) (id : ℕ) (plans : PlanTable) : Type 0 where
  is : entry_at id state.plans ≡ Some plans

module _ (state : Cluster) (id : ℕ) (plans : PlanTable) where
  plan_led : (own : PlanTable) (block stamp : ℕ) (found : Option Plan) → Leads state id own → plan_at block stamp own ≡ found → plan_in state id block stamp ≡ found
  plan_led own block stamp found leads e = ap (λ (table : Option PlanTable). plan_at block stamp (unwrap_or table [])) leads.is ∙ e

  updates_carry : (block stamp : ℕ) → Leads state id (with_plan_changed with_decision block stamp plans) → AllByRecursion (Carries state) (plan_sends id (plan.Decide block stamp) plans)
  updates_carry block stamp leads = by (plan_at block stamp plans) refl
    where
      has : (own : Plan) (decision : Decision) → plan_at block stamp plans ≡ Some own → decision_for own ≡ Some decision → HasDecided state id block stamp decision
      has own decision at is = (
        with_decision own,
        plan_led (with_plan_changed with_decision block stamp plans) block stamp (Some (with_decision own)) leads
            (plan_changed with_decision block stamp block stamp plans ∙ (ap (λ b. cond b (option_map with_decision (plan_at block stamp plans)) (plan_at block stamp plans)) (same_plan block stamp) ∙ ap (option_map with_decision) at)),
        is,
      )

      sent : (own : Plan) → plan_at block stamp plans ≡ Some own → (found : Option Decision) → decision_for own ≡ found
          → AllByRecursion (Carries state) (to_each (presented_by_leader id block stamp own.token) (call.UpdateReplica (unwrap_or found no_decision).length) (unwrap_or found no_decision).nodes)
      sent own at None is = tt
      sent own at (Some decision) is =
          each_of (λ (node : ℕ). has_number node decision.nodes ≡ true) (Carries state) (λ (node : ℕ). message.Node node (Presenting (presented_by_leader id block stamp own.token) (call.UpdateReplica decision.length)))
          (λ (node : ℕ) known. (id, decision, has own decision at is, refl, known, refl)) decision.nodes (all_known decision.nodes)

      by : (found : Option Plan) → plan_at block stamp plans ≡ found
          → AllByRecursion (Carries state) (to_each (presented_by_leader id block stamp (unwrap_or found no_plan).token) (call.UpdateReplica (decision_there (unwrap_or found no_plan)).length) (decision_there (unwrap_or found no_plan)).nodes)
      by None at = tt
      by (Some own) at = sent own at (decision_for own) refl

  abbrev commit_by : Plan → Option Decision → Option Commit
  commit_by own found = option_map (λ (decision : Decision). record { length = decision.length; nodes = own.updated }) found

  commit_carries : (block stamp : ℕ) → Leads state id plans → refused_plan_commit (plan_at block stamp plans) ≡ None → AllByRecursion (Carries state) (plan_sends id (plan.Commit block stamp) plans)
  commit_carries block stamp leads allowed = by (plan_at block stamp plans) refl allowed
    where
      told : (own : Plan) → plan_at block stamp plans ≡ Some own → (found : Option Decision) → own.decision ≡ found → cond (is_some found) (refused_without own.updated) (Some Stranger) ≡ None
          → CommitDecided state id block stamp (unwrap_or (commit_by own found) no_commit).length
      told own at None is refused = cc
      told own at (Some decision) is refused = (decision, (own, plan_led plans block stamp (Some own) leads at, is), refl)

      by : (found : Option Plan) → plan_at block stamp plans ≡ found → refused_plan_commit found ≡ None → CommitDecided state id block stamp (commit_there (unwrap_or found no_plan)).length × ⊤
      by None at refused = cc
      by (Some own) at refused = (told own at own.decision refl refused, tt)

  inits_carry : (presented : Presented) (nodes : List ℕ) → AllByRecursion (Carries state) (to_each presented call.InitRecovery nodes)
  inits_carry presented nodes = each_map (Carries state) (λ (node : ℕ). message.Node node (Presenting presented call.InitRecovery)) (λ (node : ℕ). tt) nodes

  sends_decided : (asked : PlanCall) → plan_refusal asked plans ≡ None → Leads state id (plans_with asked plans) → AllByRecursion (Carries state) (plan_sends id asked plans)
  sends_decided (plan.Recover block stamp nodes token) allowed leads = inits_carry (presented_by_leader id block stamp token) nodes
  sends_decided (plan.Reply node block stamp own count) allowed leads = tt
  sends_decided (plan.Decide block stamp) allowed leads = updates_carry block stamp leads
  sends_decided (plan.Updated node block stamp) allowed leads = tt
  sends_decided (plan.Commit block stamp) allowed leads = commit_carries block stamp leads allowed

  plan_answer_carries : (asked : PlanCall) → Leads state id (plans_after asked plans) → AllByRecursion (Carries state) (plan_answer id asked plans).messages
  unfolding plans_after plan_answer
  plan_answer_carries asked = by (plan_refusal asked plans) refl
    where
      by : (refused : Option PlanRefusal) → plan_refusal asked plans ≡ refused → Leads state id (left_unless asked plans refused) → AllByRecursion (Carries state) (told_unless id asked plans refused).messages
      by (Some refusal) e leads = tt
      by None e leads = sends_decided asked e leads

-- ---- every event

abbrev SentCarries : Cluster → Happened → Type 0
SentCarries state what = AllByRecursion (Carries (left_by state what)) what.sent

named_carries : (state : Cluster) (request : Request) → SentCarries state (request_named state request)
named_carries state request = verdict_carries (left_by state (request_named state request)) (node_of request.caller) (verdict_of state.opening state.entries request)

called_carries : (state : Cluster) (id now : ℕ) (asked : NodeCall) (found : Option DataNode) → SentCarries state (called_at state id now asked found)
called_carries state id now asked None = tt
called_carries state id now asked (Some node) = answer_carries (left_by state (called_at state id now asked (Some node))) node now asked

led_carries : (state : Cluster) (id : ℕ) (asked : PlanCall) (found : Option PlanTable) → entry_at id state.plans ≡ found → SentCarries state (led_at state id asked found)
led_carries state id asked None e = tt
led_carries state id asked (Some plans) e =
    plan_answer_carries (left_by state (led_at state id asked (Some plans))) id plans asked
    (record { is = set_there id id plans (plans_after asked plans) state.plans e ∙ ap (λ b. cond b (Some (plans_after asked plans)) (entry_at id state.plans)) (itself id) })

delivered_carries : (state : Cluster) (now : ℕ) (found : Option Message) → SentCarries state (message_delivered state now found)
delivered_carries state now None = tt
delivered_carries state now (Some (message.Node node asked)) = called_carries state node now asked (entry_at node state.nodes)
delivered_carries state now (Some (message.Plan node asked)) = led_carries state node asked (entry_at node state.plans) refl
delivered_carries state now (Some (message.Reported node block stamp count)) = named_carries state (report_request node now block stamp count)
delivered_carries state now (Some (message.CommitRecovery node block stamp count nodes)) = named_carries state (commit_request node now block stamp count nodes)

asked_carries : (state : Cluster) (request : Request) (outside : Bool) → SentCarries state (cond outside (request_named state request) (event_lost state NotFromOutside))
asked_carries state request true = named_carries state request
asked_carries state request false = tt

event_carries : (state : Cluster) (event : Event) → SentCarries state (event_happened state event)
event_carries state (Name request) = asked_carries state request (is_from_outside request.op)
event_carries state (Deliver number now) = delivered_carries state now (message_at number state.messages)
event_carries state (Data node now asked) = delivered_carries state now (Some (as_message node asked))

pub all_carry : (opening : ClusterOpening) (events : List Event) → AllByRecursion (Carries (after opening events)) (after opening events).messages
all_carry opening [] = tt
all_carry opening (event ∷ earlier) =
    let state = after opening earlier in
    each_append (Carries (happens state event)) state.messages (event_happened state event).sent
    (each_more (Carries state) (Carries (happens state event)) (message_stays state event) state.messages (all_carry opening earlier)) (event_carries state event)

-- ---- the laws

brought : (state : Cluster) (now : ℕ) (found : Option Message) (asked : CallAt) → ((own : Message) → found ≡ Some own → Carries state own) → call_brought now found ≡ Some asked → CallCarries state asked.node asked.call
brought state now None asked carries e = absurd (never_some asked e)
brought state now (Some (message.Node node own)) asked carries e =
    let at : CallAt = record { node = node; now = now; call = own } in
    subst (λ (one : CallAt). CallCarries state one.node one.call) (some_is at asked e) (carries (message.Node node own) refl)
brought state now (Some (message.Plan node own)) asked carries e = absurd (never_some asked e)
brought state now (Some (message.Reported node block stamp count)) asked carries e = absurd (never_some asked e)
brought state now (Some (message.CommitRecovery node block stamp count nodes)) asked carries e = absurd (never_some asked e)

-- from outside no replica is recovered
outside_carries : (state : Cluster) (node : ℕ) (asked : DataCall) → Carries state (as_message node asked)
outside_carries state node (outside.BeginWrite presented next) = tt
outside_carries state node (outside.Packet presented offset bytes next) = tt
outside_carries state node (outside.Finalize presented count next) = tt
outside_carries state node (outside.Read presented offset count) = tt
outside_carries state node (outside.Decide block stamp) = tt
outside_carries state node (outside.Commit block stamp) = tt

asked_carried : (state : Cluster) (event : Event) (asked : CallAt) → AllByRecursion (Carries state) state.messages → call_of state event ≡ Some asked → CallCarries state asked.node asked.call
asked_carried state (Name request) asked all e = absurd (never_some asked e)
asked_carried state (Deliver number now) asked all e =
    brought state now (message_at number state.messages) asked (λ own is. message_brings (Carries state) state.messages number own all is) e
asked_carried state (Data node now own) asked all e =
    brought state now (Some (as_message node own)) asked (λ other is. subst (Carries state) (some_is (as_message node own) other is) (outside_carries state node own)) e

pub updates_carry_decisions : UpdatesCarryDecisions
updates_carry_decisions opening events number node count presented is =
    message_brings (Carries (after opening events)) (after opening events).messages number (message.Node node (Presenting presented (call.UpdateReplica count))) (all_carry opening events) is

pub updates_are_decided : UpdatesAreDecided
updates_are_decided opening earlier event node count presented serves =
    asked_carried (after opening earlier) event (record { node = node; now = serves.now; call = Presenting presented (call.UpdateReplica count) }) (all_carry opening earlier) serves.asks

pub commits_are_decided : CommitsAreDecided
commits_are_decided opening events number leader block stamp count nodes is =
    message_brings (Carries (after opening events)) (after opening events).messages number (message.CommitRecovery leader block stamp count nodes) (all_carry opening events) is
