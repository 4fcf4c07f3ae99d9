-- What comes of calls and deliveries.
use Rattle.std.proofs.Common.{◌≡◌, ℕ, ◌+◌, true, false, cond, List, length, reverse, refl, ap, ◌∙◌, subst, Option, Some, None, Result, Ok, Err}
use Rattle.std.specs.Prelude.{OnOk, IfOk, option_map, option_copied}
use denote.Ref.{Bor}
use Rattle.block_records.specs.Numbers.{entry_at}
use Rattle.hdfs_types.specs.declared.op.Request.{Request}
use Rattle.name_core.specs.NameCore as core
use Rattle.node_calls.specs.declared.call.NodeCall.{NodeCall}
use Rattle.node_calls.specs.declared.message.Message.{Message}
use Rattle.node_calls.specs.declared.message.Message.TheVariants as message
use Rattle.datanode.specs.NodeStep.{DataNode, node_answer}
use Rattle.datanode.specs.declared.answered.Answered.{Answered}
use Rattle.node_calls.specs.declared.call.PlanCall.{PlanCall}
use Rattle.block_recovery.specs.Plans.{PlanTable}
use Rattle.plan_steps.specs.PlanStep.{plan_answer}
use Rattle.plan_steps.specs.declared.answered.PlanAnswered.{PlanAnswered}
use Rattle.cluster_trace.specs.DataCall.{DataCall, as_message}
use Rattle.cluster_trace.specs.Kept.{brought_as}
use Rattle.cluster_trace.specs.Provenance.{call_brought, call_of}
use Rattle.cluster_trace.specs.Trace.{Cluster, Happened, event_lost, request_named, report_request, commit_request, node_called, called_at, leader_called, led_at, message_delivered, is_from_outside, event_happened, left_by, happens, outcome_of, event_outcome}
use Rattle.cluster_trace.specs.Typed.{CallFits}
use Rattle.cluster_trace.specs.declared.data_call.Asked.{Asked}
use Rattle.cluster_trace.specs.declared.event.Event.TheVariants.{Name, Data}
use Rattle.cluster_trace.specs.declared.outcome.ClusterRefusal.{ClusterRefusal}
use Rattle.cluster_trace.specs.declared.outcome.ClusterRefusal.TheVariants.{NoMessage, NoNode, NotFromOutside}
use Rattle.cluster_trace.specs.declared.outcome.EventAnswer.TheVariants.{Called, Led, Lost}
use Rattle.cluster_parts.specs.Carried.{message_of_found, found_message, carried_out, nodes_carried, plans_carried}
use Rattle.cluster_parts.specs.Leaders.{answer_led}
use Rattle.cluster_parts.specs.Nodes.{answer_at}
use Rattle.cluster_parts.specs.Noted.{answer_outcome, led_outcome}
use Rattle.cluster_parts.specs.Sent.{messages_of, AreLaid}
use Rattle.cluster_parts.specs.declared.carried.Carried.TheVariants as carried
use Rattle.cluster_parts.specs.declared.found.Found.{Found}
use Rattle.cluster_parts.specs.declared.sent.Batch.{Batch}
use Rattle.cluster_core.proofs.Naming.{state_with, sent_count}

-- ---- results

pub on_ok : {A E P Q : Type 0} (r : Result A E) → (P → Q) → OnOk r P → OnOk r Q
on_ok (Ok x) f h = f h
on_ok (Err e) f h = tt

pub if_ok : {A E : Type 0} (P Q : A → Type 0) (r : Result A E) → ((x : A) → P x → Q x) → IfOk r P → IfOk r Q
if_ok P Q (Ok x) f h = f x h
if_ok P Q (Err e) f h = tt

-- ---- outcomes

module _ (own : core.NameCore) (nodes : List (ℕ × DataNode)) (plans : List (ℕ × PlanTable)) (batches : List Batch) (count : ℕ) (laid : AreLaid (reverse own.entries) 0 batches count) where
  abbrev state : Cluster
  state = state_with own nodes plans batches

  many : count ≡ length (messages_of (reverse own.entries) batches)
  many = sent_count own batches count laid

  pub lost_outcome : (refusal : ClusterRefusal) → record { answer = Lost refusal; first = count + 1; count = 0 } ≡ outcome_of state (event_lost state refusal)
  lost_outcome refusal = ap (λ (n : ℕ). record { answer = Lost refusal; first = n + 1; count = 0 }) many

  pub called_outcome : (id now : ℕ) (asked : NodeCall) → answer_outcome count (answer_at id now asked nodes) ≡ outcome_of state (node_called state id now asked)
  called_outcome id now asked = by (entry_at id nodes)
    where
      by : (found : Option DataNode) → answer_outcome count (option_map (λ (node : DataNode). node_answer node now asked) found) ≡ outcome_of state (called_at state id now asked found)
      by None = lost_outcome NoNode
      by (Some node) = ap (λ (n : ℕ). record { answer = Called (node_answer node now asked).result; first = n + 1; count = length (node_answer node now asked).messages }) many

  pub led_by_outcome : (id : ℕ) (asked : PlanCall) → led_outcome count (answer_led id asked plans) ≡ outcome_of state (leader_called state id asked)
  led_by_outcome id asked = by (entry_at id plans)
    where
      by : (found : Option PlanTable) → led_outcome count (option_map (λ (own : PlanTable). plan_answer id asked own) found) ≡ outcome_of state (led_at state id asked found)
      by None = lost_outcome NoNode
      by (Some own) = ap (λ (n : ℕ). record { answer = Led (plan_answer id asked own).result; first = n + 1; count = length (plan_answer id asked own).messages }) many

  pub nowhere_outcome : (now : ℕ) (found : Option Message) → carried_out nodes plans now found ≡ carried.Nowhere → record { answer = Lost NoMessage; first = count + 1; count = 0 } ≡ outcome_of state (message_delivered state now found)
  nowhere_outcome now None e = lost_outcome NoMessage
  nowhere_outcome now (Some (message.Node node asked)) e = cc
  nowhere_outcome now (Some (message.Plan node asked)) e = cc
  nowhere_outcome now (Some (message.Reported node block stamp bytes)) e = cc
  nowhere_outcome now (Some (message.CommitRecovery node block stamp bytes others)) e = cc

  pub carried_outcome : (now : ℕ) (found : Option Message) (answered : Option Answered) → carried_out nodes plans now found ≡ carried.Called answered → answer_outcome count answered ≡ outcome_of state (message_delivered state now found)
  carried_outcome now None answered e = cc
  carried_outcome now (Some (message.Node node asked)) answered e =
      let is : answered ≡ answer_at node now asked nodes = cc in
      ap (answer_outcome count) is ∙ called_outcome node now asked
  carried_outcome now (Some (message.Plan node asked)) answered e = cc
  carried_outcome now (Some (message.Reported node block stamp bytes)) answered e = cc
  carried_outcome now (Some (message.CommitRecovery node block stamp bytes others)) answered e = cc

  pub carried_led : (now : ℕ) (found : Option Message) (answered : Option PlanAnswered) → carried_out nodes plans now found ≡ carried.Led answered → led_outcome count answered ≡ outcome_of state (message_delivered state now found)
  carried_led now None answered e = cc
  carried_led now (Some (message.Node node asked)) answered e = cc
  carried_led now (Some (message.Plan node asked)) answered e =
      let is : answered ≡ answer_led node asked plans = cc in
      ap (led_outcome count) is ∙ led_by_outcome node asked
  carried_led now (Some (message.Reported node block stamp bytes)) answered e = cc
  carried_led now (Some (message.CommitRecovery node block stamp bytes others)) answered e = cc

-- ---- what the NameNode is told

pub told_is : (state : Cluster) (now : ℕ) (found : Option Message) (request : Request) → carried_out state.nodes state.plans now found ≡ carried.Told request → request_named state request ≡ message_delivered state now found
told_is state now None request e = cc
told_is state now (Some (message.Node id asked)) request e = cc
told_is state now (Some (message.Plan id asked)) request e = cc
told_is state now (Some (message.Reported id own at count)) request e =
    let is : request ≡ report_request id now own at count = cc in
    ap (request_named state) is
told_is state now (Some (message.CommitRecovery id own at count others)) request e =
    let is : request ≡ commit_request id now own at count others = cc in
    ap (request_named state) is

-- no node has changed
pub told_stays : (nodes : List (ℕ × DataNode)) (plans : List (ℕ × PlanTable)) (now : ℕ) (found : Option Message) (request : Request) → carried_out nodes plans now found ≡ carried.Told request → nodes_carried nodes now found ≡ nodes
told_stays nodes plans now None request e = refl
told_stays nodes plans now (Some (message.Node id asked)) request e = cc
told_stays nodes plans now (Some (message.Plan id asked)) request e = cc
told_stays nodes plans now (Some (message.Reported id own at count)) request e = refl
told_stays nodes plans now (Some (message.CommitRecovery id own at count others)) request e = refl

-- and no plan
pub told_leaves : (nodes : List (ℕ × DataNode)) (plans : List (ℕ × PlanTable)) (now : ℕ) (found : Option Message) (request : Request) → carried_out nodes plans now found ≡ carried.Told request → plans_carried plans found ≡ plans
told_leaves nodes plans now None request e = refl
told_leaves nodes plans now (Some (message.Node id asked)) request e = refl
told_leaves nodes plans now (Some (message.Plan id asked)) request e = cc
told_leaves nodes plans now (Some (message.Reported id own at count)) request e = refl
told_leaves nodes plans now (Some (message.CommitRecovery id own at count others)) request e = refl

-- ---- requests from outside

pub taken : (state : Cluster) (request : Request) → is_from_outside request.op ≡ true → event_happened state (Name request) ≡ request_named state request
taken state request e = ap (λ b. cond b (request_named state request) (event_lost state NotFromOutside)) e

pub not_taken : (state : Cluster) (request : Request) → is_from_outside request.op ≡ false → event_happened state (Name request) ≡ event_lost state NotFromOutside
not_taken state request e = ap (λ b. cond b (request_named state request) (event_lost state NotFromOutside)) e

-- ---- calls from outside

module _ (state : Cluster) (node now : ℕ) (own : DataCall) (asked : Asked) (is : brought_as node asked ≡ as_message node own) where
  abbrev brought : Happened
  brought = message_delivered state now (Some (brought_as node asked))

  pub data_happens : left_by state brought ≡ happens state (Data node now own)
  data_happens = ap (λ (own : Message). left_by state (message_delivered state now (Some own))) is

  pub data_outcome : outcome_of state brought ≡ event_outcome state (Data node now own)
  data_outcome = ap (λ (own : Message). outcome_of state (message_delivered state now (Some own))) is

  pub data_presents : CallFits (call_brought now (Some (brought_as node asked))) → CallFits (call_of state (Data node now own))
  data_presents fits = subst (λ (own : Message). CallFits (call_brought now (Some own))) is fits

-- ---- what was found, lent

pub lent : (found : Option (Bor Found)) → option_map message_of_found (option_copied found) ≡ found_message found
lent None = refl
lent (Some own) = refl
