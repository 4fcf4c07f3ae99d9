-- A message as it was found and lent is that of its number.
use Rattle.std.proofs.Common.{◌≡◌, ℕ, List, reverse, sym, ap, ◌∙◌, Option}
use Rattle.std.specs.Prelude.{option_map, option_copied}
use Rattle.std.proofs.lemmas.List.{reverse-reverse}
use denote.Ref.{Bor}
use Rattle.history.specs.declared.entry.HistoryEntry.{HistoryEntry}
use Rattle.name_core.specs.NameCore as core
use Rattle.node_calls.specs.declared.message.Message.{Message}
use Rattle.datanode.specs.NodeStep.{DataNode}
use Rattle.block_recovery.specs.Plans.{PlanTable}
use Rattle.cluster_trace.specs.Trace.{Cluster, message_at}
use Rattle.cluster_parts.specs.Carried.{message_of_found, found_message, carried_out}
use Rattle.cluster_parts.specs.Sent.{messages_of}
use Rattle.cluster_parts.specs.declared.carried.Carried.{Carried}
use Rattle.cluster_parts.specs.declared.found.Found.{Found}
use Rattle.cluster_parts.specs.declared.sent.Batch.{Batch}
use Rattle.cluster_core.proofs.Naming.{state_with}
use Rattle.cluster_core.proofs.Answering.{lent}

pub found_is : (entries history : List HistoryEntry) (batches roomy : List Batch) (number : ℕ) (found : Option Found) (own : Option (Bor Found)) → reverse history ≡ entries → roomy ≡ batches
    → option_map message_of_found found ≡ message_at number (messages_of history roomy) → option_copied own ≡ found → found_message own ≡ message_at number (messages_of (reverse entries) batches)
found_is entries history batches roomy number found own past same is copied =
    sym (lent own) ∙ ap (option_map message_of_found) copied ∙ is ∙ ap (λ (own : List Batch). message_at number (messages_of history own)) same
    ∙ ap (λ (own : List HistoryEntry). message_at number (messages_of own batches)) (sym (reverse-reverse history) ∙ ap reverse past)

-- what comes of it is what comes of the message
pub carried_is : (own : core.NameCore) (nodes : List (ℕ × DataNode)) (plans : List (ℕ × PlanTable)) (batches : List Batch) (state : Cluster) (number now : ℕ) (found : Option Message) (carried other : Carried)
    → found ≡ message_at number (messages_of (reverse own.entries) batches) → carried ≡ carried_out nodes plans now found → carried ≡ other → state_with own nodes plans batches ≡ state
    → carried_out state.nodes state.plans now (message_at number state.messages) ≡ other
carried_is own nodes plans batches state number now found carried other is out same at =
    ap (λ (own : Cluster). carried_out own.nodes own.plans now (message_at number own.messages)) (sym at) ∙ ap (carried_out nodes plans now) (sym is) ∙ sym out ∙ same
