use Rattle.std.proofs.Common.{◌≡◌, sym, ap, ◌∙◌}
use Rattle.cluster_trace.specs.DataCall.{as_message}
use Rattle.cluster_trace.specs.Kept.{brought_as}
use Rattle.cluster_trace.specs.Trace.{node_called, leader_called, outcome_of, event_outcome}
use Rattle.cluster_trace.specs.declared.data_call.Asked.TheVariants.{Replica, Plan}
use Rattle.cluster_trace.specs.declared.event.Event.TheVariants.{Data}
use Rattle.cluster_trace.specs.declared.outcome.Outcome.{Outcome}
use Rattle.cluster_core.proofs.Answering.{on_ok, if_ok, data_happens, data_outcome, data_presents}
use Rattle.cluster_core.proofs.cluster.Cluster.data.Goals as goal

pub returns-in-Replica-clause-ok : goal.returns-in-Replica-clause-ok
returns-in-Replica-clause-ok c =
    let is : brought_as c.args.node (Replica c.in-Replica.asked) ≡ as_message c.args.node c.args.call.now = ap (brought_as c.args.node) (sym c.in-Replica.is) ∙ c.as_asked.ensures c.args.node in
    on_ok c.call.result (λ h. h ∙ data_happens c.args.self.now c.args.node c.args.now c.args.call.now (Replica c.in-Replica.asked) is) c.call.ensures.ok

pub returns-in-Replica-clause-outcome : goal.returns-in-Replica-clause-outcome
returns-in-Replica-clause-outcome c =
    let is : brought_as c.args.node (Replica c.in-Replica.asked) ≡ as_message c.args.node c.args.call.now = ap (brought_as c.args.node) (sym c.in-Replica.is) ∙ c.as_asked.ensures c.args.node in
    if_ok (λ (own : Outcome). own ≡ outcome_of c.args.self.now (node_called c.args.self.now c.args.node c.args.now c.in-Replica.asked.now)) (λ (own : Outcome). own ≡ event_outcome c.args.self.now (Data c.args.node c.args.now c.args.call.now))
    c.call.result (λ own h. h ∙ data_outcome c.args.self.now c.args.node c.args.now c.args.call.now (Replica c.in-Replica.asked) is) c.call.ensures.outcome

pub returns-in-Replica-clause-bytes : goal.returns-in-Replica-clause-bytes
returns-in-Replica-clause-bytes c =
    let is : brought_as c.args.node (Replica c.in-Replica.asked) ≡ as_message c.args.node c.args.call.now = ap (brought_as c.args.node) (sym c.in-Replica.is) ∙ c.as_asked.ensures c.args.node in
    on_ok c.call.result (λ h. data_presents c.args.self.now c.args.node c.args.now c.args.call.now (Replica c.in-Replica.asked) is h) c.call.ensures.bytes

pub returns-in-Plan-clause-ok : goal.returns-in-Plan-clause-ok
returns-in-Plan-clause-ok c =
    let is : brought_as c.args.node (Plan c.in-Plan.asked) ≡ as_message c.args.node c.args.call.now = ap (brought_as c.args.node) (sym c.in-Plan.is) ∙ c.as_asked.ensures c.args.node in
    on_ok c.lead.result (λ h. h ∙ data_happens c.args.self.now c.args.node c.args.now c.args.call.now (Plan c.in-Plan.asked) is) c.lead.ensures.ok

pub returns-in-Plan-clause-outcome : goal.returns-in-Plan-clause-outcome
returns-in-Plan-clause-outcome c =
    let is : brought_as c.args.node (Plan c.in-Plan.asked) ≡ as_message c.args.node c.args.call.now = ap (brought_as c.args.node) (sym c.in-Plan.is) ∙ c.as_asked.ensures c.args.node in
    if_ok (λ (own : Outcome). own ≡ outcome_of c.args.self.now (leader_called c.args.self.now c.args.node c.in-Plan.asked)) (λ (own : Outcome). own ≡ event_outcome c.args.self.now (Data c.args.node c.args.now c.args.call.now))
    c.lead.result (λ own h. h ∙ data_outcome c.args.self.now c.args.node c.args.now c.args.call.now (Plan c.in-Plan.asked) is) c.lead.ensures.outcome

pub returns-in-Plan-clause-bytes : goal.returns-in-Plan-clause-bytes
returns-in-Plan-clause-bytes c =
    let is : brought_as c.args.node (Plan c.in-Plan.asked) ≡ as_message c.args.node c.args.call.now = ap (brought_as c.args.node) (sym c.in-Plan.is) ∙ c.as_asked.ensures c.args.node in
    on_ok c.lead.result (λ h. data_presents c.args.self.now c.args.node c.args.now c.args.call.now (Plan c.in-Plan.asked) is tt) c.lead.ensures.ok
