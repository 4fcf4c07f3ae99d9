use Rattle.std.proofs.Common.{◌≡◌, ℕ, ◌+◌, List, sym, ap, ◌∙◌, Option}
use Rattle.node_calls.specs.declared.message.Message.{Message}
use Rattle.datanode.specs.NodeStep.{DataNode}
use Rattle.block_recovery.specs.Plans.{PlanTable}
use Rattle.cluster_trace.specs.Trace.{Cluster, request_named, message_delivered, message_at, left_by, outcome_of}
use Rattle.cluster_trace.specs.declared.outcome.ClusterRefusal.TheVariants.{NoMessage}
use Rattle.cluster_trace.specs.declared.outcome.EventAnswer.TheVariants.{Lost}
use Rattle.cluster_trace.specs.declared.outcome.Outcome.{Outcome}
use Rattle.cluster_parts.specs.Carried.{found_message, carried_out}
use Rattle.cluster_parts.specs.Noted.{answer_outcome, led_outcome}
use Rattle.cluster_parts.specs.declared.sent.Batch.{Batch}
use Rattle.cluster_parts.specs.declared.carried.Carried.TheVariants as carried
use Rattle.cluster_core.proofs.Naming.{state_with}
use Rattle.cluster_core.proofs.Answering.{on_ok, if_ok, nowhere_outcome, carried_outcome, carried_led, told_is, told_stays, told_leaves}
use Rattle.cluster_core.proofs.Delivering.{found_is, carried_is}
use Rattle.cluster_core.proofs.cluster.Cluster.deliver.Goals as goal

pub returns-in-Nowhere-clause-outcome : goal.returns-in-Nowhere-clause-outcome
returns-in-Nowhere-clause-outcome c =
    let own = c.self.inside in
    let state : Cluster = state_with own.core own.nodes own.leaders own.sent.batches.items in
    let found : Option Message = found_message c.as_ref.result in
    let is : found ≡ message_at c.args.number state.messages =
    found_is own.core.entries c.history.result.now own.sent.batches.items c.make_room.new.self.batches.items c.args.number c.find-found.result c.as_ref.result c.history.ensures.entries c.make_room.ensures.batches
    c.find-found.ensures c.as_ref.ensures.value in
    c.note_nothing.ensures
    ∙ ap (λ (n : ℕ). record { answer = Lost NoMessage; first = n + 1; count = 0 }) c.make_room.ensures.count
    ∙ nowhere_outcome own.core own.nodes own.leaders own.sent.batches.items own.sent.count c.self.invariant c.args.now found (sym c.in_ok-carried.ensures.carried ∙ c.in-Nowhere.is)
    ∙ ap (λ (own : Option Message). outcome_of state (message_delivered state c.args.now own)) is
    ∙ ap (λ (own : Cluster). outcome_of own (message_delivered own c.args.now (message_at c.args.number own.messages))) c.self.view_is

pub returns-in-Called-clause-outcome : goal.returns-in-Called-clause-outcome
returns-in-Called-clause-outcome c =
    let own = c.self.inside in
    let state : Cluster = state_with own.core own.nodes own.leaders own.sent.batches.items in
    let found : Option Message = found_message c.as_ref.result in
    let is : found ≡ message_at c.args.number state.messages =
    found_is own.core.entries c.history.result.now own.sent.batches.items c.make_room.new.self.batches.items c.args.number c.find-found.result c.as_ref.result c.history.ensures.entries c.make_room.ensures.batches
    c.find-found.ensures c.as_ref.ensures.value in
    c.note_answer.ensures.outcome
    ∙ ap (λ (n : ℕ). answer_outcome n c.in-Called.answered) c.make_room.ensures.count
    ∙ carried_outcome own.core own.nodes own.leaders own.sent.batches.items own.sent.count c.self.invariant c.args.now found c.in-Called.answered (sym c.in_ok-carried.ensures.carried ∙ c.in-Called.is)
    ∙ ap (λ (own : Option Message). outcome_of state (message_delivered state c.args.now own)) is
    ∙ ap (λ (own : Cluster). outcome_of own (message_delivered own c.args.now (message_at c.args.number own.messages))) c.self.view_is

pub returns-in-Led-clause-outcome : goal.returns-in-Led-clause-outcome
returns-in-Led-clause-outcome c =
    let own = c.self.inside in
    let state : Cluster = state_with own.core own.nodes own.leaders own.sent.batches.items in
    let found : Option Message = found_message c.as_ref.result in
    let is : found ≡ message_at c.args.number state.messages =
    found_is own.core.entries c.history.result.now own.sent.batches.items c.make_room.new.self.batches.items c.args.number c.find-found.result c.as_ref.result c.history.ensures.entries c.make_room.ensures.batches
    c.find-found.ensures c.as_ref.ensures.value in
    c.note_led.ensures.outcome
    ∙ ap (λ (n : ℕ). led_outcome n c.in-Led.answered) c.make_room.ensures.count
    ∙ carried_led own.core own.nodes own.leaders own.sent.batches.items own.sent.count c.self.invariant c.args.now found c.in-Led.answered (sym c.in_ok-carried.ensures.carried ∙ c.in-Led.is)
    ∙ ap (λ (own : Option Message). outcome_of state (message_delivered state c.args.now own)) is
    ∙ ap (λ (own : Cluster). outcome_of own (message_delivered own c.args.now (message_at c.args.number own.messages))) c.self.view_is

pub returns-in-Told-clause-ok : goal.returns-in-Told-clause-ok
returns-in-Told-clause-ok c =
    let own = c.self.inside in
    let now = c.args.now in
    let request = c.in-Told.request in
    let state : Cluster = state_with own.core own.nodes own.leaders own.sent.batches.items in
    let found : Option Message = found_message c.as_ref.result in
    let is : found ≡ message_at c.args.number state.messages =
    found_is own.core.entries c.history.result.now own.sent.batches.items c.make_room.new.self.batches.items c.args.number c.find-found.result c.as_ref.result c.history.ensures.entries c.make_room.ensures.batches
    c.find-found.ensures c.as_ref.ensures.value in
    let told : carried_out own.nodes own.leaders now found ≡ carried.Told request = sym c.in_ok-carried.ensures.carried ∙ c.in-Told.is in
    let there : carried_out c.args.self.now.nodes c.args.self.now.plans now (message_at c.args.number c.args.self.now.messages) ≡ carried.Told request =
    carried_is own.core own.nodes own.leaders own.sent.batches.items c.args.self.now c.args.number now found c.in_ok-carried.carried (carried.Told request) is
    c.in_ok-carried.ensures.carried c.in-Told.is c.self.view_is in
    let same : state_with own.core c.carry_out.new.nodes c.carry_out.new.leaders c.make_room.new.self.batches.items ≡ c.args.self.now =
    ap (λ (nodes : List (ℕ × DataNode)). state_with own.core nodes c.carry_out.new.leaders c.make_room.new.self.batches.items)
    (c.in_ok-carried.ensures.nodes ∙ told_stays own.nodes own.leaders now found request told)
    ∙ ap (λ (plans : List (ℕ × PlanTable)). state_with own.core own.nodes plans c.make_room.new.self.batches.items)
    (c.in_ok-carried.ensures.leaders ∙ told_leaves own.nodes own.leaders now found request told)
    ∙ ap (λ (batches : List Batch). state_with own.core own.nodes own.leaders batches) c.make_room.ensures.batches ∙ c.self.view_is in
    on_ok c.name.result (λ h.
    h ∙ ap (λ (own : Cluster). left_by own (request_named own request)) same
    ∙ ap (left_by c.args.self.now) (told_is c.args.self.now now (message_at c.args.number c.args.self.now.messages) request there)) c.name.ensures.ok

pub returns-in-Told-clause-outcome : goal.returns-in-Told-clause-outcome
returns-in-Told-clause-outcome c =
    let own = c.self.inside in
    let now = c.args.now in
    let request = c.in-Told.request in
    let state : Cluster = state_with own.core own.nodes own.leaders own.sent.batches.items in
    let found : Option Message = found_message c.as_ref.result in
    let is : found ≡ message_at c.args.number state.messages =
    found_is own.core.entries c.history.result.now own.sent.batches.items c.make_room.new.self.batches.items c.args.number c.find-found.result c.as_ref.result c.history.ensures.entries c.make_room.ensures.batches
    c.find-found.ensures c.as_ref.ensures.value in
    let told : carried_out own.nodes own.leaders now found ≡ carried.Told request = sym c.in_ok-carried.ensures.carried ∙ c.in-Told.is in
    let there : carried_out c.args.self.now.nodes c.args.self.now.plans now (message_at c.args.number c.args.self.now.messages) ≡ carried.Told request =
    carried_is own.core own.nodes own.leaders own.sent.batches.items c.args.self.now c.args.number now found c.in_ok-carried.carried (carried.Told request) is
    c.in_ok-carried.ensures.carried c.in-Told.is c.self.view_is in
    let same : state_with own.core c.carry_out.new.nodes c.carry_out.new.leaders c.make_room.new.self.batches.items ≡ c.args.self.now =
    ap (λ (nodes : List (ℕ × DataNode)). state_with own.core nodes c.carry_out.new.leaders c.make_room.new.self.batches.items)
    (c.in_ok-carried.ensures.nodes ∙ told_stays own.nodes own.leaders now found request told)
    ∙ ap (λ (plans : List (ℕ × PlanTable)). state_with own.core own.nodes plans c.make_room.new.self.batches.items)
    (c.in_ok-carried.ensures.leaders ∙ told_leaves own.nodes own.leaders now found request told)
    ∙ ap (λ (batches : List Batch). state_with own.core own.nodes own.leaders batches) c.make_room.ensures.batches ∙ c.self.view_is in
    if_ok (λ (outcome : Outcome). outcome ≡ outcome_of (state_with own.core c.carry_out.new.nodes c.carry_out.new.leaders c.make_room.new.self.batches.items) (request_named (state_with own.core c.carry_out.new.nodes c.carry_out.new.leaders c.make_room.new.self.batches.items) request))
    (λ (outcome : Outcome). outcome ≡ outcome_of c.args.self.now (message_delivered c.args.self.now now (message_at c.args.number c.args.self.now.messages))) c.name.result
    (λ outcome h. h ∙ ap (λ (own : Cluster). outcome_of own (request_named own request)) same
    ∙ ap (outcome_of c.args.self.now) (told_is c.args.self.now now (message_at c.args.number c.args.self.now.messages) request there)) c.name.ensures.outcome
