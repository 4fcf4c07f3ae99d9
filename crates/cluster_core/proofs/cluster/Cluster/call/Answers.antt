use Rattle.std.proofs.Common.{ℕ, ap, ◌∙◌}
use Rattle.cluster_trace.specs.Trace.{Cluster, node_called, outcome_of}
use Rattle.cluster_parts.specs.Noted.{answer_outcome}
use Rattle.cluster_core.proofs.Answering.{called_outcome}
use Rattle.cluster_core.proofs.cluster.Cluster.call.Goals as goal

pub returns-clause-outcome : goal.returns-clause-outcome
returns-clause-outcome c =
    let own = c.self.inside in
    c.note_answer.ensures.outcome
    ∙ ap (λ (n : ℕ). answer_outcome n c.in_ok-answered.answered) c.make_room.ensures.count
    ∙ ap (answer_outcome own.sent.count) c.in_ok-answered.ensures.answer
    ∙ called_outcome own.core own.nodes own.leaders own.sent.batches.items own.sent.count c.self.invariant c.args.node c.args.now c.args.call.now
    ∙ ap (λ (state : Cluster). outcome_of state (node_called state c.args.node c.args.now c.args.call.now)) c.self.view_is
