use Rattle.std.proofs.Common.{ℕ, ap, ◌∙◌}
use Rattle.cluster_trace.specs.Trace.{Cluster, leader_called, outcome_of}
use Rattle.cluster_parts.specs.Noted.{led_outcome}
use Rattle.cluster_core.proofs.Answering.{led_by_outcome}
use Rattle.cluster_core.proofs.cluster.Cluster.lead.Goals as goal

pub returns-clause-outcome : goal.returns-clause-outcome
returns-clause-outcome c =
    let own = c.self.inside in
    c.note_led.ensures.outcome
    ∙ ap (λ (n : ℕ). led_outcome n c.in_ok-answered.answered) c.make_room.ensures.count
    ∙ ap (led_outcome own.sent.count) c.in_ok-answered.ensures.answer
    ∙ led_by_outcome own.core own.nodes own.leaders own.sent.batches.items own.sent.count c.self.invariant c.args.node c.args.call.now
    ∙ ap (λ (state : Cluster). outcome_of state (leader_called state c.args.node c.args.call.now)) c.self.view_is
