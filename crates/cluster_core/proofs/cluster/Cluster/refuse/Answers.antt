use Rattle.std.proofs.Common.{ℕ, ◌+◌, sym, ap, ◌∙◌}
use Rattle.cluster_trace.specs.Trace.{Cluster, event_lost, outcome_of}
use Rattle.cluster_trace.specs.declared.outcome.ClusterRefusal.TheVariants.{NotFromOutside}
use Rattle.cluster_trace.specs.declared.outcome.EventAnswer.TheVariants.{Lost}
use Rattle.cluster_core.proofs.Answering.{lost_outcome, not_taken}
use Rattle.cluster_core.proofs.cluster.Cluster.refuse.Goals as goal

pub returns-clause-outcome : goal.returns-clause-outcome
returns-clause-outcome c =
    let own = c.self.inside in
    c.note_nothing.ensures
    ∙ ap (λ (n : ℕ). record { answer = Lost NotFromOutside; first = n + 1; count = 0 }) c.make_room.ensures.count
    ∙ lost_outcome own.core own.nodes own.leaders own.sent.batches.items own.sent.count c.self.invariant NotFromOutside
    ∙ ap (λ (state : Cluster). outcome_of state (event_lost state NotFromOutside)) c.self.view_is
    ∙ ap (outcome_of c.args.self.now) (sym (not_taken c.args.self.now c.args.request.now c.requires))
