use Rattle.std.proofs.Common.{◌∙◌, ap, sym}
use Rattle.std.specs.Iterator.Adapters.{rev_source}
use Rattle.lease_manager.specs.Leases.{renewals_past_hard}
use Rattle.lease_manager.specs.Shown.{renewals_of}
use Rattle.lease_manager.proofs.Past.{none_behind, told_all}
use Rattle.lease_manager.proofs.leases.Leases.past_hard.Goals.{in-None, in-Some+then-not-is_past_hard}
use Rattle.lease_manager.proofs.leases.Leases.past_hard.Goals as goal

pub returns-clause-past : goal.returns-clause-past
returns-clause-past c =
    told_all _ _ _
    (elim c.match-next.branch [
      | in-None w ↦ ap (λ es. renewals_past_hard c.args.self.now.limits c.args.now (renewals_of es)) w.in-None.ensures.steps.0
      | in-Some+then-not-is_past_hard w ↦ none_behind c.args.self.now.limits c.args.now (w.in-Some.client.now, w.in-Some.last.now) (rev_source c.loop-client.client-iterator) (rev_source c.next.new.self) w.in-Some.ensures.steps c.loop-client.invariant.order (sym w.is_past_hard.ensures ∙ w.if-not-is_past_hard.true)
    ])
    c.loop-client.invariant.kept
