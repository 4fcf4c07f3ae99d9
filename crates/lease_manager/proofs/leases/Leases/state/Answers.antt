use Rattle.std.proofs.Common.{◌∙◌, ap, sym, Some}
use Rattle.std.specs.Option.{option_map}
use Rattle.lease_manager.specs.Leases.{Leases, lease_state, state_of}
use Rattle.lease_manager.proofs.Renewals.{looked_up, distinct_keys}
use Rattle.lease_manager.proofs.leases.Leases.state.Goals as goal

pub returns-in_err-last-clause-state : goal.returns-in_err-last-clause-state
returns-in_err-last-clause-state c =
    c.from_residual.ensures
    ∙ ap (option_map (λ last. lease_state c.args.self.now.limits last c.args.now)) c.in_err-last.ensures
    ∙ sym (looked_up (λ last. lease_state c.args.self.now.limits last c.args.now) c.args.client.now c.self.inside.renewals.entries (distinct_keys c.self.inside.renewals.entries c.self.invariant.0))
    ∙ ap (λ (leases : Leases). state_of (record { limits = c.args.self.now.limits; renewals = leases.renewals }) c.args.client.now c.args.now) c.self.view_is

pub returns-clause-state : goal.returns-clause-state
returns-clause-state c =
    ap Some c.state_since.ensures
    ∙ ap (option_map (λ last. lease_state c.args.self.now.limits last c.args.now)) c.in_ok-last.ensures
    ∙ sym (looked_up (λ last. lease_state c.args.self.now.limits last c.args.now) c.args.client.now c.self.inside.renewals.entries (distinct_keys c.self.inside.renewals.entries c.self.invariant.0))
    ∙ ap (λ (leases : Leases). state_of (record { limits = c.args.self.now.limits; renewals = leases.renewals }) c.args.client.now c.args.now) c.self.view_is
