use Rattle.std.proofs.Common.{◌∙◌, ap, sym, refl, is_some}
use Rattle.lease_manager.proofs.Renewals.{is_there, renewed}
use Rattle.lease_manager.proofs.leases.renew_present.Goals as goal

pub returns-in_default-clause-there : goal.returns-in_default-clause-there
returns-in_default-clause-there c = ap is_some c.in_default.ensures.value ∙ sym (is_there c.args.client.now c.args.renewals.now.entries)

pub returns-clause-there : goal.returns-clause-there
returns-clause-there c = ap is_some c.in-Some.ensures.value ∙ sym (is_there c.args.client.now c.args.renewals.now.entries)

pub returns-clause-renewed : goal.returns-clause-renewed
returns-clause-renewed c = (
  renewed c.args.client.now c.args.now c.args.renewals.now.entries _ c.len-before.ensures.valid.0 (sym (ap is_some c.in-Some.ensures.value)) refl,
  c.len-behind.ensures.valid.0,
)
