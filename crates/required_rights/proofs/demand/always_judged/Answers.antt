use Rattle.std.proofs.Common.{rules}
use Rattle.std.proofs.lemmas.Fn.{filter_same}
use Rattle.required_rights.specs.RequiredRights.{Demand, is_judged_always}
use Rattle.required_rights.proofs.demand.always_judged.Goals as goal

pub returns : goal.returns
returns c = filter_same _ (λ (demand : Demand). is_judged_always demand.enforcement) _ (λ demand b f t. search rules) _ _ c.retain.ensures.filtered
